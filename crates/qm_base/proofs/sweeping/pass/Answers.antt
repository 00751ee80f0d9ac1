use Rattle.qm_base.proofs.SweepSteps.{passes, rests}
use Rattle.qm_base.proofs.sweeping.pass.Goals as goal

pub returns-then-due-eq0 : goal.returns-then-due-eq0
returns-then-due-eq0 c = rests c.args.world.now c.args.ways.now c.args.leaf c.args.seen.now c.args.passed.now c.requires.leaf c.requires.passed c.if-due-eq0.true

pub returns : goal.returns
returns c = passes c.args.world.now c.args.ways.now c.args.leaf c.args.seen.now c.args.passed.now c.requires.leaf c.requires.passed c.spread.new.seen c.if-due-eq0.false c.spread.ensures
