use Rattle.std.proofs.Common.{None, [], arith}
use Rattle.std.proofs.lemmas.Result.{IfOk-weaker}
use Rattle.qm_solids.specs.InBook.{solids_in}
use Rattle.qm_split.specs.inner.Gathered.{IsGathered}
use Rattle.qm_split.proofs.gathering.Gathering.in_cube_halves.Goals as goal

pub returns : goal.returns
returns g c = IfOk-weaker c.of_parts.result _ (IsGathered c.args.book.now [] None (solids_in c.args.book.now c.args.list.now))
    (λ gathering is. is c.args.book.now c.args.list.now c.requires.filled (let long = c.in_ok-parts.ensures.0 in omega (arith, long)) c.in_ok-parts.ensures.1) c.of_parts.ensures
