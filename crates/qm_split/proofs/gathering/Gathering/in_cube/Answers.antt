use Rattle.std.proofs.Common.{None, List, [], take, subst, arith}
use Rattle.qm_solids.specs.Solid.{Solid}
use Rattle.qm_solids.specs.InBook.{solid_at, solid_in, solids_in}
use Rattle.qm_split.specs.inner.Gathered.{IsGathered}
use Rattle.qm_split.proofs.MadeFragments.{solids_more}
use Rattle.qm_split.proofs.gathering.Gathering.in_cube.Goals as goal

pub loop-i-init : goal.loop-i-init
loop-i-init c = c.in_ok-gathering.ensures.gathered c.args.book.now []

pub loop-i-preserved : goal.loop-i-preserved
loop-i-preserved c =
    subst (λ (ss : List Solid). IsGathered c.args.book.now [] None ss c.add.new.self) (solids_more c.args.book.now c.args.list.now c.requires.filled c.loop-i.i (omega arith))
    (c.in_ok-add.ensures.gathered c.args.book.now [] None (solids_in c.args.book.now (take c.loop-i.i c.args.list.now)) (solid_in c.args.book.now (solid_at c.args.list.now c.loop-i.i)) c.loop-i.invariant c.in_ok-brush_in_cube.ensures)
