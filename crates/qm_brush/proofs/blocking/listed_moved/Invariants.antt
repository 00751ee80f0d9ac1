use Rattle.std.proofs.Common.{take}
use Rattle.qm_brush.specs.inner.MovedAdded.{AreMovedIn}
use Rattle.qm_brush.proofs.blocking.listed_moved.Given as goal

-- the obstacles among the brushes before are in the list
abbrev pub invariant-loop-brush : goal.invariant-loop-brush
invariant-loop-brush l = AreMovedIn l.cuboid (take l.brush-index l.brushes) l.list l.initial.book l.book
