use Rattle.std.proofs.Common.{take}
use Rattle.qm_brush.specs.inner.Added.{AreAdded}
use Rattle.qm_brush.proofs.listing.listed.Given as goal

-- the brushes before are in the list
abbrev pub invariant-loop-brush : goal.invariant-loop-brush
invariant-loop-brush l = AreAdded (take l.brush-index l.brushes) l.list l.initial.book l.book
