use Rattle.std.proofs.Common.{take}
use Rattle.qm_solids.specs.InBook.{solids_in}
use Rattle.qm_solids.specs.Contents.{HasContents}
use Rattle.qm_brush.specs.inner.Entries.{solids_of_entries}
use Rattle.qm_brush.proofs.brush_list.BrushList.contents_at.Given as goal

-- what is found so far is what the brushes before make of the point
abbrev pub invariant-loop-entry : goal.invariant-loop-entry
invariant-loop-entry l =
    HasContents (solids_in l.planes (solids_of_entries l.faces (take l.entry-index l.entry-items))) l.at l.found
