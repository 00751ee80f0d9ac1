use Rattle.std.specs.Prelude.{take}
use Rattle.qm_solids.specs.InBook.{solids_in}
use Rattle.qm_outlines.specs.inner.Outlined.{IsOutlined}
use Rattle.qm_models.proofs.outline.outline_of.Given as goal

abbrev pub invariant-loop-i : goal.invariant-loop-i
invariant-loop-i l = IsOutlined l.tree (solids_in l.book (take l.i l.list)) l.some l.outline.extents l.outline.touched.items
