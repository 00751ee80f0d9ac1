use Rattle.std.specs.Prelude.{◌≡◌, take}
use Rattle.qm_half_spaces.specs.HalfCells.{cell_of_halves}
use Rattle.qm_models.specs.inner.BehindFaces.{cell_behind}
use Rattle.qm_models.proofs.outline.inner_halves.Given as goal

abbrev pub invariant-loop-face : goal.invariant-loop-face
invariant-loop-face l = cell_of_halves l.halves.items ≡ cell_behind l.planes (take l.face-index l.faces)
