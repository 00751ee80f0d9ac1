use Rattle.std.proofs.Common.{Bool, IsTrue, ◌↔◌, sym, subst}
use Rattle.qm_space.specs.Cell.{HasPoint}
use Rattle.qm_facets.proofs.MorePlanes.{some_or_none}
use Rattle.qm_half_spaces.specs.HalfCells.{cell_of_halves}
use Rattle.qm_half_spaces.proofs.opening.open_point.Goals as goal

pub returns : goal.returns
returns c =
    subst (λ (b : Bool). IsTrue b ↔ HasPoint (cell_of_halves c.args.halves.now)) (sym c.is_some.ensures)
    (some_or_none (cell_of_halves c.args.halves.now) c.in_ok-left.left c.in_ok-left.ensures)
