-- The value of a plane where three others meet, by the lines in which they meet two by two.
use Rattle.std.proofs.Common.{◌≡◌, []}
use Rattle.qm_space.specs.Plane.{Plane, value}
use Rattle.qm_space.specs.Determinant.{determinant}
use Rattle.qm_space.specs.Meet.{meet}
use Rattle.qm_space.specs.CommonLine.{common_line, moment_about, line_product}
use Rattle.qm_numbers.proofs.Ring.{Expression, ◌⊕◌, ◌⊖◌, ◌⊗◌, solved}
use Rattle.qm_space.proofs.PlaneSymbols.{PlaneSymbols, plane_from, numbers_of_plane, symbol_value, symbol_meet}

-- the direction of the line of a and b with the moment of that of c and e
symbol_turning : PlaneSymbols → PlaneSymbols → PlaneSymbols → PlaneSymbols → Expression
symbol_turning a b c e =
    (a.ny ⊗ b.nz ⊖ a.nz ⊗ b.ny) ⊗ (c.nx ⊗ e.d ⊖ c.d ⊗ e.nx)
    ⊕ (a.nz ⊗ b.nx ⊖ a.nx ⊗ b.nz) ⊗ (c.ny ⊗ e.d ⊖ c.d ⊗ e.ny)
    ⊕ (a.nx ⊗ b.ny ⊖ a.ny ⊗ b.nx) ⊗ (c.nz ⊗ e.d ⊖ c.d ⊗ e.nz)

pub value_by_lines : (g h a b : Plane) → value g (meet h a b) ≡ line_product (common_line g h) (common_line a b)
unfolding value meet determinant line_product moment_about common_line symbol_turning
value_by_lines g h a b =
    let p = plane_from 0 in let q = plane_from 4 in let r = plane_from 8 in let s = plane_from 12 in
    solved (numbers_of_plane g (numbers_of_plane h (numbers_of_plane a (numbers_of_plane b []))))
    (symbol_value p (symbol_meet q r s)) (symbol_turning p q r s ⊕ symbol_turning r s p q) tt
