-- Planes and points whose numbers are expressions, for identities about them: `solved` computes with these,
-- and the value of each is the word of the same name.
use Rattle.std.proofs.Common.{ℕ, ◌+◌, ℤ, pos, List, ◌∷◌}
use Rattle.qm_space.specs.Point.{Point}
use Rattle.qm_space.specs.Plane.{Plane}
use Rattle.qm_numbers.proofs.Ring.{Expression, variable, number, negated, ◌⊕◌, ◌⊖◌, ◌⊗◌}

pub record PlaneSymbols : Type 0 where
  pub nx : Expression
  pub ny : Expression
  pub nz : Expression
  pub d : Expression

pub record PointSymbols : Type 0 where
  pub x : Expression
  pub y : Expression
  pub z : Expression
  pub w : Expression

-- the four variables from the place n on
abbrev pub plane_from : ℕ → PlaneSymbols
plane_from n = record { nx = variable n; ny = variable (n + 1); nz = variable (n + 2); d = variable (n + 3) }

abbrev pub point_from : ℕ → PointSymbols
point_from n = record { x = variable n; y = variable (n + 1); z = variable (n + 2); w = variable (n + 3) }

-- the numbers of a plane or a point, before others
abbrev pub numbers_of_plane : Plane → List ℤ → List ℤ
numbers_of_plane h rest = h.nx ∷ h.ny ∷ h.nz ∷ h.d ∷ rest

abbrev pub numbers_of_point : Point → List ℤ → List ℤ
numbers_of_point p rest = p.x ∷ p.y ∷ p.z ∷ p.w ∷ rest

abbrev pub symbol_value : PlaneSymbols → PointSymbols → Expression
symbol_value h p = h.nx ⊗ p.x ⊕ h.ny ⊗ p.y ⊕ h.nz ⊗ p.z ⊖ h.d ⊗ p.w

abbrev pub symbol_determinant : Expression → Expression → Expression → Expression → Expression → Expression → Expression → Expression → Expression → Expression
symbol_determinant a1 a2 a3 b1 b2 b3 c1 c2 c3 =
    a1 ⊗ (b2 ⊗ c3 ⊖ b3 ⊗ c2) ⊖ a2 ⊗ (b1 ⊗ c3 ⊖ b3 ⊗ c1) ⊕ a3 ⊗ (b1 ⊗ c2 ⊖ b2 ⊗ c1)

abbrev pub symbol_meet : PlaneSymbols → PlaneSymbols → PlaneSymbols → PointSymbols
symbol_meet a b c = record {
  x = symbol_determinant a.d a.ny a.nz b.d b.ny b.nz c.d c.ny c.nz;
  y = symbol_determinant a.nx a.d a.nz b.nx b.d b.nz c.nx c.d c.nz;
  z = symbol_determinant a.nx a.ny a.d b.nx b.ny b.d c.nx c.ny c.d;
  w = symbol_determinant a.nx a.ny a.nz b.nx b.ny b.nz c.nx c.ny c.nz;
}

abbrev pub symbol_determinant_of_four : PlaneSymbols → PlaneSymbols → PlaneSymbols → PlaneSymbols → Expression
symbol_determinant_of_four h a b c =
    h.nx ⊗ symbol_determinant a.ny a.nz a.d b.ny b.nz b.d c.ny c.nz c.d
    ⊖ h.ny ⊗ symbol_determinant a.nx a.nz a.d b.nx b.nz b.d c.nx c.nz c.d
    ⊕ h.nz ⊗ symbol_determinant a.nx a.ny a.d b.nx b.ny b.d c.nx c.ny c.d
    ⊖ h.d ⊗ symbol_determinant a.nx a.ny a.nz b.nx b.ny b.nz c.nx c.ny c.nz

abbrev pub symbol_scaled : Expression → PlaneSymbols → PlaneSymbols
symbol_scaled k h = record { nx = k ⊗ h.nx; ny = k ⊗ h.ny; nz = k ⊗ h.nz; d = k ⊗ h.d }

abbrev pub symbol_flipped : PlaneSymbols → PlaneSymbols
symbol_flipped h = record { nx = negated h.nx; ny = negated h.ny; nz = negated h.nz; d = negated h.d }

abbrev pub symbol_sum : PointSymbols → PointSymbols → PointSymbols
symbol_sum p q = record { x = p.x ⊕ q.x; y = p.y ⊕ q.y; z = p.z ⊕ q.z; w = p.w ⊕ q.w }

abbrev pub symbol_times : Expression → PointSymbols → PointSymbols
symbol_times k p = record { x = k ⊗ p.x; y = k ⊗ p.y; z = k ⊗ p.z; w = k ⊗ p.w }

abbrev pub symbol_along : PlaneSymbols → PlaneSymbols → PointSymbols
symbol_along a b = record {
  x = a.ny ⊗ b.nz ⊖ a.nz ⊗ b.ny;
  y = a.nz ⊗ b.nx ⊖ a.nx ⊗ b.nz;
  z = a.nx ⊗ b.ny ⊖ a.ny ⊗ b.nx;
  w = number (pos 0);
}
