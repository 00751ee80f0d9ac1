-- The bounds across the axes stay the first ones of a cell.
use Rattle.std.proofs.Common.{◌≡◌, ℕ, zero, suc, ◌≤◌, ◌≤ℤ◌, List, [], ◌∷◌, ◌++◌, length, take, get_or, set, sym, ◌∙◌, subst, arith}
use Rattle.std.proofs.lemmas.Int.{ints}
use Rattle.std.specs.List.{AllZip}
use Rattle.qm_space.specs.Plane.{Plane}
use Rattle.qm_convex.specs.Section.{HasSameNormal, IsAxialBound}
use Rattle.qm_portal.specs.inner.Cells.{BeginAxially}

-- a plane that is pushed comes after them
pushed : (h : Plane) (bounds : List Plane) → BeginAxially bounds → BeginAxially (bounds ++ h ∷ [])
pushed h [] are = absurd are
pushed h (a ∷ []) are = absurd are.1
pushed h (a ∷ b ∷ []) are = absurd are.1.1
pushed h (a ∷ b ∷ c ∷ []) are = absurd are.1.1.1
pushed h (a ∷ b ∷ c ∷ d ∷ []) are = absurd are.1.1.1.1
pushed h (a ∷ b ∷ c ∷ d ∷ e ∷ []) are = absurd are.1.1.1.1.1
pushed h (a ∷ b ∷ c ∷ d ∷ e ∷ f ∷ bounds) are = are

pub axial_pushed : (h : Plane) (old new : List Plane) → new ≡ old ++ h ∷ [] → BeginAxially old → BeginAxially new
axial_pushed h old new is are = subst BeginAxially (sym is) (pushed h old are)

-- and there are six of them
pub six_axial : (bounds : List Plane) → BeginAxially bounds → 6 ≤ length bounds
six_axial [] are = absurd are
six_axial (a ∷ []) are = absurd are.1
six_axial (a ∷ b ∷ []) are = absurd are.1.1
six_axial (a ∷ b ∷ c ∷ []) are = absurd are.1.1.1
six_axial (a ∷ b ∷ c ∷ d ∷ []) are = absurd are.1.1.1.1
six_axial (a ∷ b ∷ c ∷ d ∷ e ∷ []) are = absurd are.1.1.1.1.1
six_axial (a ∷ b ∷ c ∷ d ∷ e ∷ f ∷ bounds) are = omega arith

-- one that is nearer takes the place of the one before
axial_nearer : (bound h wall : Plane) → HasSameNormal bound h → bound.d ≤ℤ h.d → IsAxialBound bound wall → IsAxialBound h wall
axial_nearer bound h wall same less is = record {
  normal = record { nx = sym same.nx ∙ is.normal.nx; ny = sym same.ny ∙ is.normal.ny; nz = sym same.nz ∙ is.normal.nz };
  inside = let inside = is.inside in omega (arith, ints);
}

set_nearer : (n : ℕ) (bounds walls : List Plane) (i : ℕ) (h : Plane) → HasSameNormal (get_or bounds i h) h → (get_or bounds i h).d ≤ℤ h.d → AllZip IsAxialBound (take n bounds) walls → AllZip IsAxialBound (take n (set bounds i h)) walls
set_nearer zero bounds walls i h same less are = are
set_nearer (suc n) [] walls i h same less are = are
set_nearer (suc n) (bound ∷ bounds) [] i h same less are = absurd are
set_nearer (suc n) (bound ∷ bounds) (wall ∷ walls) zero h same less are = (axial_nearer bound h wall same less are.0, are.1)
set_nearer (suc n) (bound ∷ bounds) (wall ∷ walls) (suc i) h same less are = (are.0, set_nearer n bounds walls i h same less are.1)

pub axial_nearer_set : (old new : List Plane) (i : ℕ) (h : Plane) → HasSameNormal (get_or old i h) h → (get_or old i h).d ≤ℤ h.d → new ≡ set old i h → BeginAxially old → BeginAxially new
axial_nearer_set old new i h same less is are = subst BeginAxially (sym is) (set_nearer 6 old _ i h same less are)
