-- Worked rows: of two planes across x, turned inward, the one at 16 lies farther in than the one at -16, and both are bounds across
-- the axis of the cube's wall.
use Rattle.std.proofs.Common.{zero, suc, ℤ, pos, neg_ℤ, [], ◌∷◌, Contains, refl, ap, arith}
use Rattle.std.proofs.lemmas.Int.{ints}
use Rattle.qm_space.specs.Plane.{Plane, plane_of, flipped}
use Rattle.qm_space.specs.Cube.{wall_x}
use Rattle.qm_half_spaces.specs.inner.AxialPlanes.{IsFarther, IsBoundAmong}

abbrev at : ℤ → Plane
at x = plane_of (pos 1) (pos 0) (pos 0) x

abbrev near : Plane
near = at (neg_ℤ (pos 16))

abbrev far : Plane
far = at (pos 16)

abbrev slanted : Plane
slanted = plane_of (pos 1) (pos 1) (pos 0) (pos 16)

farther_row : IsFarther far near
farther_row = record { normal = record { nx = refl; ny = refl; nz = refl }; inside = omega (arith, ints) }

-- a plane is as far in as itself
itself_row : IsFarther far far
itself_row = record { normal = record { nx = refl; ny = refl; nz = refl }; inside = omega (arith, ints) }

nearer_row : IsFarther near far → ⊥
nearer_row farther = let inside = farther.inside in absurd (omega (arith, ints))

-- nor is a plane that is turned the other way, or slanted
turned_row : IsFarther (flipped near) near → ⊥
turned_row farther = let same = farther.normal.nx in absurd (omega (arith, ints))

slanted_row : IsFarther slanted near → ⊥
slanted_row farther = let same = farther.normal.ny in absurd (omega (arith, ints))

-- ---- bounds among the planes

bound_row : IsBoundAmong (slanted ∷ far ∷ []) far wall_x
bound_row = record { axial = record { normal = record { nx = refl; ny = refl; nz = refl }; inside = omega (arith, ints) }; among = (2, omega arith, refl) }

-- the wall bounds where no plane does
wall_row : IsBoundAmong [] wall_x wall_x
wall_row = record { axial = record { normal = record { nx = refl; ny = refl; nz = refl }; inside = omega (arith, ints) }; among = (0, omega arith, refl) }

-- a slanted plane is no bound, though it is among them; nor is a plane that is not
slanted_bound_row : IsBoundAmong (slanted ∷ far ∷ []) slanted wall_x → ⊥
slanted_bound_row bound = let same = bound.axial.normal.ny in absurd (omega (arith, ints))

other_row : IsBoundAmong (slanted ∷ far ∷ []) near wall_x → ⊥
other_row bound = not_among bound.among
  where
    not_among : Contains (wall_x ∷ slanted ∷ far ∷ []) near → ⊥
    not_among (zero, less, is) = let e = ap (λ (p : Plane). p.d) is in absurd (omega (arith, ints))
    not_among (suc zero, less, is) = let e = ap (λ (p : Plane). p.ny) is in absurd (omega (arith, ints))
    not_among (suc (suc zero), less, is) = let e = ap (λ (p : Plane). p.d) is in absurd (omega (arith, ints))
    not_among (suc (suc (suc k)), less, is) = absurd (omega (arith, less))
