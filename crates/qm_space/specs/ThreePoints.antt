use Rattle.std.specs.Prelude.{ℕ, ℤ, pos, ◌+ℤ◌, ◌*ℤ◌, Bool, IsTrue, unsigned_abs, int_div}
use Rattle.qm_numbers.specs.GreatestDivisor.{IsGreatestDivisor}
use Rattle.qm_numbers.proofs.Divisors.{divisor_of_four}
use Rattle.qm_space.specs.Point.{Point}
use Rattle.qm_space.specs.Plane.{Plane}
use Rattle.qm_space.specs.Multiple.{IsPositiveMultiple}
use Rattle.qm_space.specs.Turned.{turned}
use Rattle.qm_space.specs.Vector.{cross, step_between}
use Rattle.qm_space.specs.Reduced.{leads_positive, HasLargeNormal, IsReduced}
use Rattle.qm_space.specs.Line.{AreOnOneLine}

-- Three points with one w: those of a face of a brush are in thousandths, so their w is 1000; that of whole points is 1.

-- the outward plane over their numerators: its normal is (p0 - p1) × (p2 - p1), and it holds p1
unfoldable pub outward_plane : Point → Point → Point → Plane
outward_plane p0 p1 p2 =
    let n = cross (step_between p1 p0) (step_between p1 p2) in
    record { nx = n.x; ny = n.y; nz = n.z; d = ((n.x *ℤ p1.x) +ℤ (n.y *ℤ p1.y)) +ℤ (n.z *ℤ p1.z) }

-- a plane over numerators as the plane in space, where each numerator stands for a w-th of it
unfoldable pub in_space : ℤ → Plane → Plane
in_space w h = record { nx = w *ℤ h.nx; ny = w *ℤ h.ny; nz = w *ℤ h.nz; d = h.d }

-- the plane that the points span, turned outward and not in lowest terms
abbrev pub spanned_plane : Point → Point → Point → Plane
spanned_plane p0 p1 p2 = in_space p1.w (outward_plane p0 p1 p2)

-- a number divides all four numbers of a plane, and whatever divides them all divides it
abbrev pub IsCommonFactor : Plane → ℕ → Type 0
IsCommonFactor h k = IsGreatestDivisor (unsigned_abs h.nx) (unsigned_abs h.ny) (unsigned_abs h.nz) (unsigned_abs h.d) k

-- every plane has such a number, and no other: so it does not matter how it is found
unfoldable pub factor_of : (h : Plane) → (k : ℕ) × IsCommonFactor h k
factor_of h = divisor_of_four (unsigned_abs h.nx) (unsigned_abs h.ny) (unsigned_abs h.nz) (unsigned_abs h.d)

unfoldable pub common_factor : Plane → ℕ
common_factor h = (factor_of h).0

-- the plane in lowest terms
unfoldable pub reduced : Plane → Plane
reduced h =
    let k = pos (common_factor h) in
    record { nx = int_div h.nx k; ny = int_div h.ny k; nz = int_div h.nz k; d = int_div h.d k }

-- the plane in lowest terms with its first component that is not 0 positive, and whether the front of the one given is
-- its front
abbrev pub in_lowest_terms : Plane → Plane × Bool
in_lowest_terms out = (reduced (turned (leads_positive out) out), leads_positive out)

-- the plane through three points, and whether the outward normal points to its front
unfoldable pub plane_through : Point → Point → Point → Plane × Bool
plane_through p0 p1 p2 = in_lowest_terms (spanned_plane p0 p1 p2)

-- what makes it the plane through the points: a reduced plane that leads with a positive component; the plane that they
-- span is a positive multiple of it, turned to the side that the flag says
pub record IsPlaneThrough (p0 p1 p2 : Point) (plane : Plane) (out_is_front : Bool) : Type 0 where
  pub is_reduced : IsReduced plane
  pub leads : IsTrue (leads_positive plane)
  pub multiple : IsPositiveMultiple (spanned_plane p0 p1 p2) (turned out_is_front plane)

-- the plane through the points is too fine: they do not lie on one line, and in lowest terms some component of its normal
-- is beyond the bound
pub record IsPlaneTooFine (p0 p1 p2 : Point) : Type 0 where
  pub apart : (AreOnOneLine p0 p1 p2 → ⊥)
  pub large : HasLargeNormal (plane_through p0 p1 p2).0
