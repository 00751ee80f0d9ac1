-- The planes of a book by their numbers.
use Rattle.std.proofs.Common.{◌≡◌, ℕ, ◌<◌, zero, suc, List, [], ◌∷◌, length, Some, refl, arith}
use Rattle.std.specs.Prelude.{slice_get}
use Rattle.qm_space.specs.Plane.{Plane}
use Rattle.qm_space.specs.Book.{plane_at}

-- the plane that stands at a place is the plane of that number
pub plane_at_from : (planes : List Plane) (n : ℕ) (h : Plane) → slice_get planes n ≡ Some h → plane_at planes n ≡ h
plane_at_from [] n h at = absurd cc
plane_at_from (first ∷ planes) zero h at = cc
plane_at_from (first ∷ planes) (suc n) h at = plane_at_from planes n h at

-- and the plane of a number that is there stands at its place
pub stands_at : (planes : List Plane) (n : ℕ) → n < length planes → slice_get planes n ≡ Some (plane_at planes n)
stands_at [] n within = absurd (omega (arith, within))
stands_at (first ∷ planes) zero within = refl
stands_at (first ∷ planes) (suc n) within = stands_at planes n (omega (arith, within))
