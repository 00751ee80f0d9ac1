use Rattle.std.proofs.Common.{◌≡◌, ℕ, ◌+◌, ◌≤◌, List, [], ◌∷◌, length, arith, length-append, slice_get, Some}
use Rattle.qm_space.specs.Plane.{Plane}
use Rattle.qm_space.specs.Entered.{EntersBook, was_there, is_gained}
use Rattle.qm_lists.proofs.Places.{slice_get-push_old, slice_get-push_last}

-- the number is the plane's place
pub entered_at : (old new : List Plane) (plane : Plane) (number : ℕ) → EntersBook old new plane number → slice_get new number ≡ Some plane
entered_at old new plane number (was_there at same) = rw same at
entered_at old new plane number (is_gained _ after last) = rw (after, last) (slice_get-push_last old plane)

-- planes that were there keep their numbers
pub earlier_stay : (old new : List Plane) (plane : Plane) (number : ℕ) → EntersBook old new plane number → (n : ℕ) (other : Plane) → slice_get old n ≡ Some other → slice_get new n ≡ Some other
earlier_stay old new plane number (was_there _ same) n other at = rw same at
earlier_stay old new plane number (is_gained _ after _) n other at = rw after (slice_get-push_old old plane other n at)

-- the book has at most one plane more
pub length-entered : (old new : List Plane) (plane : Plane) (number : ℕ) → EntersBook old new plane number → length new ≤ length old + 1
length-entered old new plane number (was_there _ same) = rw same (omega arith)
length-entered old new plane number (is_gained _ after _) = rw after (omega (arith, length-append old (plane ∷ [])))
