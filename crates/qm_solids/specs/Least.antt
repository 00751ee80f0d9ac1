use Rattle.std.specs.Prelude.{◌≡◌, ◌⊎◌, ℕ, ◌≤◌, pos, List, Some, slice_get}
use Rattle.qm_space.specs.Plane.{Plane}
use Rattle.qm_solids.specs.Solid.{Solid}
use Rattle.qm_solids.specs.Candidates.{IsCandidate}

-- two components of the normal are 0
abbrev pub IsAxial : Plane → Type 0
IsAxial h =
    ((h.ny ≡ pos 0) × (h.nz ≡ pos 0)) ⊎ (((h.nx ≡ pos 0) × (h.nz ≡ pos 0)) ⊎ ((h.nx ≡ pos 0) × (h.ny ≡ pos 0)))

-- a plane of a book, by its number, that is a candidate in a cell
pub record IsNumberedCandidate (solids : List Solid) (book cell : List Plane) (n : ℕ) (h : Plane) : Type 0 where
  pub numbered : slice_get book n ≡ Some h
  pub candidate : IsCandidate solids cell h

-- no axial plane comes after one that is not, and of two that are both axial or both not the lesser number comes first
pub record ComesFirst (n : ℕ) (h : Plane) (m : ℕ) (g : Plane) : Type 0 where
  pub axial_first : IsAxial g → IsAxial h
  pub lesser_number : (IsAxial h → IsAxial g) → n ≤ m

-- the least candidate of a cell: of all that the book has it comes first
pub record IsLeastCandidate (solids : List Solid) (book cell : List Plane) (n : ℕ) (h : Plane) : Type 0 where
  pub is_one : IsNumberedCandidate solids book cell n h
  pub first : (m : ℕ) (g : Plane) → IsNumberedCandidate solids book cell m g → ComesFirst n h m g
