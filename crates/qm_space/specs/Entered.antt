use Rattle.std.specs.Prelude.{◌≡◌, ℕ, List, [], ◌∷◌, ◌++◌, length, Some, slice_get}
use Rattle.std.specs.declared.cmp.Ordering.{Ordering}
use Rattle.std.specs.Ordering.{int_cmp, ordering_then}
use Rattle.qm_space.specs.Plane.{Plane}

-- the answer to a plane that enters a book: its number, and the book afterwards
pub data EntersBook (old new : List Plane) (plane : Plane) (number : ℕ) : Type 0 where
  was_there : slice_get old number ≡ Some plane → new ≡ old → EntersBook old new plane number
  is_gained : ((n : ℕ) → slice_get old n ≡ Some plane → ⊥) → new ≡ old ++ plane ∷ [] → number ≡ length old → EntersBook old new plane number

-- planes in the order of their components
abbrev pub plane_cmp : Plane → Plane → Ordering
plane_cmp g h =
    ordering_then (int_cmp g.nx h.nx) (ordering_then (int_cmp g.ny h.ny) (ordering_then (int_cmp g.nz h.nz) (int_cmp g.d h.d)))

-- planes that enter a book one after another: the book before, the planes, the book afterwards
pub data AreEnteredInBook : List Plane → List Plane → List Plane → Type 0 where
  none : {book : List Plane} → AreEnteredInBook book [] book
  next : {old mid new planes : List Plane} {plane : Plane} {number : ℕ} →
      EntersBook old mid plane number → AreEnteredInBook mid planes new → AreEnteredInBook old (plane ∷ planes) new
