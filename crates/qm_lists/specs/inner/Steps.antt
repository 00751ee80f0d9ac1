use Rattle.std.specs.Prelude.{◌≡◌, ℕ, ◌+◌, ◌<◌, ◌≤◌, ◌++◌, eqb, List, Some, length, slice_get, slice_index_or, ◌↔◌, ◌⊎◌}
use Rattle.std.specs.List.{Contains, IsDistinct}
use Rattle.qm_lists.specs.Reach.{Reach}

-- Steps count how near places are to what begins: a place that begins has one, one to which it goes and that does not begin
-- two, and so on. A place that is not reached has none.

abbrev pub steps_of : List ℕ → ℕ → ℕ
steps_of steps place = slice_index_or steps place 0

-- these are the steps of all places
pub record AreSteps (begins : ℕ → Type 0) (goes : ℕ → ℕ → Type 0) (steps : List ℕ) : Type 0 where
  pub reached : (place : ℕ) → (0 < steps_of steps place) ↔ Reach begins goes place
  pub first : (place : ℕ) → (steps_of steps place ≡ 1) ↔ begins place
  pub onward : (from to : ℕ) → goes from to → 0 < steps_of steps from → steps_of steps to ≤ steps_of steps from + 1
  pub behind : (place n : ℕ) → steps_of steps place ≡ n + 2 → (from : ℕ) × (steps_of steps from ≡ n + 1) × goes from place

-- They are found breadth first: the places found so far are listed as they come, and the first of them are passed. The list
-- ascends in steps, and goes at most one step past the place that is passed next.
pub record IsSpread (begins : ℕ → Type 0) (goes : ℕ → ℕ → Type 0) (steps found : List ℕ) (passed : ℕ) : Type 0 where
  pub listed : (place : ℕ) → (0 < steps_of steps place) ↔ Contains found place
  pub reached : (place : ℕ) → 0 < steps_of steps place → Reach begins goes place
  pub first : (place : ℕ) → (steps_of steps place ≡ 1) ↔ begins place
  pub behind : (place n : ℕ) → steps_of steps place ≡ n + 2 → (from : ℕ) × (steps_of steps from ≡ n + 1) × goes from place
  pub closed : (i from to : ℕ) → i < passed → slice_get found i ≡ Some from → goes from to → (0 < steps_of steps to) × (steps_of steps to ≤ steps_of steps from + 1)
  pub ascends : (i j from to : ℕ) → i ≤ j → slice_get found i ≡ Some from → slice_get found j ≡ Some to → steps_of steps from ≤ steps_of steps to
  pub near : (next place : ℕ) → slice_get found passed ≡ Some next → Contains found place → steps_of steps place ≤ steps_of steps next + 1
  pub low : (i place : ℕ) → slice_get found i ≡ Some place → steps_of steps place ≤ i + 1
  pub once : IsDistinct eqb found

-- the first places of all, up to a number, are gone through: those of them that begin are found, with one step
pub record IsBegun (begins : ℕ → Type 0) (steps found : List ℕ) : Type 0 where
  pub small : (place : ℕ) → steps_of steps place ≤ 1
  pub starts : (place : ℕ) → place < length steps → begins place ↔ (0 < steps_of steps place)
  pub lists : (place : ℕ) → (0 < steps_of steps place) ↔ Contains found place
  pub once : IsDistinct eqb found

-- what passing a place does: places to which it goes, and that had no steps, get one more than it has
pub record SpreadsOn (goes : ℕ → ℕ → Type 0) (from : ℕ) (old_steps new_steps old_found new_found : List ℕ) : Type 0 where
  pub gained : List ℕ
  pub after_old : new_found ≡ old_found ++ gained
  pub stays : (place : ℕ) → 0 < steps_of old_steps place → steps_of new_steps place ≡ steps_of old_steps place
  pub found_all : (to : ℕ) → goes from to → 0 < steps_of new_steps to
  pub gained_only : (place : ℕ) → 0 < steps_of new_steps place → (0 < steps_of old_steps place) ⊎ Contains gained place
  pub gained_new : (place : ℕ) → Contains gained place → steps_of old_steps place ≡ 0
  pub gained_steps : (place : ℕ) → Contains gained place → steps_of new_steps place ≡ steps_of old_steps from + 1
  pub gained_behind : (place : ℕ) → Contains gained place → goes from place
  pub once : IsDistinct eqb new_found
