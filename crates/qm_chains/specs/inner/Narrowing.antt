use Rattle.std.specs.Prelude.{◌≡◌, ◌↔◌, ℕ, ◌/◌, ◌<◌, Bool, List, length}
use Rattle.qm_lists.specs.WorkList.{IsIn}

-- A mask is narrowed by what was read of a row: it keeps each leaf that an answer must have, and it keeps only leaves that one
-- can have. Which leaves these are is any property of their numbers.
pub record IsNarrowed (Must Can : ℕ → Type 0) (old new : List Bool) : Type 0 where
  pub same_length : length new ≡ length old
  pub within : (n : ℕ) → IsIn new n → IsIn old n × Can n
  pub keeps : (n : ℕ) → IsIn old n → Must n → IsIn new n

-- it is narrowed by so many words, the first ones, of the row
pub record IsNarrowedUpTo (Must Can : ℕ → Type 0) (words : ℕ) (old new : List Bool) : Type 0 where
  pub same_length : length new ≡ length old
  pub within : (n : ℕ) → IsIn new n → IsIn old n × (n / 64 < words → Can n)
  pub keeps : (n : ℕ) → IsIn old n → Must n → IsIn new n

-- a row shows nothing new: each leaf that an answer must have, and that the mask has, was found
abbrev pub ShowsNothingNew : (ℕ → Type 0) → List Bool → List Bool → Type 0
ShowsNothingNew Must mask found = (n : ℕ) → IsIn mask n → Must n → IsIn found n

-- so far, by the first words of the row
abbrev pub ShowsNothingNewUpTo : (ℕ → Type 0) → ℕ → List Bool → List Bool → Type 0
ShowsNothingNewUpTo Must words mask found = (n : ℕ) → n / 64 < words → IsIn mask n → Must n → IsIn found n

-- a row loses one place and keeps all others
pub record IsWithout (place : ℕ) (old new : List Bool) : Type 0 where
  pub same_length : length new ≡ length old
  pub exactly : (n : ℕ) → IsIn new n ↔ IsIn old n × (place ≡ n → ⊥)
