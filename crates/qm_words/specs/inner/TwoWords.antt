use Rattle.std.specs.Prelude.{◌≡◌, ◌≢◌, ◌⊎◌, ℕ, List, [], ◌∷◌, Some, None, Result, Ok, Err}
use Rattle.std.specs.Borrow.{Bor}
use Rattle.clap.specs.Walk.{Row, Text, first_of}
use Rattle.qm_commands.specs.FileNames.{IsFileName}
use Rattle.qm_words.specs.declared.order.WordsFault.{WordsFault}
use Rattle.qm_words.specs.declared.order.WordsFault.TheVariants.{Usage, Memory}

-- words are these two, and neither is empty or begins with a hyphen
pub record AreTwo (words : List (List ℕ)) (first second : List ℕ) : Type 0 where
  pub words_are : words ≡ first ∷ second ∷ []
  pub first_is : IsFileName first
  pub second_is : IsFileName second

-- the two words behind a verb, or there are not two
abbrev pub IsPairOf : List (List ℕ) → Result (Bor (List ℕ) × Bor (List ℕ)) WordsFault → Type 0
IsPairOf words (Ok pair) = AreTwo words pair.0.now pair.1.now
IsPairOf words (Err Usage) = (first second : List ℕ) → AreTwo words first second → ⊥
IsPairOf words (Err Memory) = Unit {0}

-- two different names of files behind a verb, or there are no such two
abbrev pub AreNamesOf : List (List ℕ) → Result (Bor (List ℕ) × Bor (List ℕ)) WordsFault → Type 0
AreNamesOf words (Ok pair) = AreTwo words pair.0.now pair.1.now × (pair.0.now ≢ pair.1.now)
AreNamesOf words (Err Usage) = (first second : List ℕ) → AreTwo words first second → first ≢ second → ⊥
AreNamesOf words (Err Memory) = Unit {0}

-- the parser has found these words of two arguments
abbrev pub HasPair : Text → Text → List Row → List ℕ → List ℕ → Type 0
HasPair first_id second_id rows first second = (first_of first_id rows ≡ Some first) × (first_of second_id rows ≡ Some second)

-- one of them is missing
abbrev pub LacksPair : Text → Text → List Row → Type 0
LacksPair first_id second_id rows = (first_of first_id rows ≡ None) ⊎ (first_of second_id rows ≡ None)
