use Rattle.std.specs.Prelude.{◌≡◌, ◌≢◌, ℕ, ℤ, List, [], ◌∷◌, ◌++◌}
use Rattle.qm_commands.specs.QueryWord.{AreMillionths, ArePlaceNumbers}
use Rattle.qm_commands.specs.declared.millionths.Millionths.{Millionths}

-- Places that are read, number by number.

-- no byte is a comma
abbrev pub HasNoComma : List ℕ → Type 0
HasNoComma [] = Unit {0}
HasNoComma (byte ∷ bytes) = (byte ≢ 44) × HasNoComma bytes

-- what stands before the first comma, and behind it
pub record IsCommaSplit (text first rest : List ℕ) : Type 0 where
  pub text_is : text ≡ first ++ (44 ∷ rest)
  pub clear : HasNoComma first

-- a number before the first comma of a text, and what stands behind it
pub record IsNumberBefore (text : List ℕ) (n : ℤ) (rest : List ℕ) : Type 0 where
  pub first : List ℕ
  pub text_is : text ≡ first ++ (44 ∷ rest)
  pub is_number : AreMillionths first n

-- a place before the third comma of a text, and what stands behind it
pub record IsPlaceBefore (text : List ℕ) (at : Millionths) (rest : List ℕ) : Type 0 where
  pub front : List ℕ
  pub text_is : text ≡ front ++ (44 ∷ rest)
  pub is_place : ArePlaceNumbers front at.x at.y at.z
