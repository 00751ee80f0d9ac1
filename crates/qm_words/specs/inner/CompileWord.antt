use Rattle.std.specs.Prelude.{◌≡◌, ◌≢◌, ℕ, List, [], ◌∷◌, ◌++◌}
use Rattle.qm_commands.specs.CompileRequest.{FlagOption, flag_spelling, ValuedOption, option_spelling}
use Rattle.qm_commands.specs.FileNames.{IsFileName}
use Rattle.qm_words.specs.inner.EachWord.{Each}

-- What one word behind `compile` may be, whatever stands around it.
pub data IsCompileWord (word : List ℕ) : Type 0 where
  -- the name of a file, or the value of an option
  plain : IsFileName word → IsCompileWord word
  -- an option without a value
  bare : (flag : FlagOption) → word ≡ flag_spelling flag → IsCompileWord word
  -- an option whose value is the next word
  alone : (option : ValuedOption) → word ≡ option_spelling option → IsCompileWord word
  -- an option with its value
  within : (option : ValuedOption) (text : List ℕ) → word ≡ option_spelling option ++ (61 ∷ text) → text ≢ [] → IsCompileWord word

-- each word is one of these
abbrev pub EachIsCompileWord : List (List ℕ) → Type 0
EachIsCompileWord = Each IsCompileWord

-- a word is an option without a value
pub record IsFlag (word : List ℕ) : Type 0 where
  pub flag : FlagOption
  pub word_is : word ≡ flag_spelling flag

-- behind an option stands nothing, or `=` and a value
abbrev pub IsValueBehind : List ℕ → Type 0
IsValueBehind [] = Unit {0}
IsValueBehind (byte ∷ []) = ⊥
IsValueBehind (byte ∷ next ∷ bytes) = byte ≡ 61

-- a word is an option that has a value, with or without it
pub record IsValued (option word : List ℕ) : Type 0 where
  pub rest : List ℕ
  pub word_is : word ≡ option ++ rest
  pub is_value : IsValueBehind rest
