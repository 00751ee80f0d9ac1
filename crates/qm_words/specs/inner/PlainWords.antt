use Rattle.std.specs.Prelude.{ℕ, List}
use Rattle.qm_commands.specs.FileNames.{IsFileName}
use Rattle.qm_words.specs.inner.EachWord.{Each}

-- words none of which is empty or begins with a hyphen
abbrev pub ArePlainWords : List (List ℕ) → Type 0
ArePlainWords = Each IsFileName
