use Rattle.std.specs.Prelude.{◌≡◌, ◌≤◌, ℕ, List, None, length, Result, Ok, Err}
use Rattle.std.specs.Prelude.{map as mapped}
use Rattle.qm_tokens.specs.Lexing.{Lexing, IsLexingOf}
use Rattle.qm_mapfile.specs.declared.entity.MapFile.{MapFile}
use Rattle.qm_grammar.specs.declared.fault.MapFault.{MapFault}
use Rattle.qm_grammar.specs.Symbol.{symbol_of}
use Rattle.qm_grammar.specs.Grammar.{SpellsMap}
use Rattle.qm_grammar.specs.Faults.{text_limit, IsFirstFault}

-- a text of a map: it is not too long, its quotes are closed, and its tokens spell the map
pub record IsMapText (text : List ℕ) (map : MapFile) : Type 0 where
  pub short : length text ≤ text_limit
  pub lexing : Lexing
  pub is_lexing : IsLexingOf text lexing
  pub closed : lexing.unclosed_line ≡ None
  pub spelled : SpellsMap (mapped symbol_of lexing.lexemes) map

-- a text of no map: this is its first fault
pub record IsFaultText (text : List ℕ) (found : MapFault) : Type 0 where
  pub lexing : Lexing
  pub is_lexing : IsLexingOf text lexing
  pub first : IsFirstFault text lexing found

-- what a text means: a map, or the first fault
abbrev pub Means : List ℕ → Result MapFile MapFault → Type 0
Means text (Ok map) = IsMapText text map
Means text (Err found) = IsFaultText text found

-- a text means something
abbrev pub HasMeaning : List ℕ → Type 0
HasMeaning text = (meaning : Result MapFile MapFault) × Means text meaning
