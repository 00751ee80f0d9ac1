use Rattle.std.specs.Prelude.{◌≡◌, ◌≢◌, ◌<◌, ◌≤◌, ◌⊎◌, ℕ, ◌+◌, List, [], ◌∷◌, ◌++◌, Some, None, length, map, take}
use Rattle.qm_tokens.specs.Lexeme.{Lexeme, quote_length, line_ends}
use Rattle.qm_tokens.specs.Lexing.{Lexing}
use Rattle.qm_grammar.specs.declared.limit.TheConstants.{TEXT_LIMIT}
use Rattle.qm_grammar.specs.declared.context.Context.TheVariants as context
use Rattle.qm_grammar.specs.declared.refusal.Refusal.{Refusal}
use Rattle.qm_grammar.specs.declared.refusal.Refusal.TheVariants as refusal
use Rattle.qm_grammar.specs.declared.fault.MapFault.{MapFault}
use Rattle.qm_grammar.specs.declared.fault.MapFault.TheVariants as fault
use Rattle.qm_grammar.specs.Symbol.{symbol_of}
use Rattle.qm_grammar.specs.Prefix.{Prefix, IsPrefix}
use Rattle.qm_grammar.specs.Table.{Refuses}

-- Where the faults of a text stand, and which comes first.

-- the most bytes that a text may have, 67,108,864
abbrev pub text_limit : ℕ
text_limit = TEXT_LIMIT

-- the line at an offset; lines count from 1
abbrev pub line_at : List ℕ → ℕ → ℕ
line_at text offset = 1 + line_ends (take offset text)

-- the line at the end of a text
abbrev pub last_line : List ℕ → ℕ
last_line text = 1 + line_ends text

-- the offset behind a token, and behind its closing quote if it has one
abbrev pub end_of : Lexeme → ℕ
end_of lexeme = lexeme.end + quote_length lexeme.kind

-- the fault of a refused token on a line
abbrev pub fault_of : Refusal → ℕ → MapFault
fault_of refusal.Unexpected line = fault.Unexpected line
fault_of refusal.BadNumber line = fault.BadNumber line
fault_of refusal.Fraction line = fault.Fraction line
fault_of refusal.CoordinateRange line = fault.CoordinateRange line
fault_of refusal.NoNormal line = fault.NoNormal line
fault_of refusal.PlaneTooFine line = fault.PlaneTooFine line
fault_of refusal.NoFaces line = fault.NoFaces line
fault_of refusal.BadOrigin line = fault.BadOrigin line

-- which fault goes first at one offset: a text that is too long, then a token that is refused for another reason than
-- its sort, then one that is refused for its sort, and then what is found at the end of the text
pub data Rank : Type 0 where
  of_length : Rank
  of_content : Rank
  of_sort : Rank
  of_end : Rank

abbrev pub rank_number : Rank → ℕ
rank_number of_length = 0
rank_number of_content = 1
rank_number of_sort = 2
rank_number of_end = 3

abbrev pub rank_of : Refusal → Rank
rank_of refusal.Unexpected = of_sort
rank_of _ = of_content

-- a token behind a prefix is refused
pub record IsRefused (lexemes : List Lexeme) (token : Lexeme) (reason : Refusal) : Type 0 where
  pub before : List Lexeme
  pub after : List Lexeme
  pub split : lexemes ≡ before ++ token ∷ after
  pub prefix : Prefix
  pub is_prefix : IsPrefix (map symbol_of before) prefix
  pub refuses : Refuses prefix (symbol_of token) reason

-- all tokens are a prefix that is inside an entity
pub record EndsInside (lexemes : List Lexeme) : Type 0 where
  pub prefix : Prefix
  pub is_prefix : IsPrefix (map symbol_of lexemes) prefix
  pub inside : prefix.context ≢ context.Outside

-- the faults of a text with these lexemes: the offset at which each stands, its rank there, and the fault with its line
pub data Stands (text : List ℕ) (lexing : Lexing) : ℕ → Rank → MapFault → Type 0 where
  too_long :
      text_limit < length text →
      Stands text lexing (text_limit + 1) of_length (fault.TextTooLong (line_at text text_limit))
  refused :
      {token : Lexeme} {reason : Refusal} → IsRefused lexing.lexemes token reason →
      Stands text lexing (end_of token) (rank_of reason) (fault_of reason token.line)
  unclosed :
      {line : ℕ} → lexing.unclosed_line ≡ Some line →
      Stands text lexing (length text) of_end (fault.UnclosedQuote line)
  end_inside :
      lexing.unclosed_line ≡ None → EndsInside lexing.lexemes →
      Stands text lexing (length text) of_end (fault.EndInside (last_line text))
  no_entity :
      lexing.unclosed_line ≡ None → lexing.lexemes ≡ [] →
      Stands text lexing (length text) of_end (fault.NoEntity (last_line text))

-- an offset and a rank there come before others, or are the same
abbrev pub ComesNoLater : ℕ → Rank → ℕ → Rank → Type 0
ComesNoLater at rank other_at other_rank =
    (at < other_at) ⊎ ((at ≡ other_at) × (rank_number rank ≤ rank_number other_rank))

-- a fault that stands, and before which none stands
pub record IsFirstFault (text : List ℕ) (lexing : Lexing) (found : MapFault) : Type 0 where
  pub at : ℕ
  pub rank : Rank
  pub stands : Stands text lexing at rank found
  pub first :
      (other_at : ℕ) (other_rank : Rank) (other : MapFault) → Stands text lexing other_at other_rank other →
      ComesNoLater at rank other_at other_rank
