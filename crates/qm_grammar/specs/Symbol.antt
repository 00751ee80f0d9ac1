use Rattle.std.specs.Prelude.{ℕ, List, [], ◌∷◌, Option, Some, None, ◌==◌, if◌then◌else◌}
use Rattle.qm_tokens.specs.declared.token.TokenKind.{TokenKind}
use Rattle.qm_tokens.specs.declared.token.TokenKind.TheVariants as kind
use Rattle.qm_tokens.specs.Lexeme.{Lexeme}
use Rattle.qm_grammar.specs.declared.mark.Mark.{Mark}
use Rattle.qm_grammar.specs.declared.mark.Mark.TheVariants.{OpenBrace, CloseBrace, OpenParenthesis, CloseParenthesis, OpenBracket, CloseBracket}
use Rattle.qm_grammar.specs.declared.mark.Sort.{Sort}
use Rattle.qm_grammar.specs.declared.mark.Sort.TheVariants as sort

-- what the grammar sees of a token: its kind and its bytes, and not where it stands
pub record Symbol : Type 0 where
  pub kind : TokenKind
  pub bytes : List ℕ

abbrev pub symbol_of : Lexeme → Symbol
symbol_of lexeme = record { kind = lexeme.kind; bytes = lexeme.bytes }

-- the mark of one byte: { } ( ) [ ]
unfoldable pub mark_of_byte : ℕ → Option Mark
mark_of_byte byte =
    if byte == 123 then Some OpenBrace
    else (if byte == 125 then Some CloseBrace
    else (if byte == 40 then Some OpenParenthesis
    else (if byte == 41 then Some CloseParenthesis
    else (if byte == 91 then Some OpenBracket
    else (if byte == 93 then Some CloseBracket
    else None)))))

-- the mark that a word is, if it is one
abbrev pub mark_of : List ℕ → Option Mark
mark_of (byte ∷ []) = mark_of_byte byte
mark_of _ = None

-- a word is a mark or names something
abbrev pub word_sort : Option Mark → Sort
word_sort None = sort.Name
word_sort (Some mark) = sort.Mark mark

abbrev pub sort_by_kind : TokenKind → List ℕ → Sort
sort_by_kind kind.Word bytes = word_sort (mark_of bytes)
sort_by_kind kind.Quoted bytes = sort.Quoted

-- the sort of a symbol
unfoldable pub sort_of : Symbol → Sort
sort_of symbol = sort_by_kind symbol.kind symbol.bytes
