-- The bytes of a token are those of a word, or stand between two quotes; a text has at most as many tokens as bytes.
use Rattle.std.proofs.Common.{◌≡◌, ◌≢◌, ℕ, ◌+◌, ◌<◌, ◌≤◌, List, [], ◌∷◌, length, map, Option, Some, None, refl, sym, ap, subst, ◌∙◌, length-append, arith}
use Rattle.std.specs.Prelude.{All, IfSome}
use Rattle.std.proofs.lemmas.List.{length-map}
use Rattle.std.proofs.lemmas.List.Elements.{All-nil, All-cons, All-map, All-contains}
use Rattle.qm_lists.proofs.Cases.{by_option}
use Rattle.qm_tokens.specs.declared.token.TokenKind.{TokenKind}
use Rattle.qm_tokens.specs.declared.token.TokenKind.TheVariants as kind
use Rattle.qm_tokens.specs.Lexeme.{Lexeme, line_ends}
use Rattle.qm_tokens.specs.Lexing.{Lexing, IsLexingOf, prepend, lexeme_at, lexing_from}
use Rattle.qm_tokens.specs.Piece.{TextPiece, blank, comment, word, quoted, unclosed, bytes_of_piece, OpensWord, IsTextPiece, ArePiecesOf}
use Rattle.qm_grammar.specs.declared.mark.Mark.{Mark}
use Rattle.qm_grammar.specs.declared.mark.Sort.TheVariants as sort
use Rattle.qm_grammar.specs.Symbol.{Symbol, symbol_of, mark_of, word_sort, sort_by_kind, sort_of}
use Rattle.qm_grammar.specs.Valid.{HasNoQuote, IsNameText}

-- the bytes that a token of a kind may have
abbrev pub IsKindText : TokenKind → List ℕ → Type 0
IsKindText kind.Word bytes = OpensWord bytes × All (λ byte. 32 < byte) bytes
IsKindText kind.Quoted bytes = All (λ byte. byte ≢ 34) bytes

abbrev pub IsTokenText : Symbol → Type 0
IsTokenText symbol = IsKindText symbol.kind symbol.bytes

abbrev IsLexemeText : Lexeme → Type 0
IsLexemeText lexeme = IsKindText lexeme.kind lexeme.bytes

-- ---- the tokens of a text

piece_text : (offset line : ℕ) (piece : TextPiece) (after : List ℕ) → IsTextPiece piece after → IfSome (lexeme_at offset line piece) IsLexemeText
piece_text offset line (blank byte) after is = tt
piece_text offset line (comment bytes) after is = tt
piece_text offset line (word bytes) after is = (is.0, is.1)
piece_text offset line (quoted bytes) after is = is
piece_text offset line (unclosed bytes) after is = tt

all_texts : (first : Option Lexeme) (rest : Lexing) → IfSome first IsLexemeText → All IsLexemeText rest.lexemes → All IsLexemeText (prepend first rest).lexemes
all_texts None rest is others = others
all_texts (Some lexeme) rest is others = All-cons IsLexemeText lexeme rest.lexemes is others

pieces_texts : (offset line : ℕ) (text : List ℕ) (pieces : List TextPiece) → ArePiecesOf text pieces → All IsLexemeText (lexing_from offset line pieces).lexemes
pieces_texts offset line text [] are = All-nil IsLexemeText
pieces_texts offset line text (unclosed bytes ∷ pieces) are = All-nil IsLexemeText
pieces_texts offset line text (piece ∷ pieces) (after, joined, is, are) =
    all_texts (lexeme_at offset line piece) (lexing_from (offset + length (bytes_of_piece piece)) (line + line_ends (bytes_of_piece piece)) pieces)
    (piece_text offset line piece after is)
    (pieces_texts (offset + length (bytes_of_piece piece)) (line + line_ends (bytes_of_piece piece)) after pieces are)

pub lexing_texts : (text : List ℕ) (lexing : Lexing) → IsLexingOf text lexing → All IsTokenText (map symbol_of lexing.lexemes)
lexing_texts text lexing is =
    subst (λ (l : Lexing). All IsTokenText (map symbol_of l.lexemes)) (sym is.2)
    (All-map IsTokenText symbol_of (lexing_from 0 1 is.0).lexemes (pieces_texts 0 1 text is.0 is.1))

-- a piece that gives a token has a byte
piece_counted : (offset line : ℕ) (piece : TextPiece) (after : List ℕ) (rest : Lexing) → IsTextPiece piece after → length rest.lexemes ≤ length after → length (prepend (lexeme_at offset line piece) rest).lexemes ≤ length (bytes_of_piece piece) + length after
piece_counted offset line (blank byte) after rest is few = omega arith
piece_counted offset line (comment bytes) after rest is few = omega arith
piece_counted offset line (word []) after rest is few = absurd is.0
piece_counted offset line (word (byte ∷ bytes)) after rest is few = omega arith
piece_counted offset line (quoted bytes) after rest is few = omega arith
piece_counted offset line (unclosed bytes) after rest is few = omega arith

pieces_counted : (offset line : ℕ) (text : List ℕ) (pieces : List TextPiece) → ArePiecesOf text pieces → length (lexing_from offset line pieces).lexemes ≤ length text
pieces_counted offset line text [] are = omega arith
pieces_counted offset line text (unclosed bytes ∷ pieces) are = omega arith
pieces_counted offset line text (piece ∷ pieces) (after, joined, is, are) =
    let rest = lexing_from (offset + length (bytes_of_piece piece)) (line + line_ends (bytes_of_piece piece)) pieces in
    let few = pieces_counted (offset + length (bytes_of_piece piece)) (line + line_ends (bytes_of_piece piece)) after pieces are in
    let count = piece_counted offset line piece after rest is few in
    let whole : length text ≡ length (bytes_of_piece piece) + length after = ap length joined ∙ length-append (bytes_of_piece piece) after in
    omega (arith, whole, count)

pub lexing_counted : (text : List ℕ) (lexing : Lexing) → IsLexingOf text lexing → length (map symbol_of lexing.lexemes) ≤ length text
lexing_counted text lexing is =
    let count = pieces_counted 0 1 text is.0 is.1 in
    let same : length lexing.lexemes ≡ length (lexing_from 0 1 is.0).lexemes = ap (λ (l : Lexing). length l.lexemes) is.2 in
    omega (arith, length-map lexing.lexemes symbol_of)

-- ---- tokens by their sort

word_name : (bytes : List ℕ) → word_sort (mark_of bytes) ≡ sort.Name → mark_of bytes ≡ None
word_name bytes is =
    by_option (mark_of bytes) (λ none. none)
    (λ m marked. absurd (let never : sort.Mark m ≡ sort.Name = rw marked at is in cc))

kind_name : (k : TokenKind) (bytes : List ℕ) → IsKindText k bytes → sort_by_kind k bytes ≡ sort.Name → IsNameText bytes
kind_name kind.Word bytes text is = record { opens = text.0; no_blank = text.1; no_mark = word_name bytes is }
kind_name kind.Quoted bytes text is = absurd cc

-- a name has the bytes of one
pub name_text : (symbol : Symbol) → IsTokenText symbol → sort_of symbol ≡ sort.Name → IsNameText symbol.bytes
unfolding sort_of
name_text symbol text is = kind_name symbol.kind symbol.bytes text is

word_not_quoted : (bytes : List ℕ) (m : Option Mark) → word_sort m ≡ sort.Quoted → HasNoQuote bytes
word_not_quoted bytes None is = absurd cc
word_not_quoted bytes (Some m) is = absurd cc

kind_quoted : (k : TokenKind) (bytes : List ℕ) → IsKindText k bytes → sort_by_kind k bytes ≡ sort.Quoted → HasNoQuote bytes
kind_quoted kind.Word bytes text is = word_not_quoted bytes (mark_of bytes) is
kind_quoted kind.Quoted bytes text is = λ contains. All-contains (λ (byte : ℕ). byte ≢ 34) bytes 34 text contains refl

-- a quoted token has no quote
pub quoted_text : (symbol : Symbol) → IsTokenText symbol → sort_of symbol ≡ sort.Quoted → HasNoQuote symbol.bytes
unfolding sort_of
quoted_text symbol text is = kind_quoted symbol.kind symbol.bytes text is
