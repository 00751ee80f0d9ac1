-- A text of lines whose tokens can stand has exactly these tokens.
use Rattle.std.proofs.Common.{◌≡◌, ℕ, List, [], ◌∷◌, ◌++◌, None, refl, sym, ap, subst, ◌∙◌, append_assoc, append-nil, flat_map, map, lit≤}
use Rattle.std.specs.List.{AllByRecursion}
use Rattle.std.proofs.lemmas.List.Concat.{flat_map-cons}
use Rattle.std.proofs.lemmas.List.{map-append}
use Rattle.qm_tokens.specs.Lexing.{Lexing, IsLexingOf, lexing_from}
use Rattle.qm_tokens.specs.Piece.{ArePiecesOf}
use Rattle.qm_grammar.specs.Symbol.{Symbol, symbol_of}
use Rattle.qm_lists.proofs.Elements.{AllByRecursion-append, AllByRecursion-parts}
use Rattle.qm_grammar.specs.Lines.{TokenLine, spelling, spaced, line_text, text_of_lines, symbols_of_line, symbols_of}
use Rattle.qm_mapout.proofs.Lexed.{Gapped, IsGood, IsWritable, gapped_text, gapped_pieces, symbols_at, pieces_stand, lexed}

space_behind : Symbol → Gapped
space_behind symbol = record { symbol = symbol; gap = 32 }

line_end_behind : Symbol → Gapped
line_end_behind symbol = record { symbol = symbol; gap = 10 }

gapped_line : TokenLine → List Gapped
gapped_line line = map space_behind line.prefix ++ line_end_behind line.last ∷ []

gapped_lines : List TokenLine → List Gapped
gapped_lines lines = flat_map gapped_line lines

gapped_text-append : (xs ys : List Gapped) → gapped_text (xs ++ ys) ≡ gapped_text xs ++ gapped_text ys
unfolding gapped_text
gapped_text-append [] ys = refl
gapped_text-append (x ∷ xs) ys =
    ap (λ t. (spelling x.symbol ++ x.gap ∷ []) ++ t) (gapped_text-append xs ys)
    ∙ sym (append_assoc (spelling x.symbol ++ x.gap ∷ []) (gapped_text xs) (gapped_text ys))

prefix_text : (prefix : List Symbol) → gapped_text (map space_behind prefix) ≡ flat_map spaced prefix
unfolding gapped_text space_behind
prefix_text [] = refl
prefix_text (symbol ∷ symbols) =
    ap (λ t. spaced symbol ++ t) (prefix_text symbols) ∙ sym (flat_map-cons spaced symbol symbols)

line_gapped : (line : TokenLine) → gapped_text (gapped_line line) ≡ line_text line
unfolding gapped_line gapped_text line_end_behind line_text
line_gapped line =
    gapped_text-append (map space_behind line.prefix) (line_end_behind line.last ∷ [])
    ∙ ap (λ t. t ++ ((spelling line.last ++ 10 ∷ []) ++ [])) (prefix_text line.prefix)
    ∙ ap (λ t. flat_map spaced line.prefix ++ t) (append-nil (spelling line.last ++ 10 ∷ []))

lines_gapped : (lines : List TokenLine) → gapped_text (gapped_lines lines) ≡ text_of_lines lines
unfolding gapped_lines gapped_text
lines_gapped [] = refl
lines_gapped (line ∷ lines) =
    ap gapped_text (flat_map-cons gapped_line line lines)
    ∙ gapped_text-append (gapped_line line) (flat_map gapped_line lines)
    ∙ ap (λ t. t ++ gapped_text (flat_map gapped_line lines)) (line_gapped line)
    ∙ ap (λ t. line_text line ++ t) (lines_gapped lines)
    ∙ sym (flat_map-cons line_text line lines)

prefix_symbols : (prefix : List Symbol) → map (λ g. g.symbol) (map space_behind prefix) ≡ prefix
unfolding space_behind
prefix_symbols [] = refl
prefix_symbols (symbol ∷ symbols) = ap (λ ss. symbol ∷ ss) (prefix_symbols symbols)

line_symbols : (line : TokenLine) → map (λ g. g.symbol) (gapped_line line) ≡ symbols_of_line line
unfolding gapped_line line_end_behind
line_symbols line =
    map-append (λ g. g.symbol) (map space_behind line.prefix) (line_end_behind line.last ∷ [])
    ∙ ap (λ ss. ss ++ line.last ∷ []) (prefix_symbols line.prefix)

lines_symbols : (lines : List TokenLine) → map (λ g. g.symbol) (gapped_lines lines) ≡ symbols_of lines
unfolding gapped_lines
lines_symbols [] = refl
lines_symbols (line ∷ lines) =
    ap (map (λ g. g.symbol)) (flat_map-cons gapped_line line lines)
    ∙ map-append (λ g. g.symbol) (gapped_line line) (flat_map gapped_line lines)
    ∙ ap (λ t. t ++ map (λ g. g.symbol) (flat_map gapped_line lines)) (line_symbols line)
    ∙ ap (λ t. symbols_of_line line ++ t) (lines_symbols lines)
    ∙ sym (flat_map-cons symbols_of_line line lines)

prefix_good : (prefix : List Symbol) → AllByRecursion IsWritable prefix → AllByRecursion IsGood (map space_behind prefix)
unfolding space_behind
prefix_good [] all = tt
prefix_good (symbol ∷ symbols) all = (record { writable = all.0; parts = lit≤ tt }, prefix_good symbols all.1)

line_good : (line : TokenLine) → AllByRecursion IsWritable (symbols_of_line line) → AllByRecursion IsGood (gapped_line line)
unfolding gapped_line line_end_behind
line_good line all =
    let parts = AllByRecursion-parts IsWritable line.prefix (line.last ∷ []) all in
    AllByRecursion-append IsGood (map space_behind line.prefix) (line_end_behind line.last ∷ []) (prefix_good line.prefix parts.0)
    (record { writable = parts.1.0; parts = lit≤ tt }, tt)

-- each token of the line can stand
abbrev pub IsWritableLine : TokenLine → Type 0
IsWritableLine line = AllByRecursion IsWritable (symbols_of_line line)

lines_good : (lines : List TokenLine) → AllByRecursion IsWritableLine lines → AllByRecursion IsGood (gapped_lines lines)
unfolding gapped_lines
lines_good [] all = tt
lines_good (line ∷ lines) all =
    let P : List Gapped → Type 0 = AllByRecursion IsGood in
    subst P (sym (flat_map-cons gapped_line line lines))
    (AllByRecursion-append IsGood (gapped_line line) (flat_map gapped_line lines) (line_good line all.0) (lines_good lines all.1))

-- what the text of lines gives
pub record IsLexedAs (text : List ℕ) (symbols : List Symbol) : Type 0 where
  pub lexing : Lexing
  pub is_lexing : IsLexingOf text lexing
  pub closed : lexing.unclosed_line ≡ None
  pub symbols_are : map symbol_of lexing.lexemes ≡ symbols

pub lines_lexed : (lines : List TokenLine) → AllByRecursion IsWritableLine lines → IsLexedAs (text_of_lines lines) (symbols_of lines)
unfolding symbols_at
lines_lexed lines all =
    let gs = gapped_lines lines in
    let stand = pieces_stand gs (lines_good lines all) in
    let found = lexed gs 0 1 in
    record {
      lexing = lexing_from 0 1 (gapped_pieces gs);
      is_lexing = (gapped_pieces gs, subst (λ t. ArePiecesOf t (gapped_pieces gs)) (lines_gapped lines) stand, refl);
      closed = found.1;
      symbols_are = found.0 ∙ lines_symbols lines;
    }
