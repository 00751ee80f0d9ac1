-- A text has one lexing, and its lexemes stand in it.
use Rattle.std.proofs.Common.{◌≡◌, ℕ, ◌<◌, ◌≤◌, List, ◌∷◌, ◌++◌, length, refl, sym, subst, ◌∙◌, length-append, arith}
use Rattle.std.specs.Prelude.{All}
use Rattle.std.proofs.lemmas.List.{get_or_at}
use Rattle.qm_tokens.specs.Lexeme.{Lexeme, StandsIn}
use Rattle.qm_tokens.specs.Lexing.{Lexing, IsLexingOf}
use Rattle.qm_tokens.specs.inner.Modes.{between, read}
use Rattle.qm_tokens.proofs.Cutting.{pieces_of}
use Rattle.qm_tokens.proofs.PieceRuns.{read_pieces}
use Rattle.qm_tokens.proofs.Standing.{pieces_stand}
use Rattle.qm_grammar.specs.Faults.{end_of}

pub read_lexing : (text : List ℕ) → IsLexingOf text (read between 0 1 text)
read_lexing text = let cut = pieces_of text in (cut.0, cut.1, read_pieces text cut.0 0 1 cut.1)

pub one_lexing : (text : List ℕ) (lexing : Lexing) → IsLexingOf text lexing → lexing ≡ read between 0 1 text
one_lexing text lexing is = is.2 ∙ sym (read_pieces text is.0 0 1 is.1)

lexemes_stand : (text : List ℕ) (lexing : Lexing) → IsLexingOf text lexing → All (StandsIn text) lexing.lexemes
lexemes_stand text lexing is = subst (λ (l : Lexing). All (StandsIn text) l.lexemes) (sym is.2) (pieces_stand text is.0 is.1)

-- a token ends within the text
pub ends_within : (text : List ℕ) (lexing : Lexing) (before after : List Lexeme) (token : Lexeme) → IsLexingOf text lexing → lexing.lexemes ≡ before ++ token ∷ after → end_of token ≤ length text
ends_within text lexing before after token is split =
    let all : All (StandsIn text) (before ++ token ∷ after) = subst (All (StandsIn text)) split (lexemes_stand text lexing is) in
    let inside : length before < length (before ++ token ∷ after) = omega (arith, length-append before (token ∷ after)) in
    let stands : StandsIn text token = subst (StandsIn text) (get_or_at before token after token (length before) refl) (all (length before) token inside) in
    stands.closed_within
