-- How far the reading of a text has come, and what it then means.
use Rattle.std.proofs.Common.{◌≡◌, ℕ, List, [], Option, Some, None, Ok, Err, ◌∙◌, ap}
use Rattle.qm_tokens.specs.Lexeme.{Lexeme}
use Rattle.qm_tokens.specs.Lexing.{Lexing, IsLexingOf, nothing, lexeme_then, unclosed_on}
use Rattle.qm_tokens.specs.inner.Modes.{between, read}
use Rattle.qm_tokens.specs.Reading.{Reading}
use Rattle.qm_tokens.proofs.Cutting.{pieces_of}
use Rattle.qm_tokens.proofs.PieceRuns.{read_pieces}
use Rattle.qm_grammar.specs.declared.refusal.Refusal.{Refusal}
use Rattle.qm_grammar.specs.Symbol.{symbol_of}
use Rattle.qm_grammar.specs.Prefix.{Prefix, between_entities}
use Rattle.qm_grammar.specs.inner.Machine.{step, steps, refused_at, ended, meaning_of}
use Rattle.qm_grammar.proofs.Runs.{steps_refused}

-- the lexing that is read is one
pub lexing_is : (text : List ℕ) (lexing : Lexing) → ((other : Lexing) → IsLexingOf text other → other ≡ lexing) → read between 0 1 text ≡ lexing
lexing_is text lexing only =
    let pieces = pieces_of text in
    only (read between 0 1 text) (pieces.0, pieces.1, read_pieces text pieces.0 0 1 pieces.1)

-- a reader has come to a prefix, and this is left of the text
pub record IsUnderway (text : List ℕ) (prefix : Prefix) (reading : Reading) : Type 0 where
  pub text_is : reading.text ≡ text
  pub rest : steps (between_entities []) (read between 0 1 text).lexemes ≡ steps prefix reading.left.lexemes
  pub unclosed : (read between 0 1 text).unclosed_line ≡ reading.left.unclosed_line

pub begun : (text : List ℕ) (reading : Reading) → reading.text ≡ text → read between 0 1 text ≡ reading.left → IsUnderway text (between_entities []) reading
begun text reading same left = record {
  text_is = same;
  rest = ap (λ (l : Lexing). steps (between_entities []) l.lexemes) left;
  unclosed = ap (λ (l : Lexing). l.unclosed_line) left;
}

pub refused_is : (text : List ℕ) (prefix : Prefix) (reading : Reading) (rest : Lexing) (lexeme : Lexeme) (reason : Refusal) → IsUnderway text prefix reading → reading.left ≡ lexeme_then lexeme rest → step prefix (symbol_of lexeme) ≡ Err reason → meaning_of text ≡ Err (refused_at text reason lexeme)
unfolding meaning_of
refused_is text prefix reading rest lexeme reason u left refused =
    let run = u.rest ∙ ap (λ (l : Lexing). steps prefix l.lexemes) left ∙ steps_refused prefix lexeme rest.lexemes reason refused in
    ap (λ r. ended text (read between 0 1 text).unclosed_line r) run

over_is : (text : List ℕ) (prefix : Prefix) (reading : Reading) (unclosed : Option ℕ) → IsUnderway text prefix reading → reading.left ≡ record { lexemes = []; unclosed_line = unclosed } → meaning_of text ≡ ended text unclosed (Ok prefix)
unfolding meaning_of
over_is text prefix reading unclosed u left =
    let run : steps (between_entities []) (read between 0 1 text).lexemes ≡ Ok prefix = u.rest ∙ ap (λ (l : Lexing). steps prefix l.lexemes) left in
    let quote : (read between 0 1 text).unclosed_line ≡ unclosed = u.unclosed ∙ ap (λ (l : Lexing). l.unclosed_line) left in
    ap (λ r. ended text (read between 0 1 text).unclosed_line r) run ∙ ap (λ (q : Option ℕ). ended text q (Ok prefix)) quote

-- nothing is left
pub ended_is : (text : List ℕ) (prefix : Prefix) (reading : Reading) → IsUnderway text prefix reading → reading.left ≡ nothing → meaning_of text ≡ ended text None (Ok prefix)
ended_is text prefix reading u left = over_is text prefix reading None u left

-- only a quote is left that is not closed
pub unclosed_is : (text : List ℕ) (prefix : Prefix) (reading : Reading) (line : ℕ) → IsUnderway text prefix reading → reading.left ≡ unclosed_on line → meaning_of text ≡ ended text (Some line) (Ok prefix)
unclosed_is text prefix reading line u left = over_is text prefix reading (Some line) u left
