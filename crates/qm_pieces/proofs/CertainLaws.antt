-- Each text so far has a lexing so far, and what is certain of it, said by the table of the grammar.
use Rattle.std.proofs.Common.{ℕ, ◌<◌, ◌≤◌, List, [], ◌∷◌, ◌++◌, option_to_list, length, sym, subst, ◌∙◌, append_assoc, append-nil}
use Rattle.qm_lists.proofs.Cases.{by_result}
use Rattle.qm_tokens.specs.Lexeme.{Lexeme}
use Rattle.qm_grammar.specs.declared.refusal.Refusal.{Refusal}
use Rattle.qm_grammar.specs.declared.fault.MapFault.{MapFault}
use Rattle.qm_grammar.specs.Prefix.{between_entities}
use Rattle.qm_grammar.specs.Faults.{text_limit, end_of, fault_of, IsRefused}
use Rattle.qm_grammar.specs.Meaning.{IsFaultText}
use Rattle.qm_grammar.specs.inner.Machine.{steps}
use Rattle.qm_grammar.proofs.FirstFaults.{refused_steps, steps_refused}
use Rattle.qm_grammar.proofs.CutTexts.{prefix_means}
use Rattle.qm_pieces.specs.LexingState.{LexingState, state_at_start, state_behind, token_ended_by}
use Rattle.qm_pieces.specs.TextSoFar.{IsLexedTo}
use Rattle.qm_pieces.specs.Certain.{IsCertain}
use Rattle.qm_pieces.proofs.TextsSoFar.{lexed_at_start, lexed_behind}
use Rattle.qm_pieces.proofs.Certainty.{refused_certain, none_certain, fault_meant, fault_found}

-- some tokens and a state of a text so far
abbrev IsSomewhere : List ℕ → Type 0
IsSomewhere text = (ended : List Lexeme) × (state : LexingState) × IsLexedTo text ended state

somewhere_behind : (text more : List ℕ) → IsSomewhere text → IsSomewhere (text ++ more)
somewhere_behind text [] (given, state, lexed) = subst IsSomewhere (sym (append-nil text)) (given, state, lexed)
somewhere_behind text (byte ∷ more) (given, state, lexed) =
    subst IsSomewhere (append_assoc text (byte ∷ []) more)
    (somewhere_behind (text ++ byte ∷ []) more (given ++ option_to_list (token_ended_by state byte), state_behind state byte, lexed_behind text given state byte lexed))

pub each_text_lexed : (text : List ℕ) → (ended : List Lexeme) × (state : LexingState) × IsLexedTo text ended state
each_text_lexed text = somewhere_behind [] text ([], state_at_start, lexed_at_start)

pub refused_is_certain : (text : List ℕ) (given : List Lexeme) (state : LexingState) → IsLexedTo text given state → (token : Lexeme) (reason : Refusal) → IsRefused given token reason → end_of token ≤ text_limit → IsCertain text (fault_of reason token.line)
refused_is_certain text given state lexed token reason is within =
    refused_certain text given state lexed reason token (refused_steps given token reason is) within

pub long_is_certain : (text : List ℕ) → text_limit < length text → (found : MapFault) → IsFaultText text found → IsCertain text found
long_is_certain text long found is more =
    fault_meant (text ++ more) found (prefix_means text more long ∙ fault_found text found is)

pub no_other_certain : (text : List ℕ) (given : List Lexeme) (state : LexingState) → IsLexedTo text given state → length text ≤ text_limit → ((token : Lexeme) (reason : Refusal) → IsRefused given token reason → ⊥) → (found : MapFault) → IsCertain text found → ⊥
no_other_certain text given state lexed short none found certain =
    by_result (steps (between_entities []) given)
    (λ prefix spelled. none_certain text given state lexed prefix spelled short found certain)
    (λ stopped is. none stopped.1 stopped.0 (steps_refused given stopped.1 stopped.0 is))
