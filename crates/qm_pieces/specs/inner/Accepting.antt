use Rattle.std.specs.Prelude.{◌≡◌, ◌≢◌, ℕ, ◌==◌, if◌then◌else◌, List, Option, Some, None, Result, Ok, Err, length}
use Rattle.qm_tokens.specs.declared.token.TokenKind.{TokenKind}
use Rattle.qm_tokens.specs.declared.token.TokenKind.TheVariants.{Word}
use Rattle.qm_mapfile.specs.declared.entity.MapFile.{MapFile}
use Rattle.qm_grammar.specs.declared.context.Context.TheVariants as context
use Rattle.qm_grammar.specs.declared.refusal.Refusal.{Refusal}
use Rattle.qm_grammar.specs.declared.fault.MapFault.{MapFault}
use Rattle.qm_grammar.specs.declared.fault.MapFault.TheVariants as fault
use Rattle.qm_grammar.specs.Symbol.{Symbol, symbol_of}
use Rattle.qm_grammar.specs.Prefix.{Prefix}
use Rattle.qm_grammar.specs.Faults.{fault_of}
use Rattle.qm_grammar.specs.inner.Machine.{step}
use Rattle.qm_pieces.specs.declared.owned_token.OwnedToken.{OwnedToken}
use Rattle.qm_pieces.specs.declared.piece_fault.PieceFault.{PieceFault}
use Rattle.qm_pieces.specs.declared.piece_fault.PieceFault.TheVariants.{UnclosedQuote, Memory}
use Rattle.qm_pieces.specs.Pushing.{owned_lexeme}
use Rattle.qm_pieces.specs.Certain.{IsCertain}
use Rattle.qm_pieces.specs.ReadSoFar.{ReadSoFar, IsReadOf}

-- a token on a line is refused behind a prefix, which gives this fault
pub record IsRefusedOn (prefix : Prefix) (symbol : Symbol) (line : ℕ) (found : MapFault) : Type 0 where
  pub reason : Refusal
  pub refused : step prefix symbol ≡ Err reason
  pub fault_is : found ≡ fault_of reason line

-- a token on a line has led from one prefix to the next, or is refused, or memory ran out
abbrev pub IsAccepted : Prefix → Symbol → ℕ → Prefix → Result (Unit {0}) MapFault → Type 0
IsAccepted prefix symbol line next (Ok _) = step prefix symbol ≡ Ok next
IsAccepted prefix symbol line next (Err found) = found ≢ fault.Memory → IsRefusedOn prefix symbol line found

-- a token, if there is one, has led from one prefix to the next, or is refused, or memory ran out
abbrev pub IsTokenAccepted : Prefix → Option OwnedToken → Prefix → Result (Unit {0}) MapFault → Type 0
IsTokenAccepted prefix None next (Ok _) = next ≡ prefix
IsTokenAccepted prefix None next (Err found) = ⊥
IsTokenAccepted prefix (Some token) next answer =
    IsAccepted prefix (symbol_of (owned_lexeme token)) token.line next answer

-- what the tokens of a text give that ends on a line
abbrev pub closed_on : ℕ → Prefix → Result MapFile MapFault
closed_on line prefix =
    elim prefix.context [
      | context.Outside ↦ if length prefix.entities == 0 then Err (fault.NoEntity line) else Ok (record { entities = prefix.entities })
      | _ ↦ Err (fault.EndInside line)
    ]

-- the same behind a last token on its line
abbrev pub closed_behind : ℕ → ℕ → Result Prefix Refusal → Result MapFile MapFault
closed_behind token_line line (Ok prefix) = closed_on line prefix
closed_behind token_line line (Err reason) = Err (fault_of reason token_line)

-- the same behind a last token, if there is one
abbrev pub end_answer : Prefix → Option OwnedToken → ℕ → Result MapFile MapFault
end_answer prefix None line = closed_on line prefix
end_answer prefix (Some token) line = closed_behind token.line line (step prefix (symbol_of (owned_lexeme token)))

-- the bytes of a text so far were read, or show a fault that is certain, or memory ran out
abbrev pub IsReadOn : List ℕ → ReadSoFar → Result (Unit {0}) MapFault → Type 0
IsReadOn text so_far (Ok _) = IsReadOf text so_far
IsReadOn text so_far (Err found) = found ≢ fault.Memory → IsCertain text found

-- the first fault of a text that goes on past its limit: a word that ends at the limit may be refused
abbrev pub fault_at_limit : TokenKind → Result Prefix Refusal → ℕ → ℕ → MapFault
fault_at_limit Word (Err reason) token_line line = fault_of reason token_line
fault_at_limit _ _ token_line line = fault.TextTooLong line

-- the same, where the byte behind the limit ends a token or ends none
abbrev pub limit_fault : Prefix → Option OwnedToken → ℕ → MapFault
limit_fault prefix None line = fault.TextTooLong line
limit_fault prefix (Some token) line =
    fault_at_limit token.kind (step prefix (symbol_of (owned_lexeme token))) token.line line

-- the answer to the end of a text on a line, where a lexer has given this end
abbrev pub IsEndAnswer : Prefix → ℕ → Result (Option OwnedToken) PieceFault → Result MapFile MapFault → Type 0
IsEndAnswer prefix line (Ok last) answer = answer ≢ Err fault.Memory → answer ≡ end_answer prefix last line
IsEndAnswer prefix line (Err (UnclosedQuote quote_line)) answer = answer ≡ Err (fault.UnclosedQuote quote_line)
IsEndAnswer prefix line (Err Memory) answer = answer ≡ Err fault.Memory
