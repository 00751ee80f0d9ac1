use Rattle.std.specs.Prelude.{◌≡◌, ◌≢◌, ℕ, List, Result, Ok, Err}
use Rattle.qm_tokens.specs.Lexeme.{Lexeme}
use Rattle.qm_grammar.specs.declared.refusal.Refusal.{Refusal}
use Rattle.qm_grammar.specs.declared.fault.MapFault.{MapFault}
use Rattle.qm_grammar.specs.declared.fault.MapFault.TheVariants.{Memory}
use Rattle.qm_grammar.specs.Symbol.{symbol_of}
use Rattle.qm_grammar.specs.Prefix.{Prefix}
use Rattle.qm_grammar.specs.inner.Machine.{step, refused_at}

-- a token of a text is refused behind a prefix, which gives this fault
pub record IsRefusedWith (text : List ℕ) (prefix : Prefix) (token : Lexeme) (fault : MapFault) : Type 0 where
  pub reason : Refusal
  pub refused : step prefix (symbol_of token) ≡ Err reason
  pub fault_is : fault ≡ refused_at text reason token

-- the answer of taking a token of a text: it has led from one prefix to the next, or is refused, or memory ran out
abbrev pub IsTaken : List ℕ → Prefix → Lexeme → Prefix → Result (Unit {0}) MapFault → Type 0
IsTaken text prefix token next (Ok _) = step prefix (symbol_of token) ≡ Ok next
IsTaken text prefix token next (Err fault) = fault ≢ Memory → IsRefusedWith text prefix token fault
