-- A text within the limit is not too long.
use Rattle.std.proofs.Common.{◌≡◌, ℕ, ◌≤◌, List, length, refl, arith}
use Rattle.qm_tokens.specs.Lexing.{Lexing}
use Rattle.qm_grammar.specs.declared.refusal.Refusal.{Refusal}
use Rattle.qm_grammar.specs.declared.refusal.Refusal.TheVariants as refusal
use Rattle.qm_grammar.specs.declared.fault.MapFault.{MapFault}
use Rattle.qm_grammar.specs.declared.fault.MapFault.TheVariants as fault
use Rattle.qm_grammar.specs.Faults.{text_limit, fault_of, Rank, Stands, too_long, refused, unclosed, end_inside, no_entity}
use Rattle.qm_grammar.specs.Meaning.{IsFaultText}

refusal_not_long : (reason : Refusal) (line other : ℕ) → fault_of reason line ≡ fault.TextTooLong other → ⊥
refusal_not_long refusal.Unexpected line other is = absurd cc
refusal_not_long refusal.BadNumber line other is = absurd cc
refusal_not_long refusal.Fraction line other is = absurd cc
refusal_not_long refusal.CoordinateRange line other is = absurd cc
refusal_not_long refusal.NoNormal line other is = absurd cc
refusal_not_long refusal.PlaneTooFine line other is = absurd cc
refusal_not_long refusal.NoFaces line other is = absurd cc
refusal_not_long refusal.BadOrigin line other is = absurd cc

-- no fault that stands in it is that
stands_short : (text : List ℕ) (lexing : Lexing) (at : ℕ) (rank : Rank) (found : MapFault) → Stands text lexing at rank found → length text ≤ text_limit → (line : ℕ) → found ≡ fault.TextTooLong line → ⊥
stands_short text lexing at rank found (too_long long) short line is = absurd (omega arith)
stands_short text lexing at rank found (refused {token = token} {reason = reason} why) short line is = refusal_not_long reason token.line line is
stands_short text lexing at rank found (unclosed open_quote) short line is = absurd cc
stands_short text lexing at rank found (end_inside closed ends) short line is = absurd cc
stands_short text lexing at rank found (no_entity closed ends) short line is = absurd cc

pub short_not_long : (text : List ℕ) (line : ℕ) → length text ≤ text_limit → IsFaultText text (fault.TextTooLong line) → ⊥
short_not_long text line short is = stands_short text is.lexing is.first.at is.first.rank (fault.TextTooLong line) is.first.stands short line refl
