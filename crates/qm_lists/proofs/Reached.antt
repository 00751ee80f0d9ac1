-- What is reached is the least set that has what begins and is closed under what goes on.
use Rattle.std.proofs.Common.{ℕ}
use Rattle.qm_lists.specs.Reach.{Reach, start, onward}

-- each set that has what begins, and with a place what it goes to, has all that is reached
pub least : (begins : ℕ → Type 0) (goes : ℕ → ℕ → Type 0) (P : ℕ → Type 0) → ((place : ℕ) → begins place → P place) → ((from to : ℕ) → P from → goes from to → P to) → (place : ℕ) → Reach begins goes place → P place
least begins goes P first next place (start is) = first place is
least begins goes P first next place (onward {from = from} reached edge) = next from place (least begins goes P first next from reached) edge
