-- Planes that enter a book one after another.
use Rattle.std.proofs.Common.{◌≡◌, ℕ, ◌+◌, ◌≤◌, List, [], ◌∷◌, ◌++◌, length, Some, refl, sym, ◌∙◌, subst, arith}
use Rattle.std.specs.Prelude.{slice_get}
use Rattle.qm_space.specs.Plane.{Plane}
use Rattle.qm_space.specs.Entered.{EntersBook, was_there, is_gained, AreEnteredInBook, none, next}
use Rattle.qm_geom.proofs.Entering.{earlier_stay, length-entered}

pub one_entered : (old new : List Plane) (plane : Plane) (number : ℕ) → EntersBook old new plane number → AreEnteredInBook old (plane ∷ []) new
one_entered old new plane number enters = next enters none

-- more enter after the first
pub more_entered : (old mid new first more : List Plane) → AreEnteredInBook old first mid → AreEnteredInBook mid more new → AreEnteredInBook old (first ++ more) new
more_entered old mid new [] more none then = then
more_entered old mid new (plane ∷ first) more (next {mid = after} enters others) then = next enters (more_entered after mid new first more others then)

-- planes that were there keep their numbers
pub all_stay : (old new planes : List Plane) → AreEnteredInBook old planes new → (n : ℕ) (h : Plane) → slice_get old n ≡ Some h → slice_get new n ≡ Some h
all_stay old new [] none n h at = at
all_stay old new (plane ∷ planes) (next {mid = after} {number = number} enters others) n h at =
    all_stay after new planes others n h (earlier_stay old after plane number enters n h at)

-- the book has at most so many planes more
pub length-all_entered : (old new planes : List Plane) → AreEnteredInBook old planes new → length new ≤ length old + length planes
length-all_entered old new [] none = omega arith
length-all_entered old new (plane ∷ planes) (next {mid = after} {number = number} enters others) =
    let first = length-entered old after plane number enters in
    let rest = length-all_entered after new planes others in
    omega arith

-- ---- the same planes that enter the same book give one book

one_after : {old new other : List Plane} {plane : Plane} {n m : ℕ} → EntersBook old new plane n → EntersBook old other plane m → new ≡ other
one_after (was_there at same) (was_there at' same') = same ∙ sym same'
one_after {n = n} (was_there at same) (is_gained absent gained number) = absurd (absent n at)
one_after {m = m} (is_gained absent gained number) (was_there at same) = absurd (absent m at)
one_after (is_gained absent gained number) (is_gained absent' gained' number') = gained ∙ sym gained'

pub one_book : {old new other planes : List Plane} → AreEnteredInBook old planes new → AreEnteredInBook old planes other → new ≡ other
one_book none none = refl
one_book (next {planes = planes} first rest) (next {new = other} first' rest') =
    one_book rest (subst (λ (mid : List Plane). AreEnteredInBook mid planes other) (one_after first' first) rest')
