-- Worked parts of a world: three rooms in a row, and what is kept beside their tree and its four portals.
use Rattle.std.proofs.Common.{◌≡◌, ◌<◌, ◌≤◌, ◌+◌, ℕ, zero, suc, List, [], ◌∷◌, All, Contains, Some, take, refl, ap, ◌∙◌, arith}
use Rattle.std.specs.Prelude.{slice_get, slice_index}
use Rattle.std.specs.List.{count_by}
use Rattle.qm_contacts.specs.NumberedLeaves.{is_numbered}
use Rattle.std.proofs.lemmas.List.Elements.{All-from_recursion, All-contains}
use Rattle.std.specs.List.Sorted.{IsStrictlyIncreasing}
use Rattle.qm_partition.specs.Counting.{leaves_of}
use Rattle.qm_contacts.specs.Portals.{Portal}
use Rattle.qm_contacts.specs.World.{AreLeaving}
use Rattle.qm_contacts.specs.OwnPortals.{HasOwnPortals}
use Rattle.qm_contacts.specs.inner.LeafNumbers.{AreNumbersOf}
use Rattle.qm_contacts.specs.inner.Leaving.{AreLeavingInRows}
use Rattle.qm_contacts.specs.inner.Others.{row_at}
use Rattle.qm_contacts.specs.inner.WorldParts.{IsAmong, AreWorldParts}
use Rattle.qm_coarse_rows.proofs.RoomSamples.{rooms, touchings, portals, out, in_again, on, back}
use Rattle.qm_segments.proofs.RoomRows.{are_touchings, have_points}
use Rattle.qm_chains.proofs.ConeSamples.{world}

own : HasOwnPortals world
own = record { have_points = have_points; touchings = touchings; are_touchings = are_touchings; portals_are = refl }

-- ---- all three leaves are numbered

abbrev leaves : List ℕ
leaves = 0 ∷ 1 ∷ 2 ∷ []

numbers : AreNumbersOf (leaves_of rooms.shape) leaves leaves
numbers = record { numbered_are = refl; before_are = record { one_each = refl; counts = counts } }
  where
    counts : (k : ℕ) → k < 3 → slice_get leaves k ≡ Some (count_by is_numbered (take k (leaves_of rooms.shape)))
    counts zero less = refl
    counts (suc zero) less = refl
    counts (suc (suc zero)) less = refl
    counts (suc (suc (suc k))) less = absurd (omega (arith, less))

-- ---- the first door leaves the first room, two portals the middle one, and one the last room

abbrev begins : List ℕ
begins = 0 ∷ 1 ∷ 3 ∷ 4 ∷ []

abbrev places : List ℕ
places = 0 ∷ 1 ∷ 2 ∷ 3 ∷ []

abbrev Leaves : ℕ → ℕ → Type 0
Leaves n place = (portal : Portal) × (slice_get portals place ≡ Some portal) × (portal.from ≡ n)

leaving : (n : ℕ) (row : List ℕ) → IsStrictlyIncreasing row → All (Leaves n) row → (0 ≡ n → Contains row 0) → (1 ≡ n → Contains row 1) → (1 ≡ n → Contains row 2) → (2 ≡ n → Contains row 3) → AreLeaving portals n row
leaving n row ascending each zeroth first second third = record { ascending = ascending; leave = λ place. ((λ there. All-contains (Leaves n) row place each there), (λ its. among place its.0 its.1 its.2)) }
  where
    among : (place : ℕ) (portal : Portal) → slice_get portals place ≡ Some portal → portal.from ≡ n → Contains row place
    among zero portal at from = zeroth (let same : out ≡ portal = cc in ap (λ (p : Portal). p.from) same ∙ from)
    among (suc zero) portal at from = first (let same : in_again ≡ portal = cc in ap (λ (p : Portal). p.from) same ∙ from)
    among (suc (suc zero)) portal at from = second (let same : on ≡ portal = cc in ap (λ (p : Portal). p.from) same ∙ from)
    among (suc (suc (suc zero))) portal at from = third (let same : back ≡ portal = cc in ap (λ (p : Portal). p.from) same ∙ from)
    among (suc (suc (suc (suc place)))) portal at from = absurd cc

alone : (n : ℕ) → IsStrictlyIncreasing (n ∷ [])
alone n k less = absurd (omega (arith, less))

both : IsStrictlyIncreasing (1 ∷ 2 ∷ [])
both zero less = omega arith
both (suc k) less = absurd (omega (arith, less))

from_first : AreLeaving portals 0 (0 ∷ [])
from_first = leaving 0 (0 ∷ []) (alone 0) (All-from_recursion (Leaves 0) (0 ∷ []) ((out, refl, refl), tt))
    (λ is. (0, omega arith, refl)) (λ is. absurd (omega (arith, is))) (λ is. absurd (omega (arith, is))) (λ is. absurd (omega (arith, is)))

from_middle : AreLeaving portals 1 (1 ∷ 2 ∷ [])
from_middle = leaving 1 (1 ∷ 2 ∷ []) both (All-from_recursion (Leaves 1) (1 ∷ 2 ∷ []) ((in_again, refl, refl), ((on, refl, refl), tt)))
    (λ is. absurd (omega (arith, is))) (λ is. (0, omega arith, refl)) (λ is. (1, omega arith, refl)) (λ is. absurd (omega (arith, is)))

from_last : AreLeaving portals 2 (3 ∷ [])
from_last = leaving 2 (3 ∷ []) (alone 3) (All-from_recursion (Leaves 2) (3 ∷ []) ((back, refl, refl), tt))
    (λ is. absurd (omega (arith, is))) (λ is. absurd (omega (arith, is))) (λ is. absurd (omega (arith, is))) (λ is. (0, omega arith, refl))

leaving_in_rows : AreLeavingInRows portals 3 begins places
leaving_in_rows = record { one_each = refl; ascending = ascending; within = within; rows = rows }
  where
    ascending : (n : ℕ) → n < 3 → slice_index begins n ≤ slice_index begins (n + 1)
    ascending zero less = omega arith
    ascending (suc zero) less = omega arith
    ascending (suc (suc zero)) less = omega arith
    ascending (suc (suc (suc n))) less = absurd (omega (arith, less))

    within : (n : ℕ) → n < 3 → slice_index begins (n + 1) ≤ 4
    within zero less = omega arith
    within (suc zero) less = omega arith
    within (suc (suc zero)) less = omega arith
    within (suc (suc (suc n))) less = absurd (omega (arith, less))

    rows : (n : ℕ) → n < 3 → AreLeaving portals n (row_at begins places n)
    rows zero less = from_first
    rows (suc zero) less = from_middle
    rows (suc (suc zero)) less = from_last
    rows (suc (suc (suc n))) less = absurd (omega (arith, less))

parts_row : AreWorldParts rooms portals (1 ∷ 0 ∷ 2 ∷ 1 ∷ []) leaves leaves begins places
parts_row = record {
  own = own;
  numbers = numbers;
  entered_are = refl;
  among = All-from_recursion (IsAmong 3) portals (record { from = omega arith; to = omega arith }, (record { from = omega arith; to = omega arith }, (record { from = omega arith; to = omega arith }, (record { from = omega arith; to = omega arith }, tt))));
  leaving = leaving_in_rows;
}

-- the way back through the first door does not enter the last room
other_entered : (numbered before begins places : List ℕ) → AreWorldParts rooms portals (1 ∷ 2 ∷ 2 ∷ 1 ∷ []) numbered before begins places → ⊥
other_entered numbered before begins places parts = absurd (let same = parts.entered_are in cc)

-- and it does not leave the first room
two_leave_first : (entered before : List ℕ) → AreWorldParts rooms portals entered leaves before (0 ∷ 2 ∷ 3 ∷ 4 ∷ []) places → ⊥
two_leave_first entered before parts = not_first (((parts.leaving.rows 0 (omega arith)).leave 1).0 (1, omega arith, refl))
  where
    not_first : Leaves 0 1 → ⊥
    not_first (portal, at, from) = let same : in_again ≡ portal = cc in absurd (omega (arith, ap (λ (p : Portal). p.from) same ∙ from))
