-- Worked pairs: three rooms in a row. From the first door nothing is seen via the way back through it, so that a clear row is the row
-- of this pair; via the second door the last room is seen, so that each row of that pair has it.
use Rattle.std.proofs.Common.{◌≡◌, ℕ, zero, suc, true, false, Bool, List, get_or, set, replicate, Some, None, refl, subst, arith}
use Rattle.qm_lists.specs.WorkList.{IsIn}
use Rattle.qm_contacts.specs.Portals.{Portal}
use Rattle.qm_coarse_rows.proofs.RoomSamples.{rooms, touchings, out, in_again, on}
use Rattle.qm_segments.specs.Sight.{IsInSight}
use Rattle.qm_segments.specs.SeenVia.{IsSeenVia}
use Rattle.qm_segments.proofs.RoomRows.{are_touchings, sound_by_law}
use Rattle.qm_segments.proofs.ViaLaws.{first_in_sight_back}
use Rattle.qm_separators.specs.ChainState.{first_state}
use Rattle.qm_chains.specs.inner.Pairs.{Pairs, IsPairRow, ArePairs}
use Rattle.qm_separators.specs.PortalSteps.{BeginsWith}
use Rattle.qm_separators.proofs.PortalStepLaws.{are_convex, first_is_state}
use Rattle.qm_chains.proofs.PairRows.{pairs_more}
use Rattle.qm_chains.proofs.ConeSamples.{world, found, last_wanted}

-- what is seen via the way back shows the first room from the first door, and that is not in sight of it
none_back : (n : ℕ) → IsSeenVia rooms out in_again n → ⊥
none_back n via =
    let first : IsInSight rooms out 0 = first_in_sight_back rooms out in_again n via out refl refl in
    absurd (let e : false ≡ true = sound_by_law.0 0 first in cc)

pub clear_row : IsPairRow world 0 found 1 (replicate 3 false)
clear_row n wanted =
    let first_is : wanted.wanted.first ≡ out = cc in
    let back_is : wanted.portal ≡ in_again = cc in
    let via : IsSeenVia rooms out wanted.portal wanted.wanted.target = subst (λ (p : Portal). IsSeenVia rooms p wanted.portal wanted.wanted.target) first_is wanted.wanted.via in
    absurd (none_back wanted.wanted.target (subst (λ (q : Portal). IsSeenVia rooms out q wanted.wanted.target) back_is via))

on_row : (row : List Bool) → IsPairRow world 0 found 2 row → IsIn row 2
on_row row is = is 2 (record { portal = on; portal_is = refl; wanted = last_wanted })

-- all rooms may be in sight of the first door, as far as a flow knows when it begins; then the clear row is put
abbrev begun : Pairs
begun = record { first = 0; start = first_state out.winding out.into; seen = replicate 3 true; own = replicate 4 None }

abbrev barred : Pairs
barred = record { first = 0; start = first_state out.winding out.into; seen = replicate 3 true; own = set (replicate 4 None) 1 (Some (replicate 3 false)) }

out_begins : BeginsWith out begun.start
out_begins = let its = are_convex rooms touchings are_touchings out (0, omega arith, refl) in record { state_is = refl; valid = first_is_state out its.0 its.1 }

three_rooms : (n : ℕ) → IsInSight rooms out n → IsIn (replicate 3 true) n
three_rooms zero sight = refl
three_rooms (suc zero) sight = refl
three_rooms (suc (suc zero)) sight = refl
three_rooms (suc (suc (suc n))) sight = absurd (let none = sight.last_is in cc)

no_row : (number : ℕ) (row : List Bool) → get_or begun.own number None ≡ Some row → ⊥
no_row zero row is = absurd (cc)
no_row (suc zero) row is = absurd (cc)
no_row (suc (suc zero)) row is = absurd (cc)
no_row (suc (suc (suc zero))) row is = absurd (cc)
no_row (suc (suc (suc (suc number)))) row is = absurd (cc)

begun_are : ArePairs world found begun
begun_are = record {
  begun = λ first is. subst (λ (p : Portal). BeginsWith p begun.start) (let same : out ≡ first = cc in same) out_begins;
  seen_wide = refl;
  sees = λ first is n sight. three_rooms n (subst (λ (p : Portal). IsInSight rooms p n) (let same : first ≡ out = cc in same) sight);
  first_within = omega arith;
  own_are = record { one_each = refl; wide = λ number row is. absurd (no_row number row is) };
  rows_are = λ number row is n wanted. absurd (no_row number row is);
}

barred_are : ArePairs world found barred
barred_are = pairs_more world found begun 1 (replicate 3 false) barred refl (omega arith) begun_are refl clear_row
