-- Worked rows: a board over three rooms in a row, whose rows have all rooms when it begins. A pass reads the row of the second
-- door, cuts it to the last room, and marks it as done; a pass that was split off before reads the row as it is then.
use Rattle.std.proofs.Common.{◌≡◌, ◌∙◌, ℕ, zero, suc, ◌+◌, ◌*◌, ◌/◌, ◌<◌, ◌==◌, Bool, true, false, List, [], ◌∷◌, get_or, Some, Contains, refl, sym, ap, subst, arith}
use Rattle.std.specs.Int.{bit_at}
use Rattle.std.proofs.lemmas.Nat.Bits.{bit_at-suc, bit_at-zero}
use Rattle.qm_lists.specs.Word.{has_bit}
use Rattle.qm_lists.specs.WorkList.{IsIn}
use Rattle.qm_lists.proofs.Elements.{Contains-first}
use Rattle.qm_contacts.specs.Portals.{Portal}
use Rattle.qm_segments.specs.Sight.{IsInSight}
use Rattle.qm_segments.specs.OpenChain.{alone}
use Rattle.qm_segments.proofs.RoomRows.{are_touchings, sound_by_law}
use Rattle.qm_segments.proofs.RoomSights.{sight_row}
use Rattle.qm_separators.specs.ChainState.{first_state}
use Rattle.qm_separators.specs.PortalSteps.{BeginsWith}
use Rattle.qm_separators.proofs.PortalStepLaws.{are_convex, first_is_state}
use Rattle.qm_chains.specs.inner.OwnRows.{IsInSightAt}
use Rattle.qm_chains.specs.Shown.{IsAt}
use Rattle.qm_chains.proofs.ConeSamples.{world}
use Rattle.qm_shared_rows.specs.Findings.{Findings, ceiling, with_ceiling, with_known}
use Rattle.qm_shared_rows.specs.SharedRows.{SharedRows, HasAll, HasOnly, IsToBeKept, row_word}
use Rattle.qm_shared_rows.specs.Opening.{first_pass, AreGivenRows, opening_of}
use Rattle.qm_shared_rows.specs.Steps.{KnowsBound, KeepsAll}
use Rattle.qm_shared_rows.specs.Runs.{no_step, step_more}
use Rattle.qm_board.specs.WorldSets.{sets_of, IsInBoundAt}
use Rattle.qm_board.specs.Reached.{IsReachedState, IsReachedWord, IsReachedMark, AreReachedRows}
use Rattle.qm_board.proofs.Played.{sound_of, cuts_row_word, marks_done, splits_pass}

-- each of the four rows has the leaves 0, 1 and 2
abbrev given : List ℕ
given = 7 ∷ 7 ∷ 7 ∷ 7 ∷ []

abbrev opened : SharedRows
opened = opening_of (sets_of world) given

abbrev first : Findings
first = first_pass 4 1 given

opening_row : opened ≡ record { words = 0 ∷ 0 ∷ 0 ∷ 0 ∷ 0 ∷ 7 ∷ 7 ∷ 7 ∷ 7 ∷ []; passes = first ∷ [] }
opening_row = refl

first_row : first.ceilings ≡ ceiling 0 0 7 ∷ ceiling 1 0 7 ∷ ceiling 2 0 7 ∷ ceiling 3 0 7 ∷ []
first_row = refl

-- it reads that word in the opening state
read_first : IsReachedWord world given first 2 0 7
read_first = record { state = opened; comes = no_step; id = 0; pass_is = refl; word_is = refl }

-- ---- the second door, whose number is 2, has the last room alone in sight

not_there : {P : Type 0} → false ≡ true → P
not_there is = absurd cc

-- a word below 8 has the bits 0, 1 and 2 at most
no_bit_more : (word bit : ℕ) → word / 2 / 2 / 2 ≡ 0 → has_bit word (suc (suc (suc bit))) ≡ false
no_bit_more word bit is =
    ap (λ (n : ℕ). n == 1) (bit_at-suc word (suc (suc bit)) ∙ bit_at-suc (word / 2) (suc bit) ∙ bit_at-suc (word / 2 / 2) bit ∙ ap (λ (n : ℕ). bit_at n bit) is ∙ bit_at-zero bit)

same_portal : (p q : Portal) → Some p ≡ Some q → q ≡ p
same_portal p q is = cc

in_row : (n : ℕ) → IsInSightAt world 2 n → IsIn (false ∷ false ∷ true ∷ []) n
in_row n sight = sound_by_law.1.1.0 n (subst (λ (p : Portal). IsInSight world.tree p n) (same_portal _ sight.portal sight.portal_is) sight.sight)

-- so a mask with this bit clears no leaf in sight
keeps_last : KeepsAll (sets_of world) 2 0 4 7
keeps_last zero less has kept = not_there (in_row 0 kept.1)
keeps_last (suc zero) less has kept = not_there (in_row 1 kept.1)
keeps_last (suc (suc zero)) less has kept = refl
keeps_last (suc (suc (suc bit))) less has kept = absurd (let within = kept.0 in omega (arith, within))

begins : (p : Portal) → Contains world.portals p → BeginsWith p (first_state p.winding p.into)
begins p listed = let its = are_convex world.tree _ are_touchings p listed in record { state_is = refl; valid = first_is_state p its.0 its.1 }

-- the leaf that a portal enters is in its bound
entered_bound : (number : ℕ) (p : Portal) → IsAt world.portals number p → Contains world.portals p → IsInBoundAt world number p.to
entered_bound number p at listed = record {
  portal = p;
  portal_is = at;
  bound = record { last = p; before = []; state = first_state p.winding p.into; open_chain = alone (begins p listed); ends = refl };
}

-- ---- the pass is split, and the first of both cuts the row of that door

abbrev with_cut : Findings
with_cut = with_ceiling (ceiling 2 0 4) first

abbrev parted : SharedRows
parted = record { words = opened.words; passes = first ∷ first ∷ [] }

abbrev cut : SharedRows
cut = record { words = 0 ∷ 0 ∷ 0 ∷ 0 ∷ 0 ∷ 7 ∷ 7 ∷ 4 ∷ 7 ∷ []; passes = with_cut ∷ first ∷ [] }

parted_comes : IsReachedState world given parted
parted_comes = step_more no_step (splits_pass (sets_of world) opened 0 first refl)

cut_comes : IsReachedState world given cut
cut_comes = step_more parted_comes (cuts_row_word (sets_of world) parted 0 2 0 4 first refl (omega arith) (omega arith) keeps_last)

-- each of the two reads it so, and the other one has not found anything more
read_by_first : IsReachedWord world given with_cut 2 0 4
read_by_first = record { state = cut; comes = cut_comes; id = 0; pass_is = refl; word_is = refl }

read_by_other : IsReachedWord world given first 2 0 4
read_by_other = record { state = cut; comes = cut_comes; id = 1; pass_is = refl; word_is = refl }

-- ---- the first of both marks it as done

abbrev with_mark : Findings
with_mark = with_known 2 with_cut

abbrev marked : SharedRows
marked = record { words = 0 ∷ 0 ∷ 0 ∷ 1 ∷ 0 ∷ 7 ∷ 7 ∷ 4 ∷ 7 ∷ []; passes = with_mark ∷ first ∷ [] }

last_bound : HasOnly (IsInBoundAt world 2) 0 4
last_bound zero less has = not_there has
last_bound (suc zero) less has = not_there has
last_bound (suc (suc zero)) less has = entered_bound 2 _ refl (2, omega arith, refl)
last_bound (suc (suc (suc bit))) less has = not_there (sym (no_bit_more 4 bit refl) ∙ has)

knows_bound : (k : ℕ) → k < 1 → KnowsBound (sets_of world) with_cut 2 k
knows_bound zero less = record { word = 4; listed = Contains-first (ceiling 2 0 4) first.ceilings; bound = last_bound }
knows_bound (suc k) less = absurd (omega (arith, less))

marked_comes : IsReachedState world given marked
marked_comes = step_more cut_comes (marks_done (sets_of world) cut 0 2 with_cut refl (omega arith) knows_bound)

mark_row : IsReachedMark world given 2 with_mark
mark_row = record { state = marked; comes = marked_comes; done = refl; id = 0; pass_is = refl }

-- ---- the rows of a board that is closed then

abbrev whole : List Bool
whole = true ∷ true ∷ true ∷ []

abbrev rows : List (List Bool)
rows = whole ∷ whole ∷ (false ∷ false ∷ true ∷ []) ∷ whole ∷ []

-- two tests of three leaves are the same where they are for each
three : (test other : ℕ → Bool) → test 0 ≡ other 0 → test 1 ≡ other 1 → test 2 ≡ other 2 → (n : ℕ) → n < 3 → test n ≡ other n
three test other one two last zero less = one
three test other one two last (suc zero) less = two
three test other one two last (suc (suc zero)) less = last
three test other one two last (suc (suc (suc n))) less = absurd (omega (arith, less))

closed_rows : AreReachedRows world given with_mark rows
closed_rows = record { state = marked; comes = marked_comes; id = 0; pass_is = refl; rows_are = are }
  where
    are : (portal k bit : ℕ) → portal < 4 → bit < 64 → 64 * k + bit < 3 → get_or (get_or rows portal []) (64 * k + bit) false ≡ has_bit (row_word (sets_of world) marked portal k) bit
    are portal (suc k) bit inside less within = absurd (omega (arith, within))
    are zero zero bit inside less within = three (λ n. get_or whole (64 * 0 + n) false) (has_bit 7) refl refl refl bit (omega (arith, within))
    are (suc zero) zero bit inside less within = three (λ n. get_or whole (64 * 0 + n) false) (has_bit 7) refl refl refl bit (omega (arith, within))
    are (suc (suc zero)) zero bit inside less within = three (λ n. get_or (false ∷ false ∷ true ∷ []) (64 * 0 + n) false) (has_bit 4) refl refl refl bit (omega (arith, within))
    are (suc (suc (suc zero))) zero bit inside less within = three (λ n. get_or whole (64 * 0 + n) false) (has_bit 7) refl refl refl bit (omega (arith, within))
    are (suc (suc (suc (suc portal)))) zero bit inside less within = absurd (omega (arith, inside))

-- ---- what is not read

has_given : AreGivenRows (sets_of world) given
has_given = record {
  one_each = refl;
  sight = λ portal k inside within. subst (HasAll (IsToBeKept (sets_of world) portal) k) (sym (seven portal k inside within)) (λ bit less kept. all_three k bit within kept.0);
  numbered = λ portal k inside within. subst (HasOnly (λ leaf. leaf < 3) k) (sym (seven portal k inside within)) (λ bit less has. three_alone k bit within has);
}
  where
    seven : (portal k : ℕ) → portal < 4 → k < 1 → get_or given (portal * 1 + k) 0 ≡ 7
    seven portal (suc k) inside within = absurd (omega (arith, within))
    seven zero zero inside within = refl
    seven (suc zero) zero inside within = refl
    seven (suc (suc zero)) zero inside within = refl
    seven (suc (suc (suc zero))) zero inside within = refl
    seven (suc (suc (suc (suc portal)))) zero inside within = absurd (omega (arith, inside))

    all_three : (k bit : ℕ) → k < 1 → 64 * k + bit < 3 → has_bit 7 bit ≡ true
    all_three k zero within less = refl
    all_three k (suc zero) within less = refl
    all_three k (suc (suc zero)) within less = refl
    all_three k (suc (suc (suc bit))) within less = absurd (omega (arith, less))

    three_alone : (k bit : ℕ) → k < 1 → has_bit 7 bit ≡ true → 64 * k + bit < 3
    three_alone k zero within has = omega (arith, within)
    three_alone k (suc zero) within has = omega (arith, within)
    three_alone k (suc (suc zero)) within has = omega (arith, within)
    three_alone k (suc (suc (suc bit))) within has = not_there (sym (no_bit_more 7 bit refl) ∙ has)

-- no pass that has cut the row of the second door reads the word as it was
not_as_before : IsReachedWord world given with_cut 2 0 7 → ⊥
not_as_before read =
    let sound = sound_of world given read.state (record { may_be_shared = has_given; comes = read.comes }) in
    let within = sound.ceilings read.id with_cut 2 0 4 read.pass_is (Contains-first (ceiling 2 0 4) first.ceilings) (omega arith) (omega arith) in
    not_there (within 0 (omega arith) (subst (λ (word : ℕ). has_bit word 0 ≡ true) read.word_is refl))

-- no pass reads a word of the first door's row that lacks the last room, which is in sight
lacks_none : (pass : Findings) → IsReachedWord world given pass 0 0 3 → ⊥
lacks_none pass read =
    let sound = sound_of world given read.state (record { may_be_shared = has_given; comes = read.comes }) in
    let has = sound.sight 0 0 (omega arith) (omega arith) 2 (omega arith) (omega arith, record { portal = _; portal_is = refl; sight = sight_row }) in
    not_there (subst (λ (word : ℕ). has_bit word 2 ≡ true) (sym read.word_is) has)
