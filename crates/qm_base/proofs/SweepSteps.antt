-- Floods of many lanes at a time, for any words of portals: leaf by leaf, and at their end.
use Rattle.std.proofs.Common.{◌≡◌, ℕ, ◌+◌, ◌*◌, ◌%◌, ◌^◌, ◌<◌, ◌≤◌, Bool, true, false, ◌||◌, ◌&&◌, List, [], ◌∷◌, ◌++◌, length, get_or, set, take, sum, replicate, bit_or, bit_and, bit_xor, Some, slice_get, ◌⊎◌, inl, inr, ⊎_elim, refl, sym, ap, ◌∙◌, subst, arith}
use Rattle.std.specs.List.{All, Contains}
use Rattle.std.proofs.lemmas.Bool.{cases_eq, cases_lt}
use Rattle.std.proofs.lemmas.List.{length-set, length-replicate, get_or-set_same, get_or-set_other, get_or_past, get_or-replicate, take_more}
use Rattle.std.proofs.lemmas.List.Elements.{Contains-append_left, Contains-push, Contains-push_cases, Contains-get_or, All-from_get_or}
use Rattle.std.proofs.lemmas.List.Sums.{sum_by-set, sum_by-le}
use Rattle.std.proofs.lemmas.Option.{slice_get_within}
use Rattle.qm_lists.specs.Word.{has_bit}
use Rattle.qm_lists.proofs.Bits.{has_bit-zero, has_bit-and}
use Rattle.qm_lists.specs.Reach.{Reach, start, onward}
use Rattle.qm_lists.proofs.Cases.{both_yes}
use Rattle.qm_lists.proofs.Reached.{least}
use Rattle.qm_lists.proofs.Elements.{Contains-nil}
use Rattle.qm_contacts.specs.Portals.{Portal}
use Rattle.qm_contacts.specs.World.{World, AreLeaving}
use Rattle.qm_base.specs.declared.lane.Lane.{Lane}
use Rattle.qm_base.specs.inner.Following.{leaves_of_world}
use Rattle.qm_base.specs.inner.Sweeping.{IsInLane, LeadsInLane, EntersInLane, AreBegun, ArePassed, IsGrown, IsSpread, IsPassed, IsPassing, IsSweep, IsFlooded, AreFlooded}
use Rattle.qm_base.proofs.Words.{bits_set, one_bit, has_due, due_or_not, more_bits, none_due}
use Rattle.std.specs.Prelude.{◌↔◌, slice_index_or}

-- ---- how far loops have come

-- one of some portals, by their places, whose word has the bit enters the leaf
pub record EntersBy (portals : List Portal) (ways places : List ℕ) (bit leaf : ℕ) : Type 0 where
  pub place : ℕ
  pub portal : Portal
  pub listed : Contains places place
  pub portal_is : slice_get portals place ≡ Some portal
  pub to : portal.to ≡ leaf
  pub passes : has_bit (slice_index_or ways place 0) bit ≡ true

-- in the lanes that are due it is seen what some portals enter
pub record IsSpreadBy (portals : List Portal) (ways places : List ℕ) (due : ℕ) (old new : List ℕ) : Type 0 where
  pub same_length : length new ≡ length old
  pub exactly : (bit b : ℕ) → IsInLane new bit b ↔ (IsInLane old bit b ⊎ ((has_bit due bit ≡ true) × EntersBy portals ways places bit b))

-- the lanes before a place have begun
pub record BegunSoFar (world : World) (lanes : List Lane) (place : ℕ) (seen : List ℕ) : Type 0 where
  pub wide : length seen ≡ leaves_of_world world
  pub exactly : (bit leaf : ℕ) → IsInLane seen bit leaf ↔ ((bit < place) × EntersInLane world.portals lanes bit leaf)

-- the leaves before one are passed, or those from it on
pub record SweepUpTo (world : World) (ways : List ℕ) (leaf : ℕ) (old new old_passed new_passed : List ℕ) (due : Bool) : Type 0 where
  pub step : IsPassed world ways old new old_passed new_passed due
  pub rest : due ≡ false → (m : ℕ) → m < leaf → slice_index_or new m 0 ≡ slice_index_or new_passed m 0

pub record SweepDownTo (world : World) (ways : List ℕ) (leaf : ℕ) (old new old_passed new_passed : List ℕ) (due : Bool) : Type 0 where
  pub step : IsPassed world ways old new old_passed new_passed due
  pub rest : due ≡ false → (m : ℕ) → leaf ≤ m → m < length new → slice_index_or new m 0 ≡ slice_index_or new_passed m 0

same_of : {X : Type 0} (xs : List X) (k : ℕ) (a b : X) → slice_get xs k ≡ Some a → slice_get xs k ≡ Some b → a ≡ b
same_of xs k a b first second = let both : Some a ≡ Some b = sym first ∙ second in cc

-- ---- no word has a bit

pub none_in_lane : (n bit leaf : ℕ) → IsInLane (replicate n 0) bit leaf → ⊥
none_in_lane n bit leaf is =
    let zero_word : get_or {A = ℕ} (replicate n 0) leaf 0 ≡ 0 = ⊎_elim
    (λ within. get_or-replicate n leaf 0 0 within)
    (λ past. let long : length {A = ℕ} (replicate n 0) ≡ n = length-replicate n 0 in get_or_past (replicate n 0) leaf 0 (omega (arith, past, long)))
    (cases_lt leaf n) in
    absurd (let never : false ≡ true = sym (ap (λ (w : ℕ). has_bit w bit) zero_word ∙ has_bit-zero bit) ∙ is in cc)

-- ---- how lanes begin

module _ (world : World) (lanes : List Lane) where
  pub begun_none : BegunSoFar world lanes 0 (replicate (leaves_of_world world) 0)
  begun_none = record {
    wide = length-replicate (leaves_of_world world) 0;
    exactly = λ bit leaf. ((λ is. absurd (none_in_lane (leaves_of_world world) bit leaf is)), (λ both. absurd (omega (arith, both.0))));
  }

  pub begun_more : (place : ℕ) (seen : List ℕ) (lane : Lane) (portal : Portal) → place < 64 → BegunSoFar world lanes place seen → slice_get lanes place ≡ Some lane → slice_get world.portals lane.portal ≡ Some portal →
      portal.to < leaves_of_world world → BegunSoFar world lanes (place + 1) (set seen portal.to (bit_or (get_or seen portal.to 0) (1 * 2 ^ place % 2 ^ 64)))
  begun_more place seen lane portal few so_far lane_is portal_is within = record {
    wide = length-set seen portal.to word ∙ so_far.wide;
    exactly = λ bit leaf. (there bit leaf, back bit leaf);
  }
    where
      word : ℕ
      word = bit_or (get_or seen portal.to 0) (1 * 2 ^ place % 2 ^ 64)

      in_seen : portal.to < length seen
      in_seen = let wide = so_far.wide in omega (arith, within, wide)

      there : (bit leaf : ℕ) → IsInLane (set seen portal.to word) bit leaf → (bit < place + 1) × EntersInLane world.portals lanes bit leaf
      there bit leaf is = ⊎_elim
          (λ was. let both = (so_far.exactly bit leaf).0 was in (omega (arith, both.0), both.1))
          (λ now. let here = (one_bit place bit few).0 now.1 in
          (omega (arith, here), record { lane = lane; portal = portal; lane_is = ap (slice_get lanes) here ∙ lane_is; portal_is = portal_is; to = sym now.0 }))
          ((bits_set seen portal.to (1 * 2 ^ place % 2 ^ 64) in_seen bit leaf).0 is)

      at_place : (bit leaf : ℕ) → EntersInLane world.portals lanes bit leaf → bit ≡ place → IsInLane seen bit leaf ⊎ ((leaf ≡ portal.to) × (has_bit (1 * 2 ^ place % 2 ^ 64) bit ≡ true))
      at_place bit leaf enters here =
          let lane_of = same_of lanes place enters.lane lane (ap (slice_get lanes) (sym here) ∙ enters.lane_is) lane_is in
          let portal_of = same_of world.portals lane.portal enters.portal portal (ap (λ (l : Lane). slice_get world.portals l.portal) (sym lane_of) ∙ enters.portal_is) portal_is in
          inr (sym enters.to ∙ ap (λ (p : Portal). p.to) portal_of, (one_bit place bit few).1 here)

      back : (bit leaf : ℕ) → (bit < place + 1) × EntersInLane world.portals lanes bit leaf → IsInLane (set seen portal.to word) bit leaf
      back bit leaf both = (bits_set seen portal.to (1 * 2 ^ place % 2 ^ 64) in_seen bit leaf).1 (⊎_elim (at_place bit leaf both.1) (λ other. inl ((so_far.exactly bit leaf).1 (omega (arith, both.0, other), both.1))) (cases_eq bit place))

  pub begun_all : (place : ℕ) (seen : List ℕ) → length lanes ≤ place → BegunSoFar world lanes place seen → AreBegun world lanes seen
  begun_all place seen all so_far = record {
    wide = so_far.wide;
    exactly = λ bit leaf. (
      (λ is. ((so_far.exactly bit leaf).0 is).1),
      (λ enters. (so_far.exactly bit leaf).1 (let within = slice_get_within lanes bit enters.lane enters.lane_is in omega (arith, within, all), enters)),
    );
  }

-- ---- what lanes come to from one leaf

module _ (portals : List Portal) (ways : List ℕ) (due : ℕ) (old : List ℕ) where
  pub spread_none : IsSpreadBy portals ways [] due old old
  spread_none = record {
    same_length = refl;
    exactly = λ bit b. ((λ is. inl is), (λ is. ⊎_elim (λ was. was) (λ both. absurd (Contains-nil both.1.place both.1.listed)) is));
  }

  pub spread_more : (places : List ℕ) (i next : ℕ) (seen : List ℕ) (portal : Portal) → i < length places → get_or places i 0 ≡ next → IsSpreadBy portals ways (take i places) due old seen →
      slice_get portals next ≡ Some portal → portal.to < length old →
      IsSpreadBy portals ways (take (i + 1) places) due old (set seen portal.to (bit_or (get_or seen portal.to 0) (bit_and due (get_or ways next 0))))
  spread_more places i next seen portal within at so_far portal_is in_old = record {
    same_length = length-set seen portal.to word ∙ so_far.same_length;
    exactly = λ bit b. (there bit b, back bit b);
  }
    where
      more : ℕ
      more = bit_and due (get_or ways next 0)

      word : ℕ
      word = bit_or (get_or seen portal.to 0) (bit_and due (get_or ways next 0))

      in_seen : portal.to < length seen
      in_seen = let same = so_far.same_length in omega (arith, in_old, same)

      one_more : take (i + 1) places ≡ take i places ++ next ∷ []
      one_more = rw (← at) (take_more places i 0 within)

      also : (bit b : ℕ) → EntersBy portals ways (take i places) bit b → EntersBy portals ways (take (i + 1) places) bit b
      also bit b enters = record {
        place = enters.place;
        portal = enters.portal;
        listed = subst (λ (list : List ℕ). Contains list enters.place) (sym one_more) (Contains-append_left (take i places) (next ∷ []) enters.place enters.listed);
        portal_is = enters.portal_is;
        to = enters.to;
        passes = enters.passes;
      }

      there : (bit b : ℕ) → IsInLane (set seen portal.to word) bit b → IsInLane old bit b ⊎ ((has_bit due bit ≡ true) × EntersBy portals ways (take (i + 1) places) bit b)
      there bit b is = ⊎_elim
          (λ was. ⊎_elim (λ before. inl before) (λ both. inr (both.0, also bit b both.1)) ((so_far.exactly bit b).0 was))
          (λ now. let both = both_yes (has_bit due bit) (has_bit (get_or ways next 0) bit) (sym (has_bit-and due (get_or ways next 0) bit) ∙ now.1) in
          inr (
            both.0,
            record {
              place = next;
              portal = portal;
              listed = subst (λ (list : List ℕ). Contains list next) (sym one_more) (Contains-push (take i places) next);
              portal_is = portal_is;
              to = sym now.0;
              passes = both.1;
            },
          ))
          ((bits_set seen portal.to (bit_and due (get_or ways next 0)) in_seen bit b).0 is)

      both_bits : (p q : Bool) → p ≡ true → q ≡ true → (p && q) ≡ true
      both_bits p q first second = rw first second

      by_next : (bit b : ℕ) → has_bit due bit ≡ true → (enters : EntersBy portals ways (take (i + 1) places) bit b) → next ≡ enters.place → IsInLane seen bit b ⊎ ((b ≡ portal.to) × (has_bit (bit_and due (get_or ways next 0)) bit ≡ true))
      by_next bit b due_is enters here =
          let portal_of = same_of portals next enters.portal portal (ap (slice_get portals) here ∙ enters.portal_is) portal_is in
          let passes : has_bit (get_or ways next 0) bit ≡ true = ap (λ (n : ℕ). has_bit (get_or ways n 0) bit) here ∙ enters.passes in
          inr (sym enters.to ∙ ap (λ (p : Portal). p.to) portal_of, has_bit-and due (get_or ways next 0) bit ∙ both_bits (has_bit due bit) (has_bit (get_or ways next 0) bit) due_is passes)

      by_any : (bit b : ℕ) → has_bit due bit ≡ true → (enters : EntersBy portals ways (take (i + 1) places) bit b) → IsInLane seen bit b ⊎ ((b ≡ portal.to) × (has_bit (bit_and due (get_or ways next 0)) bit ≡ true))
      by_any bit b due_is enters = ⊎_elim
          (λ was. inl ((so_far.exactly bit b).1 (inr (due_is, record { place = enters.place; portal = enters.portal; listed = was; portal_is = enters.portal_is; to = enters.to; passes = enters.passes }))))
          (λ here. by_next bit b due_is enters here)
          (Contains-push_cases (take i places) next enters.place (subst (λ (list : List ℕ). Contains list enters.place) one_more enters.listed))

      back : (bit b : ℕ) → IsInLane old bit b ⊎ ((has_bit due bit ≡ true) × EntersBy portals ways (take (i + 1) places) bit b) → IsInLane (set seen portal.to word) bit b
      back bit b is =
          (bits_set seen portal.to (bit_and due (get_or ways next 0)) in_seen bit b).1 (⊎_elim (λ before. inl ((so_far.exactly bit b).1 (inl before))) (λ both. by_any bit b both.0 both.1) is)

  pub spread_all : (leaf : ℕ) (places : List ℕ) (seen : List ℕ) → AreLeaving portals leaf places → IsSpreadBy portals ways places due old seen → IsSpread portals ways leaf due old seen
  spread_all leaf places seen leaving by = record {
    same_length = by.same_length;
    exactly = λ bit b. (
      (λ is. ⊎_elim (λ was. inl was) (λ both. inr (both.0, goes bit b both.1)) ((by.exactly bit b).0 is)),
      (λ is. (by.exactly bit b).1 (⊎_elim (λ was. inl was) (λ both. inr (both.0, enters bit b both.1)) is)),
    );
  }
    where
      goes : (bit b : ℕ) → EntersBy portals ways places bit b → LeadsInLane portals ways bit leaf b
      goes bit b one =
          let leaves = (leaving.leave one.place).0 one.listed in
          let same = same_of portals one.place leaves.0 one.portal leaves.1 one.portal_is in
          record { place = one.place; portal = one.portal; portal_is = one.portal_is; from = sym (ap (λ (p : Portal). p.from) same) ∙ leaves.2; to = one.to; passes = one.passes }

      enters : (bit b : ℕ) → LeadsInLane portals ways bit leaf b → EntersBy portals ways places bit b
      enters bit b one = record {
        place = one.place;
        portal = one.portal;
        listed = (leaving.leave one.place).1 (one.portal, one.portal_is, one.from);
        portal_is = one.portal_is;
        to = one.to;
        passes = one.passes;
      }

-- ---- growing

pub grown_none : (portals : List Portal) (ways words : List ℕ) → IsGrown portals ways words words
grown_none portals ways words = record { stays = λ bit leaf is. is; reached = λ bit leaf is. start is }

pub grown_twice : (portals : List Portal) (ways old middle new : List ℕ) → IsGrown portals ways old middle → IsGrown portals ways middle new → IsGrown portals ways old new
grown_twice portals ways old middle new first second = record {
  stays = λ bit leaf is. second.stays bit leaf (first.stays bit leaf is);
  reached = λ bit leaf is. least (IsInLane middle bit) (LeadsInLane portals ways bit) (Reach (IsInLane old bit) (LeadsInLane portals ways bit)) (λ m was. first.reached bit m was) (λ from to reached goes. onward reached goes) leaf (second.reached bit leaf is);
}

-- ---- a leaf is passed

pub passed_none : (world : World) (ways seen : List ℕ) → length seen ≡ leaves_of_world world → ArePassed world ways seen (replicate (leaves_of_world world) 0)
passed_none world ways seen wide = record {
  seen_wide = wide;
  passed_wide = length-replicate (leaves_of_world world) 0;
  only_seen = λ bit leaf is. absurd (none_in_lane (leaves_of_world world) bit leaf is);
  closed = λ bit a b is goes. absurd (none_in_lane (leaves_of_world world) bit a is);
}

module _ (world : World) (ways : List ℕ) (leaf : ℕ) (seen passed : List ℕ) (within : leaf < leaves_of_world world) (are : ArePassed world ways seen passed) where
  pub rests : bit_xor (get_or seen leaf 0) (get_or passed leaf 0) ≡ 0 → IsPassing world ways leaf seen seen passed passed false
  rests none = record {
    step = record {
      passed = are;
      grown = grown_none world.portals ways seen;
      more = λ never. absurd cc;
      same = λ _. refl;
      same_passed = λ _. refl;
    };
    rest = λ _. none_due (get_or seen leaf 0) (get_or passed leaf 0) none;
  }

  pub passes : (new : List ℕ) → (bit_xor (get_or seen leaf 0) (get_or passed leaf 0) ≡ 0 → ⊥) → IsSpread world.portals ways leaf (bit_xor (get_or seen leaf 0) (get_or passed leaf 0)) seen new →
      IsPassing world ways leaf seen new passed (set passed leaf (get_or seen leaf 0)) true
  passes new some spread = record {
    step = record {
      passed = record {
        seen_wide = spread.same_length ∙ are.seen_wide;
        passed_wide = length-set passed leaf (get_or seen leaf 0) ∙ are.passed_wide;
        only_seen = only;
        closed = closed_now;
      };
      grown = record {
        stays = λ bit m is. (spread.exactly bit m).1 (inl is);
        reached = λ bit m is. ⊎_elim (λ was. start was) (λ both. onward (start (due_seen bit both.0)) both.1) ((spread.exactly bit m).0 is);
      };
      more = λ _. more_now;
      same = λ never. absurd cc;
      same_passed = λ never. absurd cc;
    };
    rest = λ never. absurd cc;
  }
    where
      in_passed : leaf < length passed
      in_passed = let wide = are.passed_wide in omega (arith, within, wide)

      new_passed : List ℕ
      new_passed = set passed leaf (get_or seen leaf 0)

      due_seen : (bit : ℕ) → has_bit (bit_xor (get_or seen leaf 0) (get_or passed leaf 0)) bit ≡ true → IsInLane seen bit leaf
      due_seen bit due = has_due (get_or seen leaf 0) (get_or passed leaf 0) bit (are.only_seen bit leaf) due

      at_leaf : get_or new_passed leaf 0 ≡ get_or seen leaf 0
      at_leaf = get_or-set_same passed leaf (get_or seen leaf 0) 0 within_it
        where
          within_it : leaf < length passed
          within_it = in_passed

      -- what is passed now was passed, or is seen at the leaf
      known : (bit m : ℕ) → IsInLane new_passed bit m → IsInLane passed bit m ⊎ ((m ≡ leaf) × IsInLane seen bit leaf)
      known bit m is = ⊎_elim
          (λ here. inr (here, ap (λ (w : ℕ). has_bit w bit) (sym at_leaf) ∙ ap (λ (n : ℕ). has_bit (get_or new_passed n 0) bit) (sym here) ∙ is))
          (λ other. inl (ap (λ (w : ℕ). has_bit w bit) (sym (get_or-set_other passed leaf m (get_or seen leaf 0) 0 other)) ∙ is))
          (cases_eq m leaf)

      only : (bit m : ℕ) → IsInLane new_passed bit m → IsInLane new bit m
      only bit m is = (spread.exactly bit m).1 (inl (⊎_elim (λ was. are.only_seen bit m was) (λ both. subst (IsInLane seen bit) (sym both.0) both.1) (known bit m is)))

      from_leaf : (bit a b : ℕ) → (a ≡ leaf) × IsInLane seen bit leaf → LeadsInLane world.portals ways bit a b → IsInLane seen bit b ⊎ ((has_bit (bit_xor (get_or seen leaf 0) (get_or passed leaf 0)) bit ≡ true) × LeadsInLane world.portals ways bit leaf b)
      from_leaf bit a b both goes = ⊎_elim
          (λ before. inl (are.closed bit leaf b before (subst (λ (n : ℕ). LeadsInLane world.portals ways bit n b) both.0 goes)))
          (λ due. inr (due, subst (λ (n : ℕ). LeadsInLane world.portals ways bit n b) both.0 goes))
          (due_or_not (get_or seen leaf 0) (get_or passed leaf 0) bit both.1)

      closed_now : (bit a b : ℕ) → IsInLane new_passed bit a → LeadsInLane world.portals ways bit a b → IsInLane new bit b
      closed_now bit a b is goes =
          (spread.exactly bit b).1 (⊎_elim (λ was. inl (are.closed bit a b was goes)) (λ both. from_leaf bit a b both goes) (known bit a is))

      more_now : sum passed < sum new_passed
      more_now =
          let less = more_bits (get_or seen leaf 0) (get_or passed leaf 0) (λ i. are.only_seen i leaf) some in
          let total = sum_by-set (λ (n : ℕ). n) passed leaf (get_or seen leaf 0) 0 in_passed in
          omega (arith, less, total)

-- ---- sweeps

module _ (world : World) (ways old : List ℕ) (old_passed : List ℕ) where
  pub step_none : ArePassed world ways old old_passed → IsPassed world ways old old old_passed old_passed false
  step_none are = record {
    passed = are;
    grown = grown_none world.portals ways old;
    more = λ never. absurd cc;
    same = λ _. refl;
    same_passed = λ _. refl;
  }

  pub step_more : (seen passed new new_passed : List ℕ) (due more : Bool) → IsPassed world ways old seen old_passed passed due → IsPassed world ways seen new passed new_passed more → IsPassed world ways old new old_passed new_passed (due || more)
  step_more seen passed new new_passed true true first second = record {
    passed = second.passed;
    grown = grown_twice world.portals ways old seen new first.grown second.grown;
    more = λ _. let a = first.more refl in let b = second.more refl in omega (arith, a, b);
    same = λ never. absurd cc;
    same_passed = λ never. absurd cc;
  }
  step_more seen passed new new_passed true false first second = record {
    passed = second.passed;
    grown = grown_twice world.portals ways old seen new first.grown second.grown;
    more = λ _. subst (λ (words : List ℕ). sum old_passed < sum words) (sym (second.same_passed refl)) (first.more refl);
    same = λ never. absurd cc;
    same_passed = λ never. absurd cc;
  }
  step_more seen passed new new_passed false true first second = record {
    passed = second.passed;
    grown = grown_twice world.portals ways old seen new first.grown second.grown;
    more = λ _. subst (λ (words : List ℕ). sum words < sum new_passed) (first.same_passed refl) (second.more refl);
    same = λ never. absurd cc;
    same_passed = λ never. absurd cc;
  }
  step_more seen passed new new_passed false false first second = record {
    passed = second.passed;
    grown = grown_twice world.portals ways old seen new first.grown second.grown;
    more = λ never. absurd cc;
    same = λ _. second.same refl ∙ first.same refl;
    same_passed = λ _. second.same_passed refl ∙ first.same_passed refl;
  }

none_of : (due more : Bool) → (due || more) ≡ false → (due ≡ false) × (more ≡ false)
none_of true more is = absurd cc
none_of false more is = (refl, is)

module _ (world : World) (ways : List ℕ) (leaf : ℕ) (old seen new old_passed passed new_passed : List ℕ) (due more : Bool) (passing : IsPassing world ways leaf seen new passed new_passed more) where
  at_rest : more ≡ false → (m : ℕ) → get_or seen m 0 ≡ get_or passed m 0 → get_or new m 0 ≡ get_or new_passed m 0
  at_rest none m was = ap (λ (words : List ℕ). get_or words m 0) (passing.step.same none) ∙ was ∙ ap (λ (words : List ℕ). get_or words m 0) (sym (passing.step.same_passed none))

  pub up_more : SweepUpTo world ways leaf old seen old_passed passed due → SweepUpTo world ways (leaf + 1) old new old_passed new_passed (due || more)
  up_more so_far = record {
    step = step_more world ways old old_passed seen passed new new_passed due more so_far.step passing.step;
    rest = λ none m before. let both = none_of due more none in
        ⊎_elim (λ here. rw here (passing.rest both.1)) (λ other. at_rest both.1 m (so_far.rest both.0 m (omega (arith, before, other)))) (cases_eq m leaf);
  }

  pub down_more : SweepDownTo world ways (leaf + 1) old seen old_passed passed due → SweepDownTo world ways leaf old new old_passed new_passed (due || more)
  down_more so_far = record {
    step = step_more world ways old old_passed seen passed new new_passed due more so_far.step passing.step;
    rest = λ none m from within. let both = none_of due more none in
        ⊎_elim (λ here. rw here (passing.rest both.1))
        (λ other. at_rest both.1 m (so_far.rest both.0 m (omega (arith, from, other)) (subst (λ (words : List ℕ). m < length words) (passing.step.same both.1) within)))
        (cases_eq m leaf);
  }

-- ---- at the end

-- the sum of words has a bound
pub passed_most : (words : List ℕ) → ((k : ℕ) → get_or words k 0 < 2 ^ 64) → sum words ≤ length words * 2 ^ 64
passed_most words small = sum_by-le (λ (n : ℕ). n) (2 ^ 64) words (All-from_get_or (λ (n : ℕ). n ≤ 2 ^ 64) words 0 (λ k within. let one = small k in omega (arith, one)))

pub flood_over : (world : World) (ways first old new old_passed new_passed : List ℕ) → IsGrown world.portals ways first old → IsSweep world ways old new old_passed new_passed false → IsFlooded world ways first new
flood_over world ways first old new old_passed new_passed grown sweep = record {
  wide = sweep.step.passed.seen_wide;
  grown = grown_twice world.portals ways first old new grown sweep.step.grown;
  closed = λ bit a b is goes. sweep.step.passed.closed bit a b (ap (λ (w : ℕ). has_bit w bit) (sym (all_rest a)) ∙ is) goes;
}
  where
    all_rest : (a : ℕ) → get_or new a 0 ≡ get_or new_passed a 0
    all_rest a = ⊎_elim
        (λ within. sweep.rest refl a within)
        (λ past. get_or_past new a 0 past ∙ sym (get_or_past new_passed a 0 (let one = sweep.step.passed.seen_wide in let two = sweep.step.passed.passed_wide in omega (arith, one, two, past))))
        (cases_lt a (length new))

-- each lane is exactly its least set
pub lanes_flooded : (world : World) (ways : List ℕ) (lanes : List Lane) (first seen : List ℕ) → AreBegun world lanes first → IsFlooded world ways first seen → AreFlooded world ways lanes seen
lanes_flooded world ways lanes first seen begun flooded = record {
  wide = flooded.wide;
  exactly = λ bit leaf. (
    (λ is. least (IsInLane first bit) (LeadsInLane world.portals ways bit) (Reach (EntersInLane world.portals lanes bit) (LeadsInLane world.portals ways bit))
        (λ m was. start ((begun.exactly bit m).0 was)) (λ from to reached goes. onward reached goes) leaf (flooded.grown.reached bit leaf is)),
    (λ reached. least (EntersInLane world.portals lanes bit) (LeadsInLane world.portals ways bit) (IsInLane seen bit)
        (λ m enters. flooded.grown.stays bit m ((begun.exactly bit m).1 enters)) (λ from to is goes. flooded.closed bit from to is goes) leaf reached),
  );
}

-- the portals that leave a leaf are portals
pub leaving_within : (portals : List Portal) (leaf : ℕ) (places : List ℕ) → AreLeaving portals leaf places → All (λ q. q < length portals) places
leaving_within portals leaf places leaving k d within =
    let one = (leaving.leave (get_or places k d)).0 (Contains-get_or places k d within) in
    slice_get_within portals (get_or places k d) one.0 one.1
