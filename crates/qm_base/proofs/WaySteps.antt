-- Which lanes of a block a portal may follow, as the bits of a word.
use Rattle.std.proofs.Common.{◌≡◌, ◌≢◌, ℕ, zero, suc, ◌+◌, ◌-◌, ◌*◌, ◌<◌, ◌≤◌, min, Bool, true, false, ◌&&◌, List, [], ◌∷◌, ◌++◌, length, get_or, set, take, drop, bit_or, bit_and, Some, slice_get, ◌⊎◌, inl, inr, ⊎_elim, refl, sym, ap, ◌∙◌, subst, arith, ◌↔◌}
use Rattle.std.specs.List.{All, Contains}
use Rattle.std.proofs.lemmas.Bool.{cases_eq}
use Rattle.std.proofs.lemmas.List.{length-set, length-take, length-drop, get_or-set_same, get_or-set_other, take_more, take_all, take_min}
use Rattle.std.proofs.lemmas.List.Elements.{All-take, All-drop, Contains-append_left, Contains-push, Contains-push_cases}
use Rattle.std.proofs.lemmas.Option.{slice_get-get_or, slice_get_within}
use Rattle.qm_lists.specs.WorkList.{IsIn}
use Rattle.qm_lists.proofs.Cases.{both_yes}
use Rattle.qm_lists.proofs.Elements.{Contains-nil}
use Rattle.qm_lists.specs.Word.{has_bit, IsWord}
use Rattle.qm_lists.proofs.Bits.{has_bit-or, has_bit-and, has_bit-zero}
use Rattle.qm_space.specs.Turned.{turned}
use Rattle.qm_convex.specs.Sides.{HasCornerInFront, HasCornerBehind}
use Rattle.qm_contacts.specs.Portals.{Portal}
use Rattle.qm_base.specs.declared.lane.Lane.{Lane}
use Rattle.qm_base.specs.declared.beside.Beside.{Beside}
use Rattle.qm_base.specs.declared.table.Kind.{Kind}
use Rattle.qm_base.specs.declared.runs.Run.{Run}
use Rattle.qm_base.specs.inner.Tables.{ahead, back, AreKinds, IsTable}
use Rattle.qm_base.specs.inner.Runs.{AreRuns}
use Rattle.qm_base.specs.inner.Ways.{block_of, IsAheadOf, MayFollowInBlock, IsWay, FollowsLane, AreWays}
use Rattle.qm_base.proofs.Words.{or_true}
use Rattle.qm_base.proofs.LaneSteps.{lane_at}
use Rattle.qm_base.proofs.TableSteps.{ahead_says, back_says}
use Rattle.std.specs.Prelude.{slice_index_or}

-- ---- how far loops have come

-- the words of the lanes before a place are written
pub record WaysSoFar (lanes : List Lane) (kinds : List Kind) (table : List Beside) (block place : ℕ) (ways : List ℕ) : Type 0 where
  pub one_each : length ways ≡ length lanes
  pub each : (portals : List Portal) → IsTable portals lanes kinds table → (k : ℕ) (lane : Lane) → k < place → slice_get lanes k ≡ Some lane →
      (j : ℕ) → (has_bit (slice_index_or ways lane.portal 0) j ≡ true) ↔ FollowsLane portals lanes block lane.portal j

-- the lanes of the first runs have their bits
abbrev pub BeforeSoFar : List Beside → List Run → ℕ → ℕ → ℕ → Type 0
BeforeSoFar table runs count k lanes = (j : ℕ) → (has_bit lanes j ≡ true) ↔ IsAheadOf table (take count runs) k j

same_of : {X : Type 0} (xs : List X) (k : ℕ) (a b : X) → slice_get xs k ≡ Some a → slice_get xs k ≡ Some b → a ≡ b
same_of xs k a b first second = let both : Some a ≡ Some b = sym first ∙ second in cc

-- ---- the places of a block

take_at : {X : Type 0} (n : ℕ) (xs : List X) (j : ℕ) (x : X) → slice_get (take n xs) j ≡ Some x → (j < n) × (slice_get xs j ≡ Some x)
take_at zero xs j x is = absurd cc
take_at (suc n) [] j x is = absurd cc
take_at (suc n) (y ∷ xs) zero x is = (omega arith, is)
take_at (suc n) (y ∷ xs) (suc j) x is = let rest = take_at n xs j x is in (omega (arith, rest.0), rest.1)

at_take : {X : Type 0} (n : ℕ) (xs : List X) (j : ℕ) (x : X) → j < n → slice_get xs j ≡ Some x → slice_get (take n xs) j ≡ Some x
at_take zero xs j x less is = absurd (omega (arith, less))
at_take (suc n) [] j x less is = is
at_take (suc n) (y ∷ xs) zero x less is = is
at_take (suc n) (y ∷ xs) (suc j) x less is = at_take n xs j x (omega (arith, less)) is

drop_at : {X : Type 0} (n : ℕ) (xs : List X) (j : ℕ) → slice_get (drop n xs) j ≡ slice_get xs (n + j)
drop_at zero xs j = let e : j ≡ 0 + j = omega arith in ap (slice_get xs) e
drop_at (suc n) [] j = refl
drop_at (suc n) (y ∷ xs) j = let e : suc (n + j) ≡ suc n + j = omega arith in drop_at n xs j ∙ ap (slice_get (y ∷ xs)) e

module _ {X : Type 0} (block : ℕ) (xs : List X) (j : ℕ) (x : X) where
  pub of_block : slice_get (block_of block xs) j ≡ Some x → (j < 64) × (slice_get xs (64 * block + j) ≡ Some x)
  of_block is = let taken = take_at 64 (drop (64 * block) xs) j x is in (taken.0, sym (drop_at (64 * block) xs j) ∙ taken.1)

  pub in_block : j < 64 → slice_get xs (64 * block + j) ≡ Some x → slice_get (block_of block xs) j ≡ Some x
  in_block less is = at_take 64 (drop (64 * block) xs) j x less (drop_at (64 * block) xs j ∙ is)

-- the part of a slice that is a block
pub slice_of_block : {X : Type 0} (block : ℕ) (xs : List X) (long count : ℕ) → long ≡ length xs → count ≡ min (long - 64 * block) 64 → take (count + 64 * block - 64 * block) (drop (64 * block) xs) ≡ block_of block xs
slice_of_block {X} block xs long count all part =
    let rest = length-drop (64 * block) xs in
    let same : count + 64 * block - 64 * block ≡ min 64 (length (drop (64 * block) xs)) = omega (arith, all, part, rest) in
    rw same (take_min 64 (drop (64 * block) xs))

pub length-block : {X : Type 0} (block : ℕ) (xs : List X) → length (block_of block xs) ≤ 64
length-block block xs = let long = length-take 64 (drop (64 * block) xs) in omega (arith, long)

pub All-block : {X : Type 0} (P : X → Type 0) (block : ℕ) (xs : List X) → All P xs → All P (block_of block xs)
All-block P block xs all = All-take P 64 (drop (64 * block) xs) (All-drop P (64 * block) xs all)

-- ---- the lanes whose turned planes have a corner in front

module _ (table : List Beside) (runs : List Run) (k : ℕ) where
  pub before_none : BeforeSoFar table runs 0 k 0
  before_none j = ((λ is. absurd (let never = sym (has_bit-zero j) ∙ is in cc)), (λ of. absurd (Contains-nil of.run of.among)))

  module _ (count lanes : ℕ) (run : Run) (d : Run) (within : count < length runs) (at : get_or runs count d ≡ run) (so_far : BeforeSoFar table runs count k lanes) where
    one_more : take (count + 1) runs ≡ take count runs ++ run ∷ []
    one_more = rw (← at) (take_more runs count d within)

    also : (j : ℕ) → IsAheadOf table (take count runs) k j → IsAheadOf table (take (count + 1) runs) k j
    also j of = record {
      run = of.run;
      among = subst (λ (list : List Run). Contains list of.run) (sym one_more) (Contains-append_left (take count runs) (run ∷ []) of.run of.among);
      lane = of.lane;
      is = of.is;
    }

    cases : (j : ℕ) → IsAheadOf table (take (count + 1) runs) k j → IsAheadOf table (take count runs) k j ⊎ ((has_bit run.lanes j ≡ true) × IsIn (ahead table run.kind) k)
    cases j of = ⊎_elim
        (λ was. inl (record { run = of.run; among = was; lane = of.lane; is = of.is }))
        (λ now. inr (subst (λ (r : Run). has_bit r.lanes j ≡ true) (sym now) of.lane, subst (λ (r : Run). IsIn (ahead table r.kind) k) (sym now) of.is))
        (Contains-push_cases (take count runs) run of.run (subst (λ (list : List Run). Contains list of.run) one_more of.among))

    pub before_more : IsIn (ahead table run.kind) k → BeforeSoFar table runs (count + 1) k (bit_or lanes run.lanes)
    before_more is j = (
      (λ set_now. ⊎_elim
          (λ was. also j ((so_far j).0 was))
          (λ now. record { run = run; among = subst (λ (list : List Run). Contains list run) (sym one_more) (Contains-push (take count runs) run); lane = now; is = is })
          ((or_true (has_bit lanes j) (has_bit run.lanes j)).0 (sym (has_bit-or lanes run.lanes j) ∙ set_now))),
      (λ of. has_bit-or lanes run.lanes j ∙ (or_true (has_bit lanes j) (has_bit run.lanes j)).1 (⊎_elim (λ was. inl ((so_far j).1 was)) (λ now. inr now.0) (cases j of))),
    )

    pub before_other : (IsIn (ahead table run.kind) k → ⊥) → BeforeSoFar table runs (count + 1) k lanes
    before_other never j = ((λ is. also j ((so_far j).0 is)), (λ of. ⊎_elim (λ was. (so_far j).1 was) (λ now. absurd (never now.1)) (cases j of)))

  pub before_all : (count lanes : ℕ) → length runs ≤ count → BeforeSoFar table runs count k lanes → (j : ℕ) → (has_bit lanes j ≡ true) ↔ IsAheadOf table runs k j
  before_all count lanes all so_far = subst (λ (list : List Run). (j : ℕ) → (has_bit lanes j ≡ true) ↔ IsAheadOf table list k j) (take_all count runs all) so_far

-- ---- the word of one portal

module _ (kinds : List Kind) (table : List Beside) (block k word : ℕ) (own : Kind) (own_is : slice_get kinds k ≡ Some own) (reads : IsWord (back table own) block word) where
  pub no_way : word ≡ 0 → IsWay kinds table block k 0
  no_way none = record {
    exactly = λ j. (
      (λ is. absurd (let never = sym (has_bit-zero j) ∙ is in cc)),
      (λ passes.
          let within = (of_block block kinds j passes.kind passes.kind_is).0 in
          let same = same_of kinds k passes.own own passes.own_is own_is in
          let set_there : IsIn (back table own) (64 * block + j) = subst (λ (o : Kind). IsIn (back table o) (64 * block + j)) same passes.back in
          let bit : has_bit word j ≡ true = reads j within ∙ set_there in
          absurd (let never : false ≡ true = sym (ap (λ (w : ℕ). has_bit w j) none ∙ has_bit-zero j) ∙ bit in cc)),
    );
  }

  module _ (runs : List Run) (are : AreRuns (block_of block kinds) runs) (before : ℕ) (says : (j : ℕ) → (has_bit before j ≡ true) ↔ IsAheadOf table runs k j) where
    both_bits : (p q : Bool) → p ≡ true → q ≡ true → (p && q) ≡ true
    both_bits p q first second = rw first second

    pub one_way : IsWay kinds table block k (bit_and word before)
    one_way = record { exactly = λ j. (there j, back_from j) }
      where
        there : (j : ℕ) → has_bit (bit_and word before) j ≡ true → MayFollowInBlock kinds table block k j
        there j is =
            let both = both_yes (has_bit word j) (has_bit before j) (sym (has_bit-and word before j) ∙ is) in
            let of = (says j).0 both.1 in
            let kind_is = (are.exactly of.run of.among j).0 of.lane in
            let within = (of_block block kinds j of.run.kind kind_is).0 in
            record { kind = of.run.kind; own = own; kind_is = kind_is; own_is = own_is; back = sym (reads j within) ∙ both.0; ahead = of.is }

        back_from : (j : ℕ) → MayFollowInBlock kinds table block k j → has_bit (bit_and word before) j ≡ true
        back_from j passes =
            let within = (of_block block kinds j passes.kind passes.kind_is).0 in
            let same = same_of kinds k passes.own own passes.own_is own_is in
            let has = are.every j passes.kind passes.kind_is in
            let lane = (are.exactly has.run has.among j).1 (passes.kind_is ∙ ap Some (sym has.of)) in
            has_bit-and word before j ∙ both_bits (has_bit word j) (has_bit before j)
            (reads j within ∙ subst (λ (o : Kind). IsIn (back table o) (64 * block + j)) same passes.back)
            ((says j).1 (record { run = has.run; among = has.among; lane = lane; is = subst (λ (o : Kind). IsIn (ahead table o) k) (sym has.of) passes.ahead }))

-- ---- what the words say of portals

module _ (portals : List Portal) (lanes : List Lane) (kinds : List Kind) (table : List Beside) (is_table : IsTable portals lanes kinds table) (block k word : ℕ) (way : IsWay kinds table block k word) (lane : Lane) (lane_is : slice_get lanes k ≡ Some lane) where
  kind_of : (m : ℕ) (other : Lane) → slice_get lanes m ≡ Some other → slice_get kinds m ≡ Some (get_or kinds m (record { class = 0; front = false }))
  kind_of m other is = slice_get-get_or kinds m (record { class = 0; front = false }) (let within = slice_get_within lanes m other is in let each = is_table.are_kinds.one_each in omega (arith, within, each))

  lane_of : (m : ℕ) (kind : Kind) → slice_get kinds m ≡ Some kind → slice_get lanes m ≡ Some (get_or lanes m lane)
  lane_of m kind is = slice_get-get_or lanes m lane (let within = slice_get_within kinds m kind is in let each = is_table.are_kinds.one_each in omega (arith, within, each))

  pub way_follows : (j : ℕ) → (has_bit word j ≡ true) ↔ FollowsLane portals lanes block lane.portal j
  way_follows j = ((λ is. there ((way.exactly j).0 is)), (λ follows. (way.exactly j).1 (back_from follows)))
    where
      there : MayFollowInBlock kinds table block k j → FollowsLane portals lanes block lane.portal j
      there passes =
          let at = of_block block kinds j passes.kind passes.kind_is in
          let first = get_or lanes (64 * block + j) lane in
          let first_is = lane_of (64 * block + j) passes.kind at.1 in
          let behind = (back_says portals lanes table lane passes.own (is_table.each k lane passes.own lane_is passes.own_is) (64 * block + j)).0 passes.back in
          let front = (ahead_says portals lanes table first passes.kind (is_table.each (64 * block + j) first passes.kind first_is at.1) k).0 passes.ahead in
          let of_first = lane_at portals lanes is_table.are_lanes.each (64 * block + j) first first_is in
          let of_own = lane_at portals lanes is_table.are_lanes.each k lane lane_is in
          let behind_lane = same_of lanes (64 * block + j) behind.lane first behind.lane_is first_is in
          let behind_portal = same_of portals first.portal behind.portal of_first.portal (ap (λ (l : Lane). slice_get portals l.portal) (sym behind_lane) ∙ behind.portal_is) of_first.portal_is in
          let front_lane = same_of lanes k front.lane lane front.lane_is lane_is in
          let front_portal = same_of portals lane.portal front.portal of_own.portal (ap (λ (l : Lane). slice_get portals l.portal) (sym front_lane) ∙ front.portal_is) of_own.portal_is in
          record {
            lane = first;
            lane_is = in_block block lanes j first at.0 first_is;
            follows = record {
              first = of_first.portal;
              second = of_own.portal;
              first_is = of_first.portal_is;
              second_is = of_own.portal_is;
              follows = record {
                in_front = subst (HasCornerInFront of_own.portal.winding) (sym of_first.into) (subst (λ (p : Portal). HasCornerInFront p.winding (turned first.front first.plane)) front_portal front.corner);
                behind = subst (HasCornerBehind of_first.portal.winding) (sym of_own.into) (subst (λ (p : Portal). HasCornerBehind p.winding (turned lane.front lane.plane)) behind_portal behind.corner);
              };
            };
          }

      back_from : FollowsLane portals lanes block lane.portal j → MayFollowInBlock kinds table block k j
      back_from one =
          let at = of_block block lanes j one.lane one.lane_is in
          let first = one.lane in
          let kind = get_or kinds (64 * block + j) (record { class = 0; front = false }) in
          let own = get_or kinds k (record { class = 0; front = false }) in
          let kind_is = kind_of (64 * block + j) first at.1 in
          let own_is = kind_of k lane lane_is in
          let of_first = lane_at portals lanes is_table.are_lanes.each (64 * block + j) first at.1 in
          let of_own = lane_at portals lanes is_table.are_lanes.each k lane lane_is in
          let first_portal = same_of portals first.portal one.follows.first of_first.portal one.follows.first_is of_first.portal_is in
          let own_portal = same_of portals lane.portal one.follows.second of_own.portal one.follows.second_is of_own.portal_is in
          record {
            kind = kind;
            own = own;
            kind_is = in_block block kinds j kind at.0 kind_is;
            own_is = own_is;
            back = (back_says portals lanes table lane own (is_table.each k lane own lane_is own_is) (64 * block + j)).1 (record {
              lane = first;
              portal = one.follows.first;
              lane_is = at.1;
              portal_is = one.follows.first_is;
              corner = subst (HasCornerBehind one.follows.first.winding) (ap (λ (p : Portal). p.into) own_portal ∙ of_own.into) one.follows.follows.behind;
            });
            ahead = (ahead_says portals lanes table first kind (is_table.each (64 * block + j) first kind at.1 kind_is) k).1 (record {
              lane = lane;
              portal = one.follows.second;
              lane_is = lane_is;
              portal_is = one.follows.second_is;
              corner = subst (HasCornerInFront one.follows.second.winding) (ap (λ (p : Portal). p.into) first_portal ∙ of_first.into) one.follows.follows.in_front;
            });
          }

-- ---- the words of all portals

module _ (lanes : List Lane) (kinds : List Kind) (table : List Beside) (block : ℕ) where
  pub ways_none : (ways : List ℕ) → length ways ≡ length lanes → WaysSoFar lanes kinds table block 0 ways
  ways_none ways one_each = record { one_each = one_each; each = λ portals is k lane less at j. absurd (omega (arith, less)) }

  pub ways_more : (place : ℕ) (ways : List ℕ) (word : ℕ) (lane : Lane) → WaysSoFar lanes kinds table block place ways → slice_get lanes place ≡ Some lane → lane.portal < length ways → IsWay kinds table block place word →
      WaysSoFar lanes kinds table block (place + 1) (set ways lane.portal word)
  ways_more place ways word lane so_far lane_is within way = record {
    one_each = length-set ways lane.portal word ∙ so_far.one_each;
    each = right;
  }
    where
      new : List ℕ
      new = set ways lane.portal word

      here : (portals : List Portal) → IsTable portals lanes kinds table → (p : ℕ) → p ≡ lane.portal → (j : ℕ) → (has_bit (get_or (set ways lane.portal word) p 0) j ≡ true) ↔ FollowsLane portals lanes block p j
      here portals is p at j = rw at (rw (get_or-set_same ways lane.portal word 0 within) (way_follows portals lanes kinds table is block place word way lane lane_is j))

      before : (k : ℕ) (other : Lane) → k < place + 1 → slice_get lanes k ≡ Some other → other.portal ≢ lane.portal → k < place
      before k other less at apart = ⊎_elim
          (λ same. absurd (apart (ap (λ (l : Lane). l.portal) (same_of lanes place other lane (ap (slice_get lanes) (sym same) ∙ at) lane_is))))
          (λ away. omega (arith, less, away))
          (cases_eq k place)

      right : (portals : List Portal) → IsTable portals lanes kinds table → (k : ℕ) (other : Lane) → k < place + 1 → slice_get lanes k ≡ Some other →
          (j : ℕ) → (has_bit (get_or (set ways lane.portal word) other.portal 0) j ≡ true) ↔ FollowsLane portals lanes block other.portal j
      right portals is k other less at j = ⊎_elim
          (λ same. here portals is other.portal same j)
          (λ apart. rw (get_or-set_other ways lane.portal other.portal word 0 apart) (so_far.each portals is k other (before k other less at apart) at j))
          (cases_eq other.portal lane.portal)

  pub ways_all : (place : ℕ) (ways : List ℕ) → length lanes ≤ place → WaysSoFar lanes kinds table block place ways → (portals : List Portal) → IsTable portals lanes kinds table → AreWays portals lanes block ways
  ways_all place ways all so_far portals is = record {
    one_each = so_far.one_each ∙ is.are_lanes.one_each;
    each = λ q less j.
        let has = is.are_lanes.every q less in
        let at : slice_get lanes has.among.0 ≡ Some has.lane = slice_get-get_or lanes has.among.0 has.lane has.among.1 ∙ ap Some has.among.2 in
        let one = so_far.each portals is has.among.0 has.lane (let within = has.among.1 in omega (arith, within, all)) at j in
        subst (λ (p : ℕ). (has_bit (get_or ways p 0) j ≡ true) ↔ FollowsLane portals lanes block p j) has.of one;
  }

-- what is read of the kinds
pub kind_within : (lanes : List Lane) (kinds : List Kind) (table : List Beside) → AreKinds lanes kinds table → (k : ℕ) (kind : Kind) → k < length lanes → kind ≡ get_or kinds k kind → kind.class < length table
kind_within lanes kinds table are k kind within read = subst (λ (one : Kind). one.class < length table) (sym read) (are.within k kind (let each = are.one_each in omega (arith, within, each)))

-- and of the lanes
pub portal_within : (lanes : List Lane) (count : ℕ) → All (λ lane. lane.portal < count) lanes → (k : ℕ) (lane : Lane) → k < length lanes → lane ≡ get_or lanes k lane → lane.portal < count
portal_within lanes count all k lane within read = subst (λ (one : Lane). one.portal < count) (sym read) (all k lane within)
