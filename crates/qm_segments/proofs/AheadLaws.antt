-- What is ahead of a chain: from the start on, and after each step, until the leaf is reached; and a route to it, over
-- portals that the segment goes through.
use Rattle.std.proofs.Common.{◌≡◌, ◌≢◌, ℕ, List, [], ◌∷◌, ◌++◌, Contains, Some, refl, sym, ap, ◌∙◌, subst, arith, ◌⊎◌, inl, inr, ⊎_elim}
use Rattle.std.proofs.lemmas.List.{append_assoc}
use Rattle.std.proofs.lemmas.List.Elements.{All-contains, Contains-append_right}
use Rattle.qm_lists.proofs.Elements.{Contains-nil, Contains-first, Contains-later, Contains-cons_cases}
use Rattle.qm_space.specs.Point.{Point}
use Rattle.qm_space.specs.Line.{IsBetween}
use Rattle.qm_partition.specs.Tree.{Tree}
use Rattle.qm_partition.specs.Counting.{node_planes}
use Rattle.qm_partition.specs.LeafOfPoint.{leaf_at}
use Rattle.qm_partition.specs.Ways.{HasPoints}
use Rattle.qm_contacts.specs.Meeting.{meetings}
use Rattle.qm_contacts.specs.Touching.{Touching, AreTouchings}
use Rattle.qm_contacts.specs.Portals.{Portal, portals_of}
use Rattle.qm_contacts.proofs.Numbers.{number_at_leaf}
use Rattle.qm_segments.specs.Segment.{Segment}
use Rattle.qm_segments.specs.LeafNumber.{IsNumberOf}
use Rattle.qm_segments.specs.Passes.{IsWithinLeaf, Passes, within, onward}
use Rattle.qm_segments.specs.GoesThrough.{GoesThrough}
use Rattle.qm_segments.specs.Sight.{IsInSight}
use Rattle.qm_segments.specs.SeenVia.{IsSeenVia, LiesFartherOn}
use Rattle.qm_segments.specs.Steps.{LetSegmentsThrough}
use Rattle.qm_segments.specs.Ahead.{IsAheadOver, IsAhead}
use Rattle.qm_segments.specs.Route.{Route, arrived, over}
use Rattle.qm_segments.proofs.Betweenness.{farther_between}
use Rattle.qm_segments.proofs.LeavesPassed.{NoneHasBoth, none_from}
use Rattle.qm_segments.proofs.EndLeaves.{end_in_leaf, last_leaf_listed}
use Rattle.qm_segments.proofs.EarlierSights.{entered_in_sight}
use Rattle.qm_segments.proofs.LeavesOnce.{leaves_once}
use Rattle.qm_segments.proofs.GenericSegments.{generic_none}
use Rattle.qm_segments.proofs.PortalsListed.{one_portal}
use Rattle.qm_segments.proofs.EnteredLeaves.{EntersNext, enters_next, portal_entered, goes_through_entered}

-- a leaf has one number, and a number one leaf
pub same_number : (tree : Tree) (n m k : ℕ) → IsNumberOf tree n k → IsNumberOf tree m k → n ≡ m
same_number tree n m k first second = sym (number_at_leaf tree n k first).3 ∙ (number_at_leaf tree m k second).3

pub same_place : (tree : Tree) (n k j : ℕ) → IsNumberOf tree n k → IsNumberOf tree n j → k ≡ j
same_place tree n k j first second = let e : Some k ≡ Some j = sym first ∙ second in cc

-- ---- the leaves on the way to one that is ahead

module _ {State : Type 0} (meets : Segment → Point → State → Type 0) (tree : Tree) (p : Portal) (state : State) (n : ℕ) (Has : ℕ → Type 0) (k : ℕ) (ahead : IsAheadOver meets tree p state n Has k) where
  -- they may have another property
  abbrev pub ahead_over : (More : ℕ → Type 0) → ((m j : ℕ) → Contains ahead.rest j → IsNumberOf tree m j → More m) → IsAheadOver meets tree p state n More k
  ahead_over More each_has = record {
    sight = ahead.sight;
    at = ahead.at;
    between = ahead.between;
    met = ahead.met;
    before = ahead.before;
    here = ahead.here;
    rest = ahead.rest;
    leaves_are = ahead.leaves_are;
    passes = ahead.passes;
    here_is = ahead.here_is;
    each_has = each_has;
  }

  -- such as one that the first one gives
  abbrev pub ahead_with : (More : ℕ → Type 0) → ((m : ℕ) → Has m → More m) → IsAheadOver meets tree p state n More k
  ahead_with More gives = ahead_over More (λ m j there number. gives m (ahead.each_has m j there number))

  -- each is in sight of the portal
  pub leaf_ahead_in_sight : (m j : ℕ) → Contains ahead.rest j → IsNumberOf tree m j → IsInSight tree p m
  leaf_ahead_in_sight m j there number =
      entered_in_sight tree p k ahead.sight m j
      (subst (λ (all : List ℕ). Contains all j) (sym ahead.leaves_are) (Contains-append_right ahead.before (ahead.here ∷ ahead.rest) j (Contains-later ahead.here j ahead.rest there))) number

  -- the last one is the leaf that is ahead
  abbrev pub last_place : ℕ
  last_place = leaf_at tree.planes tree.shape ahead.sight.segment.to

  pub last_listed : Contains (ahead.here ∷ ahead.rest) last_place
  last_listed = last_leaf_listed tree ahead.at ahead.sight.segment.to ahead.here ahead.rest ahead.sight.generic.to_off ahead.passes

module _ (tree : Tree) (have : HasPoints tree) (touchings : List Touching) (are : AreTouchings tree.planes (meetings tree) touchings) where
  -- the portal through which a segment that shows a leaf enters its next leaf
  pub record IsEntered (s : Segment) (m : Point) (k n : ℕ) : Type 0 where
    pub portal : Portal
    pub listed : Contains (portals_of tree touchings) portal
    pub from_is : IsNumberOf tree portal.from k
    pub to_is : IsNumberOf tree portal.to n
    pub through : GoesThrough s portal m

  pub entered_through : (p : Portal) (e : ℕ) (sight : IsInSight tree p e) (x m : Point) (k n : ℕ) (rest : List ℕ) → EntersNext tree sight.segment x m k n rest → IsEntered sight.segment m k n
  entered_through p e sight x m k n rest enters =
      let found = portal_entered tree have touchings are sight.segment sight.generic sight.contents sight.not_solid sight.clear x m k n rest enters in
      record {
        portal = found.portal;
        listed = found.listed;
        from_is = found.from_is;
        to_is = found.to_is;
        through = goes_through_entered tree have touchings are sight.segment sight.generic sight.contents sight.not_solid sight.clear x m k n rest enters found;
      }

  module _ {State : Type 0} (begins : Portal → State → Type 0) (goes : State → Portal → State → Type 0) (blocks : State → Portal → Type 0) (meets : Segment → Point → State → Type 0) (lets : LetSegmentsThrough begins goes blocks (portals_of tree touchings) meets) where
    -- ---- at the start

    module _ (p : Portal) (listed : Contains (portals_of tree touchings) p) (k : ℕ) (state : State) (begun : begins p state) where
      -- the leaf that p leaves and the one that it enters are met before
      first_ahead : (sight : IsInSight tree p k) (m : Point) → EntersNext tree sight.segment sight.segment.from m sight.left sight.entered sight.rest → IsAhead meets tree p state p.to (p.to ∷ p.from ∷ []) k
      first_ahead sight m enters =
          let entered = entered_through p k sight sight.segment.from m sight.left sight.entered sight.rest enters in
          let same = one_portal tree touchings are entered.portal p entered.listed listed (same_number tree entered.portal.from p.from sight.left entered.from_is sight.from_is) (same_number tree entered.portal.to p.to sight.entered entered.to_is sight.to_is) in
          let through = subst (λ (q : Portal). GoesThrough sight.segment q m) same entered.through in
          let once = leaves_once tree sight.segment.from sight.segment.to sight.left (sight.entered ∷ sight.rest) (onward enters.at enters.inside enters.apart enters.more) in
          record {
            sight = sight;
            at = m;
            between = enters.at;
            met = lets.begun sight.segment p state m listed through begun;
            before = [];
            here = sight.entered;
            rest = sight.rest;
            leaves_are = refl;
            passes = enters.more;
            here_is = sight.to_is;
            each_has = λ n j there number met. ⊎_elim
                (λ is_to. All-contains (λ b. sight.entered ≢ b) sight.rest j once.1.0 there (same_place tree n sight.entered j (subst (λ (i : ℕ). IsNumberOf tree i sight.entered) is_to sight.to_is) number))
                (λ later. ⊎_elim
                (λ is_from. All-contains (λ b. sight.left ≢ b) (sight.entered ∷ sight.rest) j once.0 (Contains-later sight.entered j sight.rest there) (same_place tree n sight.left j (subst (λ (i : ℕ). IsNumberOf tree i sight.left) is_from sight.from_is) number))
                (λ none. let range = none.1 in omega arith)
                (Contains-cons_cases p.from n [] later))
                (Contains-cons_cases p.to n (p.from ∷ []) met);
          }

      pub start_ahead : IsInSight tree p k → IsAhead meets tree p state p.to (p.to ∷ p.from ∷ []) k
      start_ahead sight =
          let parts = enters_next tree sight.segment sight.segment.from sight.left sight.entered sight.rest (generic_none tree sight.segment sight.generic) (λ y b. b) sight.passes in
          first_ahead sight parts.0 parts.1

    -- ---- after each step

    -- the portal to take: it leaves the leaf, and enters one that has the property; the leaf that is ahead is seen via it; the
    -- step there does not block, and after it the leaf is ahead again, farther on along that way
    pub record IsNext (p : Portal) (state : State) (n : ℕ) (Has : ℕ → Type 0) (k : ℕ) : Type 0 where
      pub portal : Portal
      pub listed : Contains (portals_of tree touchings) portal
      pub from : portal.from ≡ n
      pub has : Has portal.to
      pub via : IsSeenVia tree p portal k
      pub not_blocked : blocks state portal → ⊥
      pub ahead : (next : State) → goes state portal next → IsAheadOver meets tree p next portal.to (LiesFartherOn tree via Has) k

    module _ (p : Portal) (state : State) (n : ℕ) (Has : ℕ → Type 0) (k : ℕ) where
      -- the way on from the place at which the state was met
      module _ (ahead : IsAheadOver meets tree p state n Has k) where
        near_end : (y : Point) → IsBetween y ahead.at ahead.sight.segment.to → IsBetween y ahead.sight.segment.from ahead.sight.segment.to
        near_end y b = farther_between ahead.sight.segment.from ahead.sight.segment.to ahead.at y ahead.between b

        none_on : NoneHasBoth tree (node_planes tree.shape) ahead.at ahead.sight.segment.to
        none_on = none_from tree (node_planes tree.shape) ahead.sight.segment.from ahead.at ahead.sight.segment.to ahead.between (generic_none tree ahead.sight.segment ahead.sight.generic)

        -- the last leaf
        there_already : IsWithinLeaf tree ahead.at ahead.sight.segment.to ahead.here → n ≡ k
        there_already inside =
            let last = end_in_leaf tree ahead.at ahead.sight.segment.to ahead.here ahead.sight.generic.to_off inside in
            same_number tree n k ahead.here ahead.here_is (ahead.sight.last_is ∙ ap Some last)

      one_on : (sight : IsInSight tree p k) (at m : Point) (before : List ℕ) (here other : ℕ) (rest : List ℕ) → IsBetween at sight.segment.from sight.segment.to → meets sight.segment at state → sight.entered ∷ sight.rest ≡ before ++ here ∷ other ∷ rest → IsNumberOf tree n here → ((i j : ℕ) → Contains (other ∷ rest) j → IsNumberOf tree i j → Has i) → EntersNext tree sight.segment at m here other rest → IsNext p state n Has k
      one_on sight at m before here other rest between met leaves_are here_is each_has enters =
          let entered = entered_through p k sight at m here other rest enters in
          let once = leaves_once tree m sight.segment.to other rest enters.more in
          record {
            portal = entered.portal;
            listed = entered.listed;
            from = same_number tree entered.portal.from n here entered.from_is here_is;
            has = each_has entered.portal.to other (Contains-first other rest) entered.to_is;
            via = record { sight = sight; before = before; left = here; entered = other; after = rest; leaves_are = leaves_are; left_is = entered.from_is; entered_is = entered.to_is };
            not_blocked = lets.not_blocked sight.segment entered.portal state at m met entered.listed entered.through enters.at;
            ahead = λ next step. record {
              sight = sight;
              at = m;
              between = enters.near m enters.at;
              met = lets.gone_on sight.segment entered.portal state next at m met entered.listed entered.through enters.at step;
              before = before ++ here ∷ [];
              here = other;
              rest = rest;
              leaves_are = leaves_are ∙ sym (append_assoc before (here ∷ []) (other ∷ rest));
              passes = enters.more;
              here_is = entered.to_is;
              each_has = λ i j there number. record {
                other = λ is_to. All-contains (λ b. other ≢ b) rest j once.0 there (same_place tree i other j (subst (λ (h : ℕ). IsNumberOf tree h other) is_to entered.to_is) number);
                on_way = record { place = j; entered = Contains-later other j rest there; number_is = number };
                has = each_has i j (Contains-later other j rest there) number;
              };
            };
          }

      -- it is reached, or there is a portal to take
      pub next_ahead : IsAheadOver meets tree p state n Has k → (n ≡ k) ⊎ IsNext p state n Has k
      next_ahead ahead = by_rest ahead.rest ahead.passes ahead.leaves_are ahead.each_has
        where
          by_rest : (rest : List ℕ) → Passes tree ahead.at ahead.sight.segment.to (ahead.here ∷ rest) → ahead.sight.entered ∷ ahead.sight.rest ≡ ahead.before ++ ahead.here ∷ rest → ((i j : ℕ) → Contains rest j → IsNumberOf tree i j → Has i) → (n ≡ k) ⊎ IsNext p state n Has k
          by_rest [] (within inside) leaves_are each_has = inl (there_already ahead inside)
          by_rest (other ∷ rest) passes leaves_are each_has =
              let parts = enters_next tree ahead.sight.segment ahead.at ahead.here other rest (none_on ahead) (near_end ahead) passes in
              inr (one_on ahead.sight ahead.at parts.0 ahead.before ahead.here other rest ahead.between ahead.met leaves_are ahead.here_is each_has parts.1)

      -- ---- a route

      -- what the state lets pass, where that is all that a segment goes through that has met it
      module _ (may_pass : State → Portal → Type 0) (lets_pass : (s : Segment) (q : Portal) (x y : Point) → meets s x state → Contains (portals_of tree touchings) q → GoesThrough s q y → IsBetween y x s.to → may_pass state q) where
        pub record IsOnRoute (q : Portal) : Type 0 where
          pub passed : may_pass state q
          pub via : IsSeenVia tree p q k
          pub has : Has q.to

        -- where the leaf is reached
        reached : (i m here j : ℕ) → IsNumberOf tree i here → IsNumberOf tree m j → here ≡ j → Route (portals_of tree touchings) IsOnRoute i m
        reached i m here j here_is number same = subst (Route (portals_of tree touchings) IsOnRoute i) (same_number tree i m here here_is (subst (IsNumberOf tree m) (sym same) number)) arrived

        route : (sight : IsInSight tree p k) (at : Point) → meets sight.segment at state → (x : Point) (i : ℕ) (before : List ℕ) (here : ℕ) (rest : List ℕ) → sight.entered ∷ sight.rest ≡ before ++ here ∷ rest → IsNumberOf tree i here → ((a b : ℕ) → Contains rest b → IsNumberOf tree a b → Has a) → NoneHasBoth tree (node_planes tree.shape) x sight.segment.to → ((y : Point) → IsBetween y x sight.segment.to → IsBetween y sight.segment.from sight.segment.to × IsBetween y at sight.segment.to) → Passes tree x sight.segment.to (here ∷ rest) →
            (m j : ℕ) → IsNumberOf tree m j → Contains (here ∷ rest) j → Route (portals_of tree touchings) IsOnRoute i m
        route sight at met x i before here rest leaves_are here_is each_has none near (within inside) m j number there = ⊎_elim
            (λ same. reached i m here j here_is number same)
            (λ later. absurd (Contains-nil j later))
            (Contains-cons_cases here j [] there)
        route sight at met x i before here rest leaves_are here_is each_has none near (onward {m = y} {n = other} {rest = others} on inside apart more) m j number there = ⊎_elim
            (λ same. reached i m here j here_is number same)
            (λ later.
            let enters : EntersNext tree sight.segment x y here other others = record { at = on; inside = inside; apart = apart; more = more; none = none; near = λ z b. (near z b).0 } in
            let entered = entered_through p k sight x y here other others enters in
            over entered.listed (same_number tree entered.portal.from i here entered.from_is here_is)
            (record {
              passed = lets_pass sight.segment entered.portal at y met entered.listed entered.through (near y on).1;
              via = record { sight = sight; before = before; left = here; entered = other; after = others; leaves_are = leaves_are; left_is = entered.from_is; entered_is = entered.to_is };
              has = each_has entered.portal.to other (Contains-first other others) entered.to_is;
            })
            (route sight at met y entered.portal.to (before ++ here ∷ []) other others (leaves_are ∙ sym (append_assoc before (here ∷ []) (other ∷ others))) entered.to_is
            (λ a b among. each_has a b (Contains-later other b others among))
            (none_from tree (node_planes tree.shape) x y sight.segment.to on none)
            (λ z b. near z (farther_between x sight.segment.to y z on b)) more m j number later))
            (Contains-cons_cases here j (other ∷ others) there)

        -- to each leaf on the way, over portals that the state lets pass, via which the leaf is seen that is ahead, and which
        -- enter leaves with the property
        pub route_ahead : (ahead : IsAheadOver meets tree p state n Has k) (m j : ℕ) → IsNumberOf tree m j → Contains (ahead.here ∷ ahead.rest) j → Route (portals_of tree touchings) IsOnRoute n m
        route_ahead ahead =
            route ahead.sight ahead.at ahead.met ahead.at n ahead.before ahead.here ahead.rest ahead.leaves_are ahead.here_is ahead.each_has (none_on ahead) (λ y b. (near_end ahead y b, b)) ahead.passes
