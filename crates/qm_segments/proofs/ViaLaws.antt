-- What is seen via a portal: it is in sight of that portal; the leaf that this one leaves is in sight of the first; from the
-- other end the first leaves are in sight; and the step from the first portal straight to it does not block.
use Rattle.std.proofs.Common.{◌≡◌, ◌≢◌, ℕ, List, [], ◌∷◌, ◌++◌, Contains, Some, reverse, sym, ap, ◌∙◌, subst, arith, ⊎_elim}
use Rattle.std.proofs.lemmas.List.{append_assoc}
use Rattle.std.proofs.lemmas.List.Elements.{All-contains, Contains-append_right}
use Rattle.qm_lists.proofs.Elements.{Contains-later, Contains-cons_cases}
use Rattle.qm_lists.proofs.Reversed.{reverse-push}
use Rattle.qm_space.specs.Point.{Point}
use Rattle.qm_space.specs.Line.{IsBetween}
use Rattle.qm_partition.specs.Tree.{Tree}
use Rattle.qm_partition.specs.Counting.{node_planes}
use Rattle.qm_partition.specs.LeafOfPoint.{IsOffNodePlanes, leaf_at}
use Rattle.qm_partition.specs.Ways.{HasPoints}
use Rattle.qm_contacts.specs.Meeting.{meetings}
use Rattle.qm_contacts.specs.Touching.{Touching, AreTouchings}
use Rattle.qm_contacts.specs.Portals.{Portal, portals_of}
use Rattle.qm_segments.specs.Segment.{Segment, turned_round}
use Rattle.qm_segments.specs.Generic.{IsGeneric}
use Rattle.qm_segments.specs.Clear.{IsClear, LeafHas}
use Rattle.qm_segments.specs.LeafNumber.{IsNumberOf}
use Rattle.qm_segments.specs.Passes.{Passes, onward}
use Rattle.qm_segments.specs.GoesThrough.{GoesThrough}
use Rattle.qm_segments.specs.Sight.{IsInSight}
use Rattle.qm_segments.specs.SeenVia.{IsSeenVia, LiesOnWay, LiesFartherOn}
use Rattle.qm_segments.specs.Steps.{LetSegmentsThrough}
use Rattle.qm_segments.specs.Ahead.{IsAheadOver}
use Rattle.qm_segments.proofs.Betweenness.{farther_between}
use Rattle.qm_segments.proofs.LeavesPassed.{NoneHasBoth, none_from, none_up_to}
use Rattle.qm_segments.proofs.EndLeaves.{first_leaf, last_leaf_listed}
use Rattle.qm_segments.proofs.EarlierSights.{earlier_part, earlier_generic, earlier_clear, begins_alike, shown_up_to}
use Rattle.qm_segments.proofs.LeavesOnce.{leaves_once}
use Rattle.qm_segments.proofs.GenericSegments.{later_part, later_generic, later_clear, turned_generic, turned_clear, generic_none}
use Rattle.qm_segments.proofs.PortalsListed.{one_portal}
use Rattle.qm_segments.proofs.EnteredLeaves.{EntersNext, enters_next}
use Rattle.qm_segments.proofs.AheadLaws.{same_number, same_place, entered_through}
use Rattle.qm_segments.proofs.CutPaths.{IsCut, cut, IsReadBack, read_back}

module _ (tree : Tree) where
  -- ---- lists of leaves

  -- what stands behind an element stands behind the first
  behind_first : (a : ℕ) (rest before : List ℕ) (k : ℕ) (more : List ℕ) (j : ℕ) → a ∷ rest ≡ before ++ k ∷ more → Contains more j → Contains rest j
  behind_first a rest [] k more j is there = let same : rest ≡ more = cc in subst (λ (all : List ℕ). Contains all j) (sym same) there
  behind_first a rest (b ∷ before) k more j is there =
      let same : rest ≡ before ++ k ∷ more = cc in
      subst (λ (all : List ℕ). Contains all j) (sym same) (Contains-append_right before (k ∷ more) j (Contains-later k j more there))

  module _ (p q : Portal) (n : ℕ) (via : IsSeenVia tree p q n) where
    abbrev s : Segment
    s = via.sight.segment

    none : NoneHasBoth tree (node_planes tree.shape) via.sight.segment.from via.sight.segment.to
    none = generic_none tree via.sight.segment via.sight.generic

    all_are : via.sight.left ∷ via.sight.entered ∷ via.sight.rest ≡ (via.sight.left ∷ via.before) ++ via.left ∷ via.entered ∷ via.after
    all_are = ap (λ (all : List ℕ). via.sight.left ∷ all) via.leaves_are

    -- at a place in the leaf that q leaves
    at_left : IsCut tree via.sight.segment.from via.sight.segment.to (via.sight.left ∷ via.before) via.left (via.entered ∷ via.after)
    at_left = cut tree via.sight.segment.from via.sight.segment.to (via.sight.left ∷ via.before) via.left (via.entered ∷ via.after) via.sight.left (via.sight.entered ∷ via.sight.rest) none via.sight.passes all_are

    -- ---- sight of q

    pub via_in_sight : IsInSight tree q n
    via_in_sight = record {
      segment = later_part s at_left.place;
      generic = later_generic tree s at_left.place via.sight.generic at_left.between at_left.off;
      contents = via.sight.contents;
      not_solid = via.sight.not_solid;
      clear = later_clear tree (LeafHas tree) s at_left.place via.sight.contents at_left.between via.sight.clear;
      left = via.left;
      entered = via.entered;
      rest = via.after;
      passes = at_left.later;
      from_is = via.left_is;
      to_is = via.entered_is;
      last_is = via.sight.last_is;
    }

    -- ---- the leaf that q leaves, in sight of p

    pub leaf_before_in_sight : IsInSight tree p q.from
    leaf_before_in_sight = (shown_up_to tree p n via.sight via.before via.left (via.entered ∷ via.after) q.from via.leaves_are via.left_is).sight

    -- ---- the leaf that is seen lies on the way itself

    last_entered : (x y : Point) (a b : ℕ) (rest : List ℕ) → IsOffNodePlanes tree.planes tree.shape y → Passes tree x y (a ∷ b ∷ rest) → Contains (b ∷ rest) (leaf_at tree.planes tree.shape y)
    last_entered x y a b rest off (onward {m = m} at inside apart more) = last_leaf_listed tree m y b rest off more

    pub target_on_way : LiesOnWay tree via n
    target_on_way = record {
      place = leaf_at tree.planes tree.shape s.to;
      entered = last_entered at_left.place s.to via.left via.entered via.after via.sight.generic.to_off at_left.later;
      number_is = via.sight.last_is;
    }

    -- ---- from the other end

    -- at a place in the leaf that q enters
    at_entered : IsCut tree via.sight.segment.from via.sight.segment.to ((via.sight.left ∷ via.before) ++ via.left ∷ []) via.entered via.after
    at_entered = cut tree via.sight.segment.from via.sight.segment.to ((via.sight.left ∷ via.before) ++ via.left ∷ []) via.entered via.after via.sight.left (via.sight.entered ∷ via.sight.rest) none via.sight.passes
        (all_are ∙ sym (append_assoc (via.sight.left ∷ via.before) (via.left ∷ []) (via.entered ∷ via.after)))

    -- the last two come first
    turned_list : (before : List ℕ) → reverse ((before ++ via.left ∷ []) ++ via.entered ∷ []) ≡ via.entered ∷ via.left ∷ reverse before
    turned_list before = reverse-push (before ++ via.left ∷ []) via.entered ∙ ap (λ (all : List ℕ). via.entered ∷ all) (reverse-push before via.left)

    -- the part up to there
    abbrev up_to_entered : Segment
    up_to_entered = earlier_part s at_entered.place

    up_to_generic : IsGeneric tree up_to_entered
    up_to_generic = earlier_generic tree s at_entered.place via.sight.generic at_entered.between at_entered.off

    up_to_clear : IsClear (LeafHas tree) tree up_to_entered via.sight.contents
    up_to_clear = earlier_clear tree (LeafHas tree) s at_entered.place via.sight.contents at_entered.between via.sight.clear

    -- and of that the part from a place in the leaf that p enters on
    abbrev alike : (tail : List ℕ) × (via.before ++ via.left ∷ [] ≡ via.sight.entered ∷ tail)
    alike = begins_alike tree via.sight.entered via.sight.rest via.before via.left (via.entered ∷ via.after) via.leaves_are

    abbrev second_tail : List ℕ
    second_tail = alike.0 ++ via.entered ∷ []

    second_leaves : (via.before ++ via.left ∷ []) ++ via.entered ∷ [] ≡ via.sight.entered ∷ second_tail
    second_leaves = ap (λ (all : List ℕ). all ++ via.entered ∷ []) alike.1

    from_second : IsCut tree via.sight.segment.from at_entered.place (via.sight.left ∷ []) via.sight.entered second_tail
    from_second = cut tree s.from at_entered.place (via.sight.left ∷ []) via.sight.entered second_tail at_entered.first at_entered.others
        (none_up_to tree (node_planes tree.shape) s.from at_entered.place s.to at_entered.between none) at_entered.earlier
        (at_entered.earlier_is ∙ ap (λ (all : List ℕ). via.sight.left ∷ all) second_leaves)

    second_back : IsReadBack tree from_second.place at_entered.place (via.sight.entered ∷ second_tail)
    second_back = read_back tree from_second.place at_entered.place via.sight.entered second_tail from_second.later

    module _ (back : Portal) (from : back.from ≡ q.to) (to : back.to ≡ q.from) where
      -- the leaf that p leaves is in sight of the portal back
      pub first_in_sight_back : IsInSight tree back p.from
      first_in_sight_back =
          let way_back = read_back tree s.from at_entered.place at_entered.first at_entered.others at_entered.earlier in
          record {
            segment = turned_round (earlier_part s at_entered.place);
            generic = turned_generic tree (earlier_part s at_entered.place) (earlier_generic tree s at_entered.place via.sight.generic at_entered.between at_entered.off);
            contents = via.sight.contents;
            not_solid = via.sight.not_solid;
            clear = turned_clear tree (LeafHas tree) (earlier_part s at_entered.place) via.sight.contents (earlier_clear tree (LeafHas tree) s at_entered.place via.sight.contents at_entered.between via.sight.clear);
            left = via.entered;
            entered = via.left;
            rest = reverse (via.sight.left ∷ via.before);
            passes = subst (λ (all : List ℕ). Passes tree at_entered.place s.from all) (way_back.leaves_are ∙ ap reverse at_entered.earlier_is ∙ turned_list (via.sight.left ∷ via.before)) way_back.passes;
            from_is = subst (λ (i : ℕ). IsNumberOf tree i via.entered) (sym from) via.entered_is;
            to_is = subst (λ (i : ℕ). IsNumberOf tree i via.left) (sym to) via.left_is;
            last_is = via.sight.from_is ∙ ap Some (sym (first_leaf tree s.from s.to via.sight.left (via.sight.entered ∷ via.sight.rest) via.sight.generic.from_off via.sight.passes));
          }

      -- and so is the one that p enters
      pub second_in_sight_back : IsInSight tree back p.to
      second_in_sight_back = record {
        segment = turned_round (later_part up_to_entered from_second.place);
        generic = turned_generic tree (later_part up_to_entered from_second.place) (later_generic tree up_to_entered from_second.place up_to_generic from_second.between from_second.off);
        contents = via.sight.contents;
        not_solid = via.sight.not_solid;
        clear = turned_clear tree (LeafHas tree) (later_part up_to_entered from_second.place) via.sight.contents (later_clear tree (LeafHas tree) up_to_entered from_second.place via.sight.contents from_second.between up_to_clear);
        left = via.entered;
        entered = via.left;
        rest = reverse via.before;
        passes = subst (λ (all : List ℕ). Passes tree at_entered.place from_second.place all) {x = second_back.first ∷ second_back.others} (second_back.leaves_are ∙ ap reverse (sym second_leaves) ∙ turned_list via.before) second_back.passes;
        from_is = subst (λ (i : ℕ). IsNumberOf tree i via.entered) (sym from) via.entered_is;
        to_is = subst (λ (i : ℕ). IsNumberOf tree i via.left) (sym to) via.left_is;
        last_is = via.sight.to_is ∙ ap Some (sym (first_leaf tree from_second.place at_entered.place via.sight.entered second_tail from_second.off from_second.later));
      }

-- ---- a step from the first portal straight to the other

module _ (tree : Tree) (have : HasPoints tree) (touchings : List Touching) (are : AreTouchings tree.planes (meetings tree) touchings) {State : Type 0} (begins : Portal → State → Type 0) (goes : State → Portal → State → Type 0) (blocks : State → Portal → Type 0) (meets : Segment → Point → State → Type 0) (lets : LetSegmentsThrough begins goes blocks (portals_of tree touchings) meets) where
  -- it does not block, and after it the leaf is ahead, over leaves of that way that neither portal leaves or enters; all that lies
  -- on the way is there
  pub record IsPair (p e : Portal) (state : State) (k : ℕ) (via : IsSeenVia tree p e k) : Type 0 where
    pub not_blocked : blocks state e → ⊥
    pub ahead : (next : State) → goes state e next → IsAheadOver meets tree p next e.to (LiesFartherOn tree via (λ m. Contains (e.from ∷ p.to ∷ p.from ∷ []) m → ⊥)) k
    pub all_ahead : (next : State) (step : goes state e next) (j : ℕ) → Contains (via.entered ∷ via.after) j → Contains ((ahead next step).here ∷ (ahead next step).rest) j

  module _ (p e : Portal) (p_listed : Contains (portals_of tree touchings) p) (e_listed : Contains (portals_of tree touchings) e) (state : State) (begun : begins p state) (k : ℕ) (via : IsSeenVia tree p e k) where
    abbrev sight : IsInSight tree p k
    sight = via.sight

    -- by the places at which the segment goes through both
    by_places : (x z y : Point) → EntersNext tree via.sight.segment via.sight.segment.from x via.sight.left via.sight.entered via.sight.rest → IsBetween z x via.sight.segment.to → EntersNext tree via.sight.segment z y via.left via.entered via.after → IsPair p e state k via
    by_places x z y first between second =
        let s = via.sight.segment in
        let p_entered = entered_through tree have touchings are p k sight s.from x sight.left sight.entered sight.rest first in
        let e_entered = entered_through tree have touchings are p k sight z y via.left via.entered via.after second in
        let p_is = one_portal tree touchings are p_entered.portal p p_entered.listed p_listed (same_number tree p_entered.portal.from p.from sight.left p_entered.from_is sight.from_is) (same_number tree p_entered.portal.to p.to sight.entered p_entered.to_is sight.to_is) in
        let e_is = one_portal tree touchings are e_entered.portal e e_entered.listed e_listed (same_number tree e_entered.portal.from e.from via.left e_entered.from_is via.left_is) (same_number tree e_entered.portal.to e.to via.entered e_entered.to_is via.entered_is) in
        let through_p = subst (λ (r : Portal). GoesThrough s r x) p_is p_entered.through in
        let through_e = subst (λ (r : Portal). GoesThrough s r y) e_is e_entered.through in
        let met = lets.begun s p state x p_listed through_p begun in
        let on = farther_between x s.to z y between second.at in
        let all_once = leaves_once tree s.from s.to sight.left (sight.entered ∷ sight.rest) sight.passes in
        let once = leaves_once tree z s.to via.left (via.entered ∷ via.after) (onward second.at second.inside second.apart second.more) in
        record {
          not_blocked = lets.not_blocked s e state x y met e_listed through_e on;
          ahead = λ next step. record {
            sight = sight;
            at = y;
            between = second.near y second.at;
            met = lets.gone_on s e state next x y met e_listed through_e on step;
            before = via.before ++ via.left ∷ [];
            here = via.entered;
            rest = via.after;
            leaves_are = via.leaves_are ∙ sym (append_assoc via.before (via.left ∷ []) (via.entered ∷ via.after));
            passes = second.more;
            here_is = via.entered_is;
            each_has = λ i j there number.
                let later = Contains-later via.entered j via.after there in
                let in_rest = behind_first tree sight.entered sight.rest via.before via.left (via.entered ∷ via.after) j via.leaves_are later in
                record {
                  other = λ is. All-contains (λ b. via.entered ≢ b) via.after j once.1.0 there (same_place tree i via.entered j (subst (λ (h : ℕ). IsNumberOf tree h via.entered) is via.entered_is) number);
                  on_way = record { place = j; entered = later; number_is = number };
                  has = λ in_met. ⊎_elim
                      (λ is. All-contains (λ b. via.left ≢ b) (via.entered ∷ via.after) j once.0 later (same_place tree i via.left j (subst (λ (h : ℕ). IsNumberOf tree h via.left) is via.left_is) number))
                      (λ more. ⊎_elim
                      (λ is. All-contains (λ b. sight.entered ≢ b) sight.rest j all_once.1.0 in_rest (same_place tree i sight.entered j (subst (λ (h : ℕ). IsNumberOf tree h sight.entered) is sight.to_is) number))
                      (λ more. ⊎_elim
                      (λ is. All-contains (λ b. sight.left ≢ b) (sight.entered ∷ sight.rest) j all_once.0 (Contains-later sight.entered j sight.rest in_rest) (same_place tree i sight.left j (subst (λ (h : ℕ). IsNumberOf tree h sight.left) is sight.from_is) number))
                      (λ none. let range = none.1 in omega arith)
                      (Contains-cons_cases p.from i [] more))
                      (Contains-cons_cases p.to i (p.from ∷ []) more))
                      (Contains-cons_cases e.from i (p.to ∷ p.from ∷ []) in_met);
                };
          };
          all_ahead = λ next step j there. there;
        }

    pub pair : IsPair p e state k via
    pair =
        let s = via.sight.segment in
        let none = generic_none tree s via.sight.generic in
        let first = enters_next tree s s.from via.sight.left via.sight.entered via.sight.rest none (λ y b. b) via.sight.passes in
        let on = none_from tree (node_planes tree.shape) s.from first.0 s.to first.1.at none in
        let part = cut tree first.0 s.to via.before via.left (via.entered ∷ via.after) via.sight.entered via.sight.rest on first.1.more via.leaves_are in
        let second = enters_next tree s part.place via.left via.entered via.after (none_from tree (node_planes tree.shape) first.0 part.place s.to part.between on) (λ y b. farther_between s.from s.to first.0 y first.1.at (farther_between first.0 s.to part.place y part.between b)) part.later in
        by_places first.0 part.place second.0 first.1 part.between second.1
