-- A segment that goes through portals of a way goes through them in their order: so it goes by them.
use Rattle.std.proofs.Common.{◌≡◌, ◌≢◌, ℕ, ℤ, pos, ◌+ℤ◌, ◌-ℤ◌, ◌*ℤ◌, ◌<ℤ◌, true, false, List, [], ◌∷◌, ◌++◌, map, Contains, Some, slice_get, sym, ap, ◌∙◌, subst, arith, ⊎_elim}
use Rattle.std.proofs.lemmas.List.Elements.{All-contains, Contains-append_right, Contains-append_cases}
use Rattle.qm_lists.proofs.EachPair.{EachPair}
use Rattle.qm_lists.proofs.Elements.{Contains-first, Contains-cons_cases, Contains-map}
use Rattle.qm_space.specs.Point.{Point, point_sum, point_times}
use Rattle.qm_space.specs.Plane.{Plane, value, IsOn, IsInFront, IsBehind, flipped}
use Rattle.qm_space.specs.Line.{IsBetween}
use Rattle.qm_space.specs.Cell.{IsInCell}
use Rattle.std.proofs.Math.IntN.{*ℤ_comm}
use Rattle.qm_numbers.proofs.IntegerProducts.{linear, *ℤ_zero}
use Rattle.qm_numbers.proofs.Signs.{product_positive, positive_beside, positive_times_negative}
use Rattle.qm_numbers.proofs.Ring.{variable, ◌⊕◌, ◌⊖◌, ◌⊗◌, solved}
use Rattle.qm_space.proofs.Planes.{same_point, flipped_in_front}
use Rattle.qm_space.proofs.ReducedPlanes.{flipped_twice}
use Rattle.qm_convex.specs.Winding.{IsInRegion}
use Rattle.qm_partition.specs.declared.step.Step.{Step}
use Rattle.qm_partition.specs.Tree.{Tree}
use Rattle.qm_partition.specs.Ways.{Way, ways, turned_to, cell_of_way}
use Rattle.qm_contacts.specs.Meeting.{Meeting, meetings}
use Rattle.qm_contacts.specs.Contact.{IsContact}
use Rattle.qm_contacts.specs.Touching.{Touching, IsTouching, AreTouchings}
use Rattle.qm_contacts.specs.Portals.{Portal, portals_of, is_passage, leaf_number}
use Rattle.qm_contacts.specs.NumberedLeaves.{numbered_leaves}
use Rattle.qm_contacts.specs.PortalChain.{IsPortalBetween}
use Rattle.qm_contacts.proofs.WaysBelow.{tree_meeting_ways}
use Rattle.qm_contacts.proofs.Touchings.{meeting_of_touching}
use Rattle.qm_contacts.proofs.Passages.{passage_is_portal}
use Rattle.qm_contacts.proofs.FilledLeaves.{portal_back}
use Rattle.qm_contacts.proofs.Numbers.{leaf_at_number}
use Rattle.qm_segments.specs.Segment.{Segment}
use Rattle.qm_segments.specs.LeafNumber.{IsNumberOf}
use Rattle.qm_segments.specs.GoesThrough.{GoesThrough}
use Rattle.qm_segments.specs.GoesBy.{GoesBy, ends, through}
use Rattle.qm_segments.specs.CrossesWay.{CrossesWay, crossed, crosses}
use Rattle.qm_segments.proofs.Betweenness.{between_value}
use Rattle.qm_segments.proofs.PortalsListed.{passage_of_portal, to_back, to_front}
use Rattle.qm_segments.specs.OpenChain.{IsInBound}
use Rattle.qm_segments.specs.Steps.{LetSegmentsThrough, LeadOnOrBlock}
use Rattle.qm_segments.proofs.CoarseSight.{portal_on}
use Rattle.qm_segments.proofs.OpenChains.{goes_by_in_bound}

-- ---- which point comes later

-- of two points between a and b, by what they are made of
module _ (k i j l m n a b x y : ℤ) (first : k *ℤ x ≡ (i *ℤ a) +ℤ (j *ℤ b)) (second : l *ℤ y ≡ (m *ℤ a) +ℤ (n *ℤ b)) where
  later_part_number : (i *ℤ l) *ℤ y ≡ ((m *ℤ k) *ℤ x) +ℤ (((i *ℤ n) -ℤ (m *ℤ j)) *ℤ b)
  later_part_number =
      let t = variable in
      let zs = k ∷ i ∷ j ∷ l ∷ m ∷ n ∷ a ∷ b ∷ x ∷ y ∷ [] in
      solved zs ((t 1 ⊗ t 3) ⊗ t 9) (t 1 ⊗ (t 3 ⊗ t 9)) tt
      ∙ ap (λ z. i *ℤ z) second
      ∙ solved zs (t 1 ⊗ (t 4 ⊗ t 6 ⊕ t 5 ⊗ t 7)) (t 4 ⊗ (t 1 ⊗ t 6 ⊕ t 2 ⊗ t 7) ⊕ (t 1 ⊗ t 5 ⊖ t 4 ⊗ t 2) ⊗ t 7) tt
      ∙ ap (λ z. (m *ℤ z) +ℤ (((i *ℤ n) -ℤ (m *ℤ j)) *ℤ b)) (sym first)
      ∙ solved zs (t 4 ⊗ (t 0 ⊗ t 8) ⊕ (t 1 ⊗ t 5 ⊖ t 4 ⊗ t 2) ⊗ t 7) ((t 4 ⊗ t 0) ⊗ t 8 ⊕ (t 1 ⊗ t 5 ⊖ t 4 ⊗ t 2) ⊗ t 7) tt

-- where a plane has x behind it, and y on it, and b in front, y comes after x
module _ (h : Plane) (a b x y : Point) (x_at : IsBetween x a b) (y_at : IsBetween y a b) (behind : IsBehind h x) (on : IsOn h y) (front : IsInFront h b) where
  abbrev more : ℤ
  more = (x_at.times_q *ℤ y_at.times_r) -ℤ (y_at.times_q *ℤ x_at.times_r)

  some_more : pos 0 <ℤ ((x_at.times_q *ℤ y_at.times_r) -ℤ (y_at.times_q *ℤ x_at.times_r))
  some_more =
      let e = later_part_number x_at.times_p x_at.times_q x_at.times_r y_at.times_p y_at.times_q y_at.times_r (value h a) (value h b) (value h x) (value h y) (between_value h x a b x_at) (between_value h y a b y_at) in
      let zero : (x_at.times_q *ℤ y_at.times_p) *ℤ value h y ≡ pos 0 = ap (λ z. (x_at.times_q *ℤ y_at.times_p) *ℤ z) on ∙ *ℤ_zero (x_at.times_q *ℤ y_at.times_p) in
      let low = positive_times_negative (y_at.times_q *ℤ x_at.times_p) (value h x) (product_positive y_at.times_q x_at.times_p y_at.some_q x_at.some_p) behind in
      let comm = *ℤ_comm ((x_at.times_q *ℤ y_at.times_r) -ℤ (y_at.times_q *ℤ x_at.times_r)) (value h b) in
      positive_beside (value h b) ((x_at.times_q *ℤ y_at.times_r) -ℤ (y_at.times_q *ℤ x_at.times_r)) front (omega (arith, linear))

  pub comes_later : IsBetween y x b
  comes_later = record {
    times_p = x_at.times_q *ℤ y_at.times_p;
    times_q = y_at.times_q *ℤ x_at.times_p;
    times_r = (x_at.times_q *ℤ y_at.times_r) -ℤ (y_at.times_q *ℤ x_at.times_r);
    some_p = product_positive x_at.times_q y_at.times_p x_at.some_q y_at.some_p;
    some_q = product_positive y_at.times_q x_at.times_p y_at.some_q x_at.some_p;
    some_r = some_more;
    sum = same_point (point_times (x_at.times_q *ℤ y_at.times_p) y) (point_sum (point_times (y_at.times_q *ℤ x_at.times_p) x) (point_times ((x_at.times_q *ℤ y_at.times_r) -ℤ (y_at.times_q *ℤ x_at.times_r)) b))
        (number (λ p. p.x) (ap (λ p. p.x) x_at.sum) (ap (λ p. p.x) y_at.sum))
        (number (λ p. p.y) (ap (λ p. p.y) x_at.sum) (ap (λ p. p.y) y_at.sum))
        (number (λ p. p.z) (ap (λ p. p.z) x_at.sum) (ap (λ p. p.z) y_at.sum))
        (number (λ p. p.w) (ap (λ p. p.w) x_at.sum) (ap (λ p. p.w) y_at.sum));
  }
    where
      number : (of : Point → ℤ) → x_at.times_p *ℤ of x ≡ (x_at.times_q *ℤ of a) +ℤ (x_at.times_r *ℤ of b) → y_at.times_p *ℤ of y ≡ (y_at.times_q *ℤ of a) +ℤ (y_at.times_r *ℤ of b) → (x_at.times_q *ℤ y_at.times_p) *ℤ of y ≡ ((y_at.times_q *ℤ x_at.times_p) *ℤ of x) +ℤ (((x_at.times_q *ℤ y_at.times_r) -ℤ (y_at.times_q *ℤ x_at.times_r)) *ℤ of b)
      number of first second = later_part_number x_at.times_p x_at.times_q x_at.times_r y_at.times_p y_at.times_q y_at.times_r (of a) (of b) (of x) (of y) first second

-- ---- the two leaves of a portal

-- the ways to both, of which the step at the node that parts them names the portal's plane; a point is in front of all the
-- other planes of both
record HasSides (tree : Tree) (p : Portal) (x : Point) : Type 0 where
  left : ℕ
  entered : ℕ
  from_is : IsNumberOf tree p.from left
  to_is : IsNumberOf tree p.to entered
  above : Way
  step_left : Step
  step_entered : Step
  rest_left : Way
  rest_entered : Way
  left_way : slice_get (ways tree.shape) left ≡ Some (above ++ step_left ∷ rest_left)
  entered_way : slice_get (ways tree.shape) entered ≡ Some (above ++ step_entered ∷ rest_entered)
  left_plane : turned_to tree.planes step_left ≡ flipped p.into
  entered_plane : turned_to tree.planes step_entered ≡ p.into
  above_in : IsInCell (cell_of_way tree.planes above) x
  left_in : IsInCell (cell_of_way tree.planes rest_left) x
  entered_in : IsInCell (cell_of_way tree.planes rest_entered) x

module _ (tree : Tree) (touchings : List Touching) (are : AreTouchings tree.planes (meetings tree) touchings) where
  module _ (found : Touching) (listed : Contains touchings found) (passage : is_passage tree found ≡ true) (x : Point) (m : Meeting) (m_listed : Contains (meetings tree) m) (is : IsTouching tree.planes m found) (inside : IsInRegion found.winding x) where
    contact : IsContact tree.planes m x
    contact = (is.points x).0 inside

    between : IsPortalBetween tree found.front found.back
    between = passage_is_portal tree touchings are found listed passage

    front_number : IsNumberOf tree (leaf_number tree found.front) found.front
    front_number = leaf_at_number tree found.front between.from between.from_is between.numbered

    back_number : IsNumberOf tree (leaf_number tree found.back) found.back
    back_number = let turned = portal_back tree found.front found.back between in leaf_at_number tree found.back turned.from turned.from_is turned.numbered

    front_way : slice_get (ways tree.shape) found.front ≡ Some (m.above ++ record { plane = m.plane; front = true } ∷ m.front.way)
    front_way = ap (slice_get (ways tree.shape)) is.front ∙ (tree_meeting_ways tree m m_listed).to_front

    back_way : slice_get (ways tree.shape) found.back ≡ Some (m.above ++ record { plane = m.plane; front = false } ∷ m.back.way)
    back_way = ap (slice_get (ways tree.shape)) is.back ∙ (tree_meeting_ways tree m m_listed).to_back

    sides_to_back : HasSides tree (to_back tree found) x
    sides_to_back = record {
      left = found.front;
      entered = found.back;
      from_is = front_number;
      to_is = back_number;
      above = m.above;
      step_left = record { plane = m.plane; front = true };
      step_entered = record { plane = m.plane; front = false };
      rest_left = m.front.way;
      rest_entered = m.back.way;
      left_way = front_way;
      entered_way = back_way;
      left_plane = sym is.plane ∙ sym (flipped_twice found.winding.plane);
      entered_plane = ap flipped (sym is.plane);
      above_in = contact.above;
      left_in = contact.in_front;
      entered_in = contact.behind;
    }

    sides_to_front : HasSides tree (to_front tree found) x
    sides_to_front = record {
      left = found.back;
      entered = found.front;
      from_is = back_number;
      to_is = front_number;
      above = m.above;
      step_left = record { plane = m.plane; front = false };
      step_entered = record { plane = m.plane; front = true };
      rest_left = m.back.way;
      rest_entered = m.front.way;
      left_way = back_way;
      entered_way = front_way;
      left_plane = ap flipped (sym is.plane);
      entered_plane = sym is.plane;
      above_in = contact.above;
      left_in = contact.behind;
      entered_in = contact.in_front;
    }

  sides_of : (p : Portal) (x : Point) → Contains (portals_of tree touchings) p → IsInRegion p.winding x → HasSides tree p x
  sides_of p x listed inside =
      let of = passage_of_portal tree touchings p listed in
      let m = meeting_of_touching tree.planes (meetings tree) touchings of.found are of.listed in
      ⊎_elim
      (λ is. subst (λ (r : Portal). HasSides tree r x) is (sides_to_back of.found of.listed of.passage x m.0 m.1 m.2 (subst (λ (r : Portal). IsInRegion r.winding x) (sym is) inside)))
      (λ is. subst (λ (r : Portal). HasSides tree r x) is (sides_to_front of.found of.listed of.passage x m.0 m.1 m.2 (subst (λ (r : Portal). IsInRegion r.winding x) (sym is) inside)))
      of.way

  -- ---- one portal after another

  module _ (s : Segment) (p q : Portal) (x y : Point) (p_listed : Contains (portals_of tree touchings) p) (q_listed : Contains (portals_of tree touchings) q) (leaves : q.from ≡ p.to) (p_at : GoesThrough s p x) (q_at : GoesThrough s q y) where
    behind_next : IsBehind q.into x
    behind_next =
        let one = sides_of p x p_listed p_at.inside in
        let other = sides_of q y q_listed q_at.inside in
        let same : one.entered ≡ other.left = (let e : Some one.entered ≡ Some other.left = sym one.to_is ∙ ap (slice_get (numbered_leaves tree)) (sym leaves) ∙ other.from_is in cc) in
        let way : other.above ++ other.step_left ∷ other.rest_left ≡ one.above ++ one.step_entered ∷ one.rest_entered = (let e : Some (other.above ++ other.step_left ∷ other.rest_left) ≡ Some (one.above ++ one.step_entered ∷ one.rest_entered) = sym other.left_way ∙ ap (slice_get (ways tree.shape)) (sym same) ∙ one.entered_way in cc) in
        let there = subst (λ (w : Way). Contains w other.step_left) way (Contains-append_right other.above (other.step_left ∷ other.rest_left) other.step_left (Contains-first other.step_left other.rest_left)) in
        let beside = λ (w : Way) (inside : IsInCell (cell_of_way tree.planes w) x) (listed : Contains w other.step_left).
        subst (λ (h : Plane). IsInFront h x) other.left_plane (All-contains (λ h. IsInFront h x) (cell_of_way tree.planes w) (turned_to tree.planes other.step_left) inside (Contains-map (turned_to tree.planes) w other.step_left listed)) in
        ⊎_elim
        (λ above. (flipped_in_front q.into x).0 (beside one.above one.above_in above))
        (λ more. ⊎_elim
        (λ same_step.
        let turned : p.into ≡ flipped q.into = sym one.entered_plane ∙ ap (turned_to tree.planes) same_step ∙ other.left_plane in
        let down = (flipped_in_front q.into s.to).0 (subst (λ (h : Plane). IsInFront h s.to) turned p_at.in_front) in
        let up = q_at.in_front in
        absurd (omega (arith, linear)))
        (λ rest. (flipped_in_front q.into x).0 (beside one.rest_entered one.entered_in rest))
        (Contains-cons_cases one.step_entered other.step_left one.rest_entered more))
        (Contains-append_cases one.above (one.step_entered ∷ one.rest_entered) other.step_left there)

    -- a segment that goes through both goes through the later one later
    pub goes_through_later : IsBetween y x s.to
    goes_through_later = comes_later q.into s.from s.to x y p_at.between q_at.between behind_next (portal_on tree touchings are q y q_listed q_at.inside) q_at.in_front

  -- so it goes by the portals of a way
  pub goes_by_crossed : (s : Segment) (p : Portal) (x : Point) (e : ℕ) (chain : List Portal) → Contains (portals_of tree touchings) p → GoesThrough s p x → CrossesWay (portals_of tree touchings) s p.to chain e → GoesBy (portals_of tree touchings) s x p.to chain e
  goes_by_crossed s p x e chain listed at crossed = ends
  goes_by_crossed s p x e chain listed at (crosses {x = y} {q = q} {rest = rest} q_listed from q_at more) =
      through q_listed from (goes_through_later s p q x y listed q_listed from at q_at) q_at (goes_by_crossed s q y e rest q_listed q_at more)

  -- and is no reason to block: the way, where it enters no leaf twice, is an open chain
  pub crossed_way_in_bound : {State : Type 0} (begins : Portal → State → Type 0) (goes : State → Portal → State → Type 0) (blocks : State → Portal → Type 0) (meets : Segment → Point → State → Type 0) → LetSegmentsThrough begins goes blocks (portals_of tree touchings) meets → LeadOnOrBlock begins goes blocks (portals_of tree touchings) →
      (s : Segment) (p : Portal) (x : Point) (e : ℕ) (chain : List Portal) → Contains (portals_of tree touchings) p → GoesThrough s p x → CrossesWay (portals_of tree touchings) s p.to chain e → EachPair (λ a b. a ≢ b) (p.from ∷ p.to ∷ map (λ q. q.to) chain) → IsInBound begins goes (portals_of tree touchings) p e
  crossed_way_in_bound begins goes blocks meets lets lead s p x e chain listed at way once =
      goes_by_in_bound begins goes blocks tree touchings meets lets lead s p x e chain listed at (goes_by_crossed s p x e chain listed at way) once
