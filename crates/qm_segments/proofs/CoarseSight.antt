-- Coarse rows hold all that is in sight.
use Rattle.std.proofs.Common.{◌≡◌, ◌≢◌, ℕ, true, false, List, ◌∷◌, map, Contains, refl, sym, ◌∙◌, subst, ⊎_elim}
use Rattle.std.specs.List.{AllZip}
use Rattle.qm_lists.specs.Reach.{start, onward}
use Rattle.qm_space.specs.Point.{Point}
use Rattle.qm_space.specs.Plane.{IsOn}
use Rattle.qm_space.specs.Line.{IsBetween}
use Rattle.qm_space.proofs.TurnedPlanes.{turned_on}
use Rattle.qm_numbers.proofs.IntegerProducts.{linear}
use Rattle.std.proofs.Common.{arith}
use Rattle.qm_convex.specs.Winding.{IsInRegion, IsConvex}
use Rattle.qm_partition.specs.Tree.{Tree}
use Rattle.qm_partition.specs.Ways.{HasPoints}
use Rattle.qm_contacts.specs.Meeting.{meetings}
use Rattle.qm_contacts.specs.Touching.{Touching, AreTouchings}
use Rattle.qm_contacts.specs.Portals.{Portal, leaf_number, portals_of}
use Rattle.qm_contacts.proofs.Touchings.{meeting_of_touching}
use Rattle.qm_contacts.proofs.Numbers.{number_at_leaf}
use Rattle.qm_coarse_rows.specs.CoarseRow.{MayFollow, IsInCoarseRow}
use Rattle.qm_coarse_rows.proofs.PortalSides.{follows_by_points}
use Rattle.qm_segments.specs.Segment.{Segment}
use Rattle.qm_segments.specs.GoesThrough.{GoesThrough}
use Rattle.qm_segments.specs.GoesBy.{GoesBy, ends, through}
use Rattle.qm_segments.specs.Sight.{IsInSight}
use Rattle.qm_segments.proofs.Betweenness.{between_in_front, behind_before, farther_between}
use Rattle.qm_segments.proofs.GenericSegments.{generic_none}
use Rattle.qm_segments.proofs.PortalsListed.{passage_of_portal, one_portal}
use Rattle.qm_segments.specs.LeafNumber.{IsNumberOf}
use Rattle.qm_segments.proofs.SegmentLaw.{led, numbers_differ}
use Rattle.qm_segments.proofs.LeavesOnce.{leaves_once}
use Rattle.qm_lists.proofs.EachPair.{EachPair}

module _ (tree : Tree) (touchings : List Touching) (are : AreTouchings tree.planes (meetings tree) touchings) where
  -- ---- a listed portal

  pub portal_convex : (q : Portal) → Contains (portals_of tree touchings) q → IsConvex q.winding
  portal_convex q there =
      let of = passage_of_portal tree touchings q there in
      let convex = (meeting_of_touching tree.planes (meetings tree) touchings of.found are of.listed).2.convex in
      ⊎_elim
      (λ is. subst (λ (r : Portal). IsConvex r.winding) is convex)
      (λ is. subst (λ (r : Portal). IsConvex r.winding) is convex)
      of.way

  -- its turned plane holds its polygon
  pub portal_on : (q : Portal) (x : Point) → Contains (portals_of tree touchings) q → IsInRegion q.winding x → IsOn q.into x
  portal_on q x there inside =
      let of = passage_of_portal tree touchings q there in
      ⊎_elim
      (λ is. subst (λ (r : Portal). IsOn r.into x) is ((turned_on false of.found.winding.plane x).1 (subst (λ (r : Portal). IsInRegion r.winding x) (sym is) inside).on))
      (λ is. subst (λ (r : Portal). IsOn r.into x) is ((turned_on true of.found.winding.plane x).1 (subst (λ (r : Portal). IsInRegion r.winding x) (sym is) inside).on))
      of.way

  -- ---- what a segment goes through one after another

  pub goes_on_follows : (s : Segment) (p q : Portal) (x y : Point) → Contains (portals_of tree touchings) p → Contains (portals_of tree touchings) q → GoesThrough s p x → GoesThrough s q y → IsBetween y x s.to → MayFollow p q
  goes_on_follows s p q x y p_there q_there p_at q_at b =
      let on_p = portal_on p x p_there p_at.inside in
      let on_q = portal_on q y q_there q_at.inside in
      (follows_by_points p q (portal_convex p p_there) (portal_convex q q_there)).1
      ((y, q_at.inside, between_in_front p.into y x s.to b (omega (arith, linear, on_p)) p_at.in_front), (x, p_at.inside, behind_before q.into y x s.to b on_q q_at.in_front))

  -- all leaves that it enters after the portal p are in p's coarse row
  pub coarse_along : (s : Segment) (p : Portal) (x : Point) → Contains (portals_of tree touchings) p → GoesThrough s p x → (y : Point) (n e : ℕ) (chain : List Portal) → ((z : Point) → IsBetween z y s.to → IsBetween z x s.to) → IsInCoarseRow (portals_of tree touchings) p n → GoesBy (portals_of tree touchings) s y n chain e → IsInCoarseRow (portals_of tree touchings) p e
  coarse_along s p x p_there p_at y n e chain near reached ends = reached
  coarse_along s p x p_there p_at y n e chain near reached (through {y = z} {q = q} {rest = rest} listed from b at more) =
      coarse_along s p x p_there p_at z q.to e rest (λ w c. near w (farther_between y s.to z w b c))
      (onward reached (record { portal = q; listed = listed; from = from; to = refl; follows = goes_on_follows s p q x z p_there listed p_at at (near z b) }))
      more

  -- ---- sight

  -- the first portal of a segment that shows a leaf, by which it goes on
  pub record IsSeenAlong (p : Portal) (n : ℕ) : Type 0 where
    pub segment : Segment
    pub at : Point
    pub goes_through : GoesThrough segment p at
    pub chain : List Portal
    pub goes : GoesBy (portals_of tree touchings) segment at p.to chain n
    pub once : EachPair (λ a b. a ≢ b) (p.from ∷ p.to ∷ map (λ q. q.to) chain)

  module _ (have : HasPoints tree) (p : Portal) (p_there : Contains (portals_of tree touchings) p) (n : ℕ) (sight : IsInSight tree p n) where
    from_chain : (first e : ℕ) (chain : List Portal) → first ≡ p.from → e ≡ n → GoesBy (portals_of tree touchings) sight.segment sight.segment.from first chain e → AllZip (IsNumberOf tree) (first ∷ map (λ q. q.to) chain) (sight.left ∷ sight.entered ∷ sight.rest) → EachPair (λ a b. a ≢ b) (first ∷ map (λ q. q.to) chain) → IsSeenAlong p n
    from_chain first e chain same last ends numbers once = absurd numbers.1
    from_chain first e chain same last (through {y = y} {q = q} {rest = rest} listed from b at more) numbers once =
        let to : q.to ≡ p.to = sym (number_at_leaf tree q.to sight.entered numbers.1.0).3 ∙ (number_at_leaf tree p.to sight.entered sight.to_is).3 in
        let is : q ≡ p = one_portal tree touchings are q p listed p_there (from ∙ same) to in
        record {
          segment = sight.segment;
          at = y;
          goes_through = subst (λ (r : Portal). GoesThrough sight.segment r y) is at;
          chain = rest;
          goes = subst (λ (m : ℕ). GoesBy (portals_of tree touchings) sight.segment y p.to rest m) last (subst (λ (m : ℕ). GoesBy (portals_of tree touchings) sight.segment y m rest e) to more);
          once = subst (λ (m : ℕ). EachPair (λ a b. a ≢ b) (p.from ∷ m ∷ map (λ q. q.to) rest)) to (subst (λ (m : ℕ). EachPair (λ a b. a ≢ b) (m ∷ q.to ∷ map (λ q. q.to) rest)) same once);
        }

    pub seen_along : IsSeenAlong p n
    seen_along =
        let s = sight.segment in
        let whole = led tree have touchings are s sight.generic sight.contents sight.not_solid sight.clear s.from sight.left (sight.entered ∷ sight.rest) sight.passes (generic_none tree s sight.generic) (λ y b. b) in
        from_chain (leaf_number tree sight.left) whole.to whole.chain
        (number_at_leaf tree p.from sight.left sight.from_is).3
        (sym (number_at_leaf tree whole.to _ whole.to_is).3 ∙ (number_at_leaf tree n _ sight.last_is).3)
        whole.goes whole.numbers
        (numbers_differ tree (leaf_number tree sight.left ∷ map (λ q. q.to) whole.chain) (sight.left ∷ sight.entered ∷ sight.rest) whole.numbers (leaves_once tree s.from s.to sight.left (sight.entered ∷ sight.rest) sight.passes))

    -- the coarse row of a portal holds all that is in sight of it
    pub coarse_holds_sight : IsInCoarseRow (portals_of tree touchings) p n
    coarse_holds_sight =
        let seen = seen_along in
        coarse_along seen.segment p seen.at p_there seen.goes_through seen.at p.to n seen.chain (λ z b. b) (start refl) seen.goes
