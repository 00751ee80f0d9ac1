-- Open chains, over any notion of a step: their ends lie in the coarse row where each step looks forward, and they reach all
-- that is in sight where the steps let segments through.
use Rattle.std.proofs.Common.{◌≡◌, ◌≢◌, ℕ, List, [], ◌∷◌, All, map, Contains, refl, sym, ◌∙◌, subst, arith, ⊎_elim}
use Rattle.std.proofs.lemmas.List.Elements.{All-head, All-tail, All-contains}
use Rattle.qm_lists.specs.Reach.{start, onward}
use Rattle.qm_lists.proofs.EachPair.{EachPair}
use Rattle.qm_lists.proofs.Elements.{Contains-first, Contains-later, Contains-cons_cases}
use Rattle.qm_lists.proofs.Pairs.{All-from_contains}
use Rattle.qm_space.specs.Point.{Point}
use Rattle.qm_space.specs.Line.{IsBetween}
use Rattle.qm_space.specs.Plane.{Plane}
use Rattle.qm_convex.specs.Winding.{Winding, IsInRegion, IsConvex}
use Rattle.qm_convex.specs.Sides.{HasSomeInFront}
use Rattle.qm_convex.proofs.Central.{HasSomeBehind}
use Rattle.qm_partition.specs.Tree.{Tree}
use Rattle.qm_partition.specs.Ways.{HasPoints}
use Rattle.qm_contacts.specs.Meeting.{meetings}
use Rattle.qm_contacts.specs.Touching.{Touching, AreTouchings}
use Rattle.qm_contacts.specs.Portals.{Portal, portals_of}
use Rattle.qm_coarse_rows.specs.CoarseRow.{MayFollow, IsInCoarseRow}
use Rattle.qm_coarse_rows.proofs.PortalSides.{follows_by_points}
use Rattle.qm_segments.specs.Segment.{Segment}
use Rattle.qm_segments.specs.GoesThrough.{GoesThrough}
use Rattle.qm_segments.specs.GoesBy.{GoesBy, ends, through}
use Rattle.qm_segments.specs.Sight.{IsInSight}
use Rattle.qm_segments.specs.OpenChain.{leaves_met, IsOpenChain, alone, longer, IsInBound}
use Rattle.qm_segments.specs.Steps.{LetSegmentsThrough, LeadOnOrBlock}
use Rattle.qm_segments.proofs.CoarseSight.{seen_along}

module _ {State : Type 0} (begins : Portal → State → Type 0) (goes : State → Portal → State → Type 0) (portals : List Portal) where
  -- ---- the bound lies in the coarse row

  -- where each step of a chain from p goes through a portal that may follow p
  module _ (p : Portal) (follows : (q : Portal) (chain : List Portal) (state next : State) → IsOpenChain begins goes portals p chain state → Contains portals q → goes state q next → MayFollow p q) where
    chain_in_coarse : (last : Portal) (chain : List Portal) (state : State) → IsOpenChain begins goes portals p (last ∷ chain) state → IsInCoarseRow portals p last.to
    chain_in_coarse last chain state (alone begun) = start refl
    chain_in_coarse last chain state (longer {last = before} {chain = rest} {state = old} is_open listed from new step) =
        onward (chain_in_coarse before rest old is_open) (record { portal = last; listed = listed; from = from; to = refl; follows = follows last (before ∷ rest) old state is_open listed step })

    pub bound_in_coarse : (n : ℕ) → IsInBound begins goes portals p n → IsInCoarseRow portals p n
    bound_in_coarse n bound = subst (IsInCoarseRow portals p) bound.ends (chain_in_coarse bound.last bound.before bound.state bound.open_chain)

  -- what the first point of a step says: a state has a source, with its turned plane; the source lies in the first portal, and
  -- a step keeps of it only what it has behind the next portal's plane, where the next portal has a point in front of the
  -- source's
  pub record NarrowsSource (source : State → Winding) (into : State → Plane) : Type 0 where
    pub begun : (p : Portal) (state : State) → begins p state → (into state ≡ p.into) × ((x : Point) → IsInRegion (source state) x → IsInRegion p.winding x)
    pub kept : (state next : State) (q : Portal) → goes state q next → (into next ≡ into state) × ((x : Point) → IsInRegion (source next) x → IsInRegion (source state) x)
    pub behind : (state next : State) (q : Portal) → goes state q next → HasSomeBehind (source state) q.into
    pub in_front : (state next : State) (q : Portal) → goes state q next → HasSomeInFront q.winding (into state)

  module _ (source : State → Winding) (into : State → Plane) (narrows : NarrowsSource source into) (p : Portal) where
    within_first : (chain : List Portal) (state : State) → IsOpenChain begins goes portals p chain state → (into state ≡ p.into) × ((x : Point) → IsInRegion (source state) x → IsInRegion p.winding x)
    within_first chain state (alone begun) = narrows.begun p state begun
    within_first chain state (longer {last = last} {q = q} {chain = rest} {state = old} is_open listed from new step) =
        let before = within_first (last ∷ rest) old is_open in
        let now = narrows.kept old state q step in
        (now.0 ∙ before.0, λ x inside. before.1 x (now.1 x inside))

    -- then the bound lies in the coarse row
    pub narrowed_bound_in_coarse : IsConvex p.winding → ((q : Portal) → Contains portals q → IsConvex q.winding) → (n : ℕ) → IsInBound begins goes portals p n → IsInCoarseRow portals p n
    narrowed_bound_in_coarse p_convex convex = bound_in_coarse p (λ q chain state next is_open listed step.
        let within = within_first chain state is_open in
        let before = narrows.in_front state next q step in
        let behind = narrows.behind state next q step in
        (follows_by_points p q p_convex (convex q listed)).1 (subst (HasSomeInFront q.winding) within.0 before, (behind.0, within.1 behind.0 behind.1, behind.2)))

-- ---- the bound has all that is in sight

module _ {State : Type 0} (begins : Portal → State → Type 0) (goes : State → Portal → State → Type 0) (blocks : State → Portal → Type 0) (tree : Tree) (touchings : List Touching) (meets : Segment → Point → State → Type 0) (lets : LetSegmentsThrough begins goes blocks (portals_of tree touchings) meets) (lead : LeadOnOrBlock begins goes blocks (portals_of tree touchings)) where
  -- a step along a segment leads on
  next_state : (p : Portal) (chain : List Portal) (s : Segment) (q : Portal) (state : State) (x y : Point) → IsOpenChain begins goes (portals_of tree touchings) p chain state → meets s x state → Contains (portals_of tree touchings) q → GoesThrough s q y → IsBetween y x s.to → (next : State) × goes state q next
  next_state p chain s q state x y is_open met listed at between = ⊎_elim (λ leads. leads) (λ blocked. absurd (lets.not_blocked s q state x y met listed at between blocked)) (lead.go_on p chain state q is_open listed)

  -- a chain that a segment goes along stays open
  along : (s : Segment) (p last : Portal) (before : List Portal) (state : State) (x : Point) (m n : ℕ) (chain : List Portal) →
      IsOpenChain begins goes (portals_of tree touchings) p (last ∷ before) state → meets s x state → last.to ≡ m →
      All (λ k. Contains (leaves_met p (last ∷ before)) k → ⊥) (map (λ q. q.to) chain) → EachPair (λ a b. a ≢ b) (map (λ q. q.to) chain) →
      GoesBy (portals_of tree touchings) s x m chain n → IsInBound begins goes (portals_of tree touchings) p n
  along s p last before state x m n chain is_open met at_leaf new once ends = record { last = last; before = before; state = state; open_chain = is_open; ends = at_leaf }
  along s p last before state x m n chain is_open met at_leaf new once (through {y = y} {q = q} {rest = rest} listed from between at more) =
      let step = next_state p (last ∷ before) s q state x y is_open met listed at between in
      let entered = map (λ r. r.to) rest in
      along s p q (last ∷ before) step.0 y q.to n rest
      (longer is_open listed (from ∙ sym at_leaf) (All-head (λ k. Contains (leaves_met p (last ∷ before)) k → ⊥) q.to entered new) step.1)
      (lets.gone_on s q state step.0 x y met listed at between step.1) refl
      (All-from_contains (λ k. Contains (leaves_met p (q ∷ last ∷ before)) k → ⊥) entered (λ k there. not_met k
      (All-contains (λ k. Contains (leaves_met p (last ∷ before)) k → ⊥) entered k (All-tail (λ k. Contains (leaves_met p (last ∷ before)) k → ⊥) q.to entered new) there)
      (All-contains (λ k. q.to ≢ k) entered k once.0 there)))
      once.1 more
    where
      not_met : (k : ℕ) → (Contains (leaves_met p (last ∷ before)) k → ⊥) → q.to ≢ k → Contains (leaves_met p (q ∷ last ∷ before)) k → ⊥
      not_met k old other there = ⊎_elim
          (λ first. old (subst (Contains (leaves_met p (last ∷ before))) first (Contains-first p.from (map (λ r. r.to) (last ∷ before)))))
          (λ later. ⊎_elim
          (λ same. other same)
          (λ in_old. old (Contains-later p.from k (map (λ r. r.to) (last ∷ before)) in_old))
          (Contains-cons_cases q.to k (map (λ r. r.to) (last ∷ before)) later))
          (Contains-cons_cases p.from k (q.to ∷ map (λ r. r.to) (last ∷ before)) there)

  -- the portals by which a segment goes, where it enters no leaf twice, are an open chain
  pub goes_by_in_bound : (s : Segment) (p : Portal) (x : Point) (n : ℕ) (chain : List Portal) → Contains (portals_of tree touchings) p → GoesThrough s p x → GoesBy (portals_of tree touchings) s x p.to chain n → EachPair (λ a b. a ≢ b) (p.from ∷ p.to ∷ map (λ q. q.to) chain) → IsInBound begins goes (portals_of tree touchings) p n
  goes_by_in_bound s p x n chain there at goes_by once =
      let begun = lead.begin_all p there in
      let entered = map (λ q. q.to) chain in
      along s p p [] begun.0 x p.to n chain (alone begun.1) (lets.begun s p begun.0 x there at begun.1) refl
      (All-from_contains (λ k. Contains (leaves_met p (p ∷ [])) k → ⊥) entered (λ k in_chain met. ⊎_elim
      (λ first. All-contains (λ m. p.from ≢ m) (p.to ∷ entered) k once.0 (Contains-later p.to k entered in_chain) first)
      (λ later. ⊎_elim
      (λ same. All-contains (λ m. p.to ≢ m) entered k once.1.0 in_chain same)
      (λ none. let range = none.1 in absurd (omega arith))
      (Contains-cons_cases p.to k [] later))
      (Contains-cons_cases p.from k (p.to ∷ []) met)))
      once.1.1 goes_by

  pub bound_has_sight : (have : HasPoints tree) (are : AreTouchings tree.planes (meetings tree) touchings) (p : Portal) (n : ℕ) → Contains (portals_of tree touchings) p → IsInSight tree p n → IsInBound begins goes (portals_of tree touchings) p n
  bound_has_sight have are p n there sight =
      let seen = seen_along tree touchings are have p there n sight in
      goes_by_in_bound seen.segment p seen.at n seen.chain there seen.goes_through seen.goes seen.once
