-- The law of a step: a segment that has met a state and goes on through a portal meets all that the step leaves, so no
-- step blocks it.
use Rattle.std.proofs.Common.{◌≡◌, Option, Some, None, sym, subst, arith}
use Rattle.std.specs.Prelude.{MatchOption}
use Rattle.qm_space.specs.Point.{Point}
use Rattle.qm_space.specs.Plane.{Plane, IsInFront, IsBehind}
use Rattle.qm_space.specs.Line.{IsBetween}
use Rattle.qm_numbers.proofs.IntegerProducts.{linear}
use Rattle.qm_space.proofs.Planes.{flipped_in_front}
use Rattle.qm_convex.specs.Winding.{Winding, IsConvex, IsInRegion}
use Rattle.qm_convex.specs.Sides.{LiesIn}
use Rattle.qm_segments.specs.Segment.{Segment}
use Rattle.qm_segments.proofs.Betweenness.{between_turned, earlier_between, farther_between, between_in_front, behind_before}
use Rattle.qm_separators.specs.Separator.{IsSeparatorFrom}
use Rattle.qm_separators.specs.ChainState.{ChainState, IsChainState}
use Rattle.qm_separators.specs.ChainStep.{IsCutByPlanes, IsCutToPass, StepsTo, Blocks, first_cut, second_cut, third_cut, fourth_cut}
use Rattle.qm_separators.specs.Meets.{Meets}
use Rattle.qm_separators.proofs.SeparatorLaw.{beyond_separator}

-- x is a point of the pass, between u and the end; where there is no pass, it is u
abbrev pub IsLast : Point → Point → Point → Option Winding → Type 0
IsLast u x to pass = MatchOption pass (x ≡ u) (λ p. IsInRegion p x × IsBetween x u to)

-- the pass is convex, where there is one
abbrev pub IsConvexPass : Option Winding → Type 0
IsConvexPass pass = MatchOption pass (Unit {0}) IsConvex

-- the point u of the source, then x, then y
module _ (u x y to : Point) (v : Winding) (convex : IsConvex v) (after : IsBetween y x to) where
  comes_after : (pass : Option Winding) → IsLast u x to pass → IsBetween y u to
  comes_after None same = subst (λ (q : Point). IsBetween y q to) same after
  comes_after (Some p) last = farther_between u to x y last.1 after

  -- y is in front of the separators of a winding with u and the pass
  pub beyond : (pass : Option Winding) → IsConvexPass pass → IsLast u x to pass → IsInRegion v u → (h : Plane) → IsSeparatorFrom pass v h → IsInFront h y
  beyond None p_convex last inside h is = absurd is
  beyond (Some p) p_convex last inside h is = beyond_separator v p h u x y convex p_convex is inside last.0 (earlier_between u to x y last.1 after)

  -- u is in front of the separators of a winding with y and the pass
  before : (pass : Option Winding) → IsConvexPass pass → IsLast u x to pass → IsInRegion v y → (h : Plane) → IsSeparatorFrom pass v h → IsInFront h u
  before None p_convex last inside h is = absurd is
  before (Some p) p_convex last inside h is = beyond_separator v p h y x u convex p_convex is inside last.0 (between_turned x u y (earlier_between u to x y last.1 after))

-- a segment that has met the state, the last of its windings at x, and then goes through the target at y
module _ (state : ChainState) (target : Winding) (into : Plane) (s : Segment) (x y : Point) (valid : IsChainState state) (lies : LiesIn target into) (met : Meets s x state) (inside : IsInRegion target y) (front : IsInFront into s.to) (after : IsBetween y x s.to) where
  pub target_after : IsBetween y met.at s.to
  target_after = comes_after met.at x y s.to state.source valid.source_convex after state.pass met.last

  pub target_in_front : IsInFront state.into y
  target_in_front = let on = valid.source_lies met.at met.inside in between_in_front state.into y met.at s.to target_after (omega (arith, linear)) met.in_front

  pub source_is_behind : IsBehind into met.at
  source_is_behind = behind_before into y met.at s.to target_after (lies y inside) front

  module _ (near far : Winding) (cut : IsCutByPlanes state target into near far) where
    in_far : IsInRegion far y
    in_far = (cut.far_is.points y).1 (inside, target_in_front)

    in_near : IsInRegion near met.at
    in_near = (cut.near_is.points met.at).1 (met.inside, (flipped_in_front into met.at).1 source_is_behind)

    far_beyond : (h : Plane) → IsSeparatorFrom state.pass near h → IsInFront h y
    far_beyond = beyond met.at x y s.to near cut.near_is.convex after state.pass valid.pass_convex met.last in_near

    module _ (pass : Winding) (narrowed : IsCutToPass state near far pass) where
      in_pass : IsInRegion pass y
      in_pass = (narrowed.points y).1 (in_far, far_beyond)

      near_before : (h : Plane) → IsSeparatorFrom state.pass pass h → IsInFront h met.at
      near_before = before met.at x y s.to pass narrowed.convex after state.pass valid.pass_convex met.last in_pass

  -- it meets the state to which the step leads
  pub meets_next : (next : ChainState) → StepsTo state target into next → Meets s y next
  meets_next next leads = record {
    at = met.at;
    between = met.between;
    inside = (leads.source.points met.at).1 (in_near leads.near leads.far leads.cut, near_before leads.near leads.far leads.cut leads.pass leads.narrowed);
    behind = subst (λ (h : Plane). IsBehind h s.from) (sym leads.into_is) met.behind;
    in_front = subst (λ (h : Plane). IsInFront h s.to) (sym leads.into_is) met.in_front;
    last = subst (λ (pass : Option Winding). MatchOption pass (y ≡ met.at) (λ p. IsInRegion p y × IsBetween y met.at s.to)) (sym leads.pass_is) (in_pass leads.near leads.far leads.cut leads.pass leads.narrowed, target_after);
  }

  -- and the step does not block
  pub not_blocked : Blocks state target into → ⊥
  not_blocked (first_cut none) = let l = none y inside in let f = target_in_front in absurd (omega (arith, linear))
  not_blocked (second_cut none) = let l = none met.at met.inside in let f = (flipped_in_front into met.at).1 source_is_behind in absurd (omega (arith, linear))
  not_blocked (third_cut {near = near} {far = far} cut none) = none y (in_far near far cut) (far_beyond near far cut)
  not_blocked (fourth_cut {near = near} {far = far} {pass = pass} cut narrowed none) = none met.at (in_near near far cut) (near_before near far cut pass narrowed)
