-- How a step is made: the last two cuts of a step after the first two.
use Rattle.std.specs.Option.{MatchOption}
use Rattle.std.proofs.Common.{List, [], ◌∷◌, ◌++◌, Option, Some, None, subst, ⊎_elim}
use Rattle.std.proofs.lemmas.List.Elements.{Contains-append_cases}
use Rattle.qm_lists.proofs.Elements.{Contains-nil, Contains-cons_cases}
use Rattle.qm_space.specs.Plane.{Plane, flipped}
use Rattle.qm_convex.specs.Winding.{Winding, IsConvex}
use Rattle.qm_convex.specs.Sides.{LiesIn, HasCornerInFront}
use Rattle.qm_convex.specs.Cut.{IsPartInFront}
use Rattle.qm_separators.specs.Part.{IsPartBy}
use Rattle.qm_separators.specs.ChainState.{ChainState, IsChainState}
use Rattle.qm_separators.specs.ChainStep.{IsCutByPlanes, StepsTo, Blocks, third_cut, fourth_cut}
use Rattle.qm_separators.specs.inner.Found.{HasCornersBeyond}
use Rattle.qm_separators.specs.inner.Narrowed.{NarrowsTo, CutsAway, target_gone, source_gone}

-- ---- corners in front of planes

pub none_beyond : (v : Winding) → HasCornersBeyond v []
none_beyond v h there = absurd (Contains-nil h there)

pub one_beyond : (v : Winding) (done : List Plane) (g : Plane) → HasCornersBeyond v done → HasCornerInFront v g → HasCornersBeyond v (done ++ g ∷ [])
one_beyond v done g are front h there = ⊎_elim
    (λ before. are h before)
    (λ last. ⊎_elim (λ same. subst (λ (k : Plane). HasCornerInFront v k) same front) (λ none. absurd (Contains-nil h none)) (Contains-cons_cases g h [] last))
    (Contains-append_cases done (g ∷ []) h there)

-- ---- the last two cuts

module _ (state : ChainState) (target : Winding) (into : Plane) (near far : Winding) (far_is : IsPartInFront far target state.into) (near_is : IsPartInFront near state.source (flipped into)) where
  cut : IsCutByPlanes state target into near far
  cut = record { far_is = far_is; near_is = near_is }

  pub leads_by : (next : ChainState) → NarrowsTo state near far next → StepsTo state target into next
  leads_by next is = record { near = near; far = far; cut = cut; pass = is.pass; pass_is = is.pass_is; narrowed = is.narrowed; source = is.source; into_is = is.into_is }

  pub blocks_by : CutsAway state near far → Blocks state target into
  blocks_by (target_gone none) = third_cut cut none
  blocks_by (source_gone narrowed none) = fourth_cut cut narrowed none

  -- what is left of the source lies in its plane
  pub near_lies : IsChainState state → LiesIn near state.into
  near_lies valid p r = valid.source_lies p ((near_is.points p).0 r).0

-- a state that is narrowed keeps its rules
pub narrowed_is_state : (near source pass : Winding) (into : Plane) (Has : Plane → Type 0) → LiesIn near into → IsPartBy source near Has → IsConvex pass → IsChainState (record { source = source; into = into; pass = Some pass })
narrowed_is_state near source pass into Has lies is convex = record { source_convex = is.convex; source_lies = λ p r. lies p ((is.points p).0 r).0; pass_convex = convex }

-- so they say what the step does
pub step_by : (state : ChainState) (target : Winding) (into : Plane) (near far : Winding) → IsPartInFront far target state.into → IsPartInFront near state.source (flipped into) → (after : Option ChainState) → MatchOption after (CutsAway state near far) (NarrowsTo state near far) → MatchOption after (Blocks state target into) (StepsTo state target into)
step_by state target into near far far_is near_is None cuts = blocks_by state target into near far far_is near_is cuts
step_by state target into near far far_is near_is (Some next) narrows = leads_by state target into near far far_is near_is next narrows
