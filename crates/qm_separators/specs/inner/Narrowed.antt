use Rattle.std.specs.Prelude.{◌≡◌, Some}
use Rattle.qm_convex.specs.Winding.{Winding}
use Rattle.qm_separators.specs.Separator.{IsSeparatorFrom}
use Rattle.qm_separators.specs.Part.{HasNoPartBy}
use Rattle.qm_separators.specs.ChainState.{ChainState}
use Rattle.qm_separators.specs.ChainStep.{IsCutToPass, IsCutToSource}

-- The last two cuts of a step, from what the first two have left.

-- they lead to the state
pub record NarrowsTo (state : ChainState) (near far : Winding) (next : ChainState) : Type 0 where
  pub pass : Winding
  pub pass_is : next.pass ≡ Some pass
  pub narrowed : IsCutToPass state near far pass
  pub source : IsCutToSource state near pass next.source
  pub into_is : next.into ≡ state.into

-- one of them leaves nothing
pub data CutsAway (state : ChainState) (near far : Winding) : Type 0 where
  target_gone : HasNoPartBy far (IsSeparatorFrom state.pass near) → CutsAway state near far
  source_gone : {pass : Winding} → IsCutToPass state near far pass → HasNoPartBy near (IsSeparatorFrom state.pass pass) → CutsAway state near far
