use Rattle.std.specs.Prelude.{◌≡◌, Some}
use Rattle.qm_convex.specs.Winding.{Winding}
use Rattle.qm_separators.specs.ChainState.{ChainState}
use Rattle.qm_separators.specs.ChainStep.{IsCutToSource}

-- The last cut of a step, once its pass is known.

-- it leads to the state, whose source is what the separators of the pass leave of the one before
pub record EndsAt (state : ChainState) (near pass : Winding) (next : ChainState) : Type 0 where
  pub pass_is : next.pass ≡ Some pass
  pub source : IsCutToSource state near pass next.source
  pub into_is : next.into ≡ state.into
