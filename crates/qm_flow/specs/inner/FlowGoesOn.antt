use Rattle.std.specs.Prelude.{◌≡◌, Bool, List}
use Rattle.qm_flow.specs.declared.flow_state.Flow.{Flow}
use Rattle.qm_flow.specs.inner.FlowPairs.{pairs_of}
use Rattle.qm_flow.specs.inner.PairsGoOn.{PairsGoOn}

-- a flow goes on in its world, and what it knows of pairs goes on
pub record FlowGoesOn (now : List (List Bool)) (found : List Bool) (old new : Flow) : Type 0 where
  pub same_world : new.world.now ≡ old.world.now
  pub pairs : PairsGoOn old.world.now now found (pairs_of old) (pairs_of new)
