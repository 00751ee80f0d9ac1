-- A portal that is tried at a frame: where it does not lead on, and where the flow has gone on meanwhile.
use Rattle.std.proofs.Common.{ℕ, Bool, List, None, Option, sym, subst}
use Rattle.qm_contacts.specs.Portals.{Portal}
use Rattle.qm_contacts.specs.World.{World}
use Rattle.qm_chains.specs.Shown.{IsAt}
use Rattle.qm_chains.specs.inner.Cone.{LeadsOn}
use Rattle.qm_chains.specs.inner.Frame.{Frame, put_back, EndsChain}
use Rattle.qm_chains.specs.inner.Pairs.{Pairs}
use Rattle.qm_chains.specs.inner.Search.{IsLookedThrough}
use Rattle.qm_chains.specs.inner.Walk.{IsTried}
use Rattle.qm_chains.proofs.TriedPortals.{looked_not_led, tried_none}
use Rattle.qm_sight.specs.WordInSight.{LieWithin}
use Rattle.qm_sight.specs.InCeiling.{IsInCeiling}
use Rattle.qm_flow.specs.declared.flow_state.Flow.{Flow}
use Rattle.qm_flow.specs.inner.FlowGoesOn.{FlowGoesOn}
use Rattle.qm_flow.specs.inner.FlowPairs.{pairs_of}
use Rattle.qm_flow.specs.inner.Round.{IsTry}

pub try_none : (world : World) (now : List (List Bool)) (pairs : Pairs) (frame : Frame) (number : ℕ) (found : List Bool) → IsLookedThrough world pairs.first frame number found found None →
    IsTry world now pairs frame number found found None
try_none world now pairs frame number found looked = record {
  looked = looked;
  tried = λ ceilings lie within ends. tried_none world pairs.first frame number found (IsInCeiling ceilings) looked;
}

pub try_not_led : (world : World) (now : List (List Bool)) (pairs : Pairs) (frame : Frame) (number : ℕ) (found : List Bool) →
    ((q : Portal) → IsAt world.portals number q → LeadsOn world pairs.first frame found q → ⊥) → IsTry world now pairs frame number found found None
try_not_led world now pairs frame number found none = try_none world now pairs frame number found (looked_not_led world pairs.first frame number found none)

-- what a try is by a flow that has gone on, it is by the flow as it was
pub try_later : (now before between : List (List Bool)) (sought : List Bool) (old new : Flow) (frame : Frame) (number : ℕ) (found more : List Bool) (child : Option Frame) →
    LieWithin before now → LieWithin between now → FlowGoesOn between sought old new → IsTry new.world.now before (pairs_of new) frame number found more child → IsTry old.world.now now (pairs_of old) frame number found more child
try_later now before between sought old new frame number found more child narrower less go tried =
    let there = subst (λ (world : World). IsTry world before (pairs_of new) frame number found more child) go.same_world tried in
    let world = old.world.now in
    record {
      looked = subst (λ (first : ℕ). IsLookedThrough world first frame number found more child) go.pairs.same_first there.looked;
      tried = λ ceilings lie within ends.
          subst (λ (first : ℕ). IsTried world (IsInCeiling ceilings) first frame number found more child) go.pairs.same_first
          (there.tried ceilings (λ place n is. lie place n (narrower place n is)) (go.pairs.within ceilings (λ place n is. lie place n (less place n is)) within)
          (subst (λ (first : ℕ). EndsChain world (IsInCeiling ceilings) first (put_back number frame)) (sym go.pairs.same_first) ends));
    }
