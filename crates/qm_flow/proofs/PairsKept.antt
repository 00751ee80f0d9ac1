-- Pairs that go on: with no row more, over a source that has gone on, and where more is found; and pairs whose rows are changed
-- in their place.
use Rattle.std.proofs.Common.{◌≡◌, ℕ, Bool, List, Option, set, refl, ap, ◌∙◌, subst}
use Rattle.qm_lists.specs.WorkList.{IsIn}
use Rattle.qm_contacts.specs.World.{World}
use Rattle.qm_chains.specs.inner.Pairs.{Pairs, ArePairs}
use Rattle.qm_chains.proofs.PairRows.{pairs_stay}
use Rattle.qm_sight.specs.WordInSight.{LieWithin}
use Rattle.qm_flow.specs.declared.flow_state.Flow.{Flow}
use Rattle.qm_flow.specs.inner.FlowGoesOn.{FlowGoesOn}
use Rattle.qm_flow.specs.inner.FlowPairs.{pairs_of}
use Rattle.qm_flow.specs.inner.PairsGoOn.{PairsGoOn}

pub pairs_same : (world : World) (now : List (List Bool)) (found : List Bool) (pairs : Pairs) → ArePairs world found pairs → PairsGoOn world now found pairs pairs
pairs_same world now found pairs are = record { same_first = refl; are = are; within = λ ceilings lie within. within }

pub pairs_later : (world : World) (now later : List (List Bool)) (found : List Bool) (old new : Pairs) → LieWithin later now → PairsGoOn world later found old new → PairsGoOn world now found old new
pairs_later world now later found old new narrower go = record { same_first = go.same_first; are = go.are; within = λ ceilings lie within. go.within ceilings (λ place n is. lie place n (narrower place n is)) within }

pub pairs_found : (world : World) (now : List (List Bool)) (found more : List Bool) (old new : Pairs) → ((n : ℕ) → IsIn found n → IsIn more n) → PairsGoOn world now found old new → PairsGoOn world now more old new
pairs_found world now found more old new stays go = record { same_first = go.same_first; are = pairs_stay world found more new stays go.are; within = go.within }

-- pairs with other own rows: the same where these are the same, and one put where one is put
abbrev with_own : List (Option (List Bool)) → Pairs → Pairs
with_own own pairs = record { first = pairs.first; start = pairs.start; seen = pairs.seen; own = own }

pub own_same : (inside old : Pairs) (own : List (Option (List Bool))) → inside ≡ old → own ≡ inside.own → with_own own inside ≡ old
own_same inside old own same is = ap (λ (rows : List (Option (List Bool))). with_own rows inside) is ∙ same

pub own_put : (inside old : Pairs) (own : List (Option (List Bool))) (number : ℕ) (row : Option (List Bool)) → inside ≡ old → own ≡ set inside.own number row → with_own own inside ≡ with_own (set old.own number row) old
own_put inside old own number row same is = ap (λ (rows : List (Option (List Bool))). with_own rows inside) is ∙ ap (λ (pairs : Pairs). with_own (set pairs.own number row) pairs) same

-- ---- and so of a flow

pub flow_same : (now : List (List Bool)) (found : List Bool) (flow : Flow) → ArePairs flow.world.now found (pairs_of flow) → FlowGoesOn now found flow flow
flow_same now found flow are = record { same_world = refl; pairs = pairs_same flow.world.now now found (pairs_of flow) are }

pub flow_later : (now later : List (List Bool)) (found : List Bool) (old new : Flow) → LieWithin later now → FlowGoesOn later found old new → FlowGoesOn now found old new
flow_later now later found old new narrower go = record { same_world = go.same_world; pairs = pairs_later old.world.now now later found (pairs_of old) (pairs_of new) narrower go.pairs }

pub flow_found : (now : List (List Bool)) (found more : List Bool) (old new : Flow) → ((n : ℕ) → IsIn found n → IsIn more n) → FlowGoesOn now found old new → FlowGoesOn now more old new
flow_found now found more old new stays go = record { same_world = go.same_world; pairs = pairs_found old.world.now now found more (pairs_of old) (pairs_of new) stays go.pairs }

pub flow_in_turn : (now later : List (List Bool)) (found : List Bool) (a b c : Flow) → LieWithin later now → FlowGoesOn now found a b → FlowGoesOn later found b c → FlowGoesOn now found a c
flow_in_turn now later found a b c narrower first second = record {
  same_world = second.same_world ∙ first.same_world;
  pairs = record {
    same_first = second.pairs.same_first ∙ first.pairs.same_first;
    are = subst (λ (world : World). ArePairs world found (pairs_of c)) first.same_world second.pairs.are;
    within = λ ceilings lie within. second.pairs.within ceilings (λ place n is. lie place n (narrower place n is)) (first.pairs.within ceilings lie within);
  };
}
