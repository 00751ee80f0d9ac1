-- The mask with which a walk begins, and pairs that have begun.
use Rattle.std.proofs.Common.{◌≡◌, ◌<◌, ℕ, Bool, List, true, Option, None, length, replicate, refl, sym, ◌∙◌, subst}
use Rattle.std.proofs.lemmas.List.{length-replicate}
use Rattle.std.proofs.lemmas.Option.{slice_get_within}
use Rattle.qm_lists.specs.WorkList.{IsIn}
use Rattle.qm_contacts.specs.NumberedLeaves.{numbered_leaves}
use Rattle.qm_contacts.specs.OwnPortals.{HasOwnPortals}
use Rattle.qm_contacts.specs.Portals.{Portal}
use Rattle.qm_contacts.specs.World.{World}
use Rattle.qm_segments.specs.Sight.{IsInSight}
use Rattle.qm_separators.specs.ChainState.{first_state}
use Rattle.qm_separators.specs.PortalSteps.{BeginsWith}
use Rattle.qm_chains.specs.Shown.{IsAt}
use Rattle.qm_chains.specs.inner.Narrowing.{IsNarrowed}
use Rattle.qm_chains.specs.inner.OwnRows.{IsInSightAt, MustHave, CanHave}
use Rattle.qm_chains.specs.inner.Pairs.{Pairs}
use Rattle.qm_chains.proofs.Beginnings.{all_set, begins_first}
use Rattle.qm_chains.proofs.Narrowing.{narrowed_as}
use Rattle.qm_sight.specs.WordInSight.{ceiling_of}
use Rattle.qm_flow.specs.inner.BegunPairs.{ArePairsBegun}
use Rattle.qm_flow.specs.inner.FirstMask.{IsFirstMask}
use Rattle.qm_flow.proofs.OwnAnswers.{fresh_own, fresh_must, fresh_can, fresh_some}

module _ (world : World) (ceilings : List (List Bool)) (p : ℕ) (mask : List Bool) (is : IsFirstMask world ceilings p mask) where
  pub first_mask_wide : length mask ≡ length (numbered_leaves world.tree)
  first_mask_wide = is.same_length ∙ length-replicate (length (numbered_leaves world.tree)) true

  pub first_mask_sees : (first : Portal) → IsAt world.portals p first → (n : ℕ) → IsInSight world.tree first n → IsIn mask n
  first_mask_sees first at n sight =
      is.keeps n (all_set (length (numbered_leaves world.tree)) n (slice_get_within (numbered_leaves world.tree) n _ sight.last_is)) (record { portal = first; portal_is = at; sight = sight })

-- a full row that was narrowed by the row of the portal, where the flow has no rows of its own yet
pub narrowed_is_first : (world : World) (ceilings : List (List Bool)) (p : ℕ) (own : List (Option (List Bool))) (full mask : List Bool) →
    own ≡ replicate (length world.portals) None → full ≡ replicate (length (numbered_leaves world.tree)) true →
    IsNarrowed (MustHave world own p) (CanHave (ceiling_of ceilings p) own p) full mask → IsFirstMask world ceilings p mask
narrowed_is_first world ceilings p own full mask fresh full_is narrowed =
    let count = length world.portals in
    let ceiling = ceiling_of ceilings p in
    narrowed_as (MustHave world own p) (CanHave ceiling own p) (IsInSightAt world p) (IsIn ceiling) (replicate (length (numbered_leaves world.tree)) true) mask
    (λ n sight. fresh_must own count fresh world p n sight) (λ n can. fresh_can own count fresh ceiling p n can)
    (subst (λ (row : List Bool). IsNarrowed (MustHave world own p) (CanHave ceiling own p) row mask) full_is narrowed)

-- pairs with the first state of the portal's chain, this mask and no rows
pub pairs_begin : (world : World) (ceilings : List (List Bool)) (pairs : Pairs) → HasOwnPortals world → pairs.first < length world.portals →
    ((first : Portal) → IsAt world.portals pairs.first first → pairs.start ≡ first_state first.winding first.into) →
    IsFirstMask world ceilings pairs.first pairs.seen → pairs.own ≡ replicate (length world.portals) None → ArePairsBegun world pairs.first pairs
pairs_begin world ceilings pairs own_portals within start mask fresh =
    let count = length world.portals in
    record {
      are = λ found. record {
        begun = λ first at. subst (BeginsWith first) (sym (start first at)) (begins_first world own_portals pairs.first first at);
        seen_wide = first_mask_wide world ceilings pairs.first pairs.seen mask;
        sees = first_mask_sees world ceilings pairs.first pairs.seen mask;
        first_within = within;
        own_are = fresh_own pairs.own count fresh world refl;
        rows_are = λ number row is. absurd (fresh_some pairs.own count fresh number row is);
      };
      first_is = refl;
      no_rows = fresh;
    }
