-- The frame of the chain with one portal.
use Rattle.std.proofs.Common.{◌≡◌, refl, ◌⊎◌, inl, inr, ⊎_elim, ◌↔◌, ℕ, ◌<◌, Bool, true, false, List, [], ◌∷◌, length, set, replicate, Contains, sym, ap, ◌∙◌, subst, arith}
use Rattle.std.proofs.lemmas.Bool.{cases_lt}
use Rattle.std.proofs.lemmas.List.{length-set, length-replicate, get_or-replicate, get_or_past}
use Rattle.std.proofs.lemmas.Option.{slice_get_within}
use Rattle.qm_space.specs.Turned.{turned}
use Rattle.qm_lists.specs.WorkList.{IsIn}
use Rattle.qm_lists.proofs.Elements.{Contains-at, Contains-first, Contains-later, Contains-cons_cases}
use Rattle.qm_contacts.specs.NumberedLeaves.{numbered_leaves}
use Rattle.qm_contacts.specs.Portals.{Portal, portals_of}
use Rattle.qm_contacts.specs.World.{World, AreLeaving}
use Rattle.qm_segments.specs.Sight.{IsInSight}
use Rattle.qm_segments.proofs.PortalsListed.{passage_of_portal}
use Rattle.qm_separators.specs.ChainState.{first_state}
use Rattle.qm_separators.specs.PortalSteps.{BeginsWith}
use Rattle.qm_separators.proofs.PortalStepLaws.{are_convex, first_is_state}
use Rattle.qm_contacts.specs.OwnPortals.{HasOwnPortals}
use Rattle.qm_chains.specs.Shown.{IsAt}
use Rattle.qm_chains.specs.inner.Frame.{Frame, EndsChain, IsAwaited}
use Rattle.qm_chains.specs.inner.Narrowing.{IsNarrowed}
use Rattle.qm_chains.specs.inner.OwnRows.{IsInSightAt}
use Rattle.qm_chains.specs.inner.Walk.{IsBegun}
use Rattle.qm_chains.proofs.ChainEnds.{first_ends, end_shown}
use Rattle.qm_chains.proofs.AwaitedLeaves.{first_awaited}
use Rattle.qm_chains.proofs.TriedPortals.{same_portal, gains_one, all_leave, all_leaving}

-- ---- rows of which no place is set, and of which all are

pub none_clear : (n place : ℕ) → IsIn (replicate n false) place → ⊥
none_clear n place is = ⊎_elim
    (λ inside. let never : false ≡ true = sym (get_or-replicate n place false false inside) ∙ is in cc)
    (λ past. let long : length {A = Bool} (replicate n false) ≡ n = length-replicate n false in let never : false ≡ true = sym (get_or_past (replicate n false) place false (omega (arith, past, long))) ∙ is in cc)
    (cases_lt place n)

pub all_set : (n place : ℕ) → place < n → IsIn (replicate n true) place
all_set n place inside = get_or-replicate n place true false inside

-- ---- the portal

module _ (world : World) (own : HasOwnPortals world) (p : ℕ) (first : Portal) (first_is : IsAt world.portals p first) where
  listed : Contains (portals_of world.tree own.touchings) first
  listed = subst (λ (all : List Portal). Contains all first) own.portals_are (Contains-at world.portals p first first_is)

  -- its plane is that of its polygon, turned to one side
  pub turned_of_portal : (side : Bool) × (first.into ≡ turned side first.winding.plane)
  turned_of_portal =
      let of = passage_of_portal world.tree own.touchings first listed in
      ⊎_elim
      (λ is. (false, subst (λ (r : Portal). r.into ≡ turned false r.winding.plane) is refl))
      (λ is. (true, subst (λ (r : Portal). r.into ≡ turned true r.winding.plane) is refl))
      of.way

  pub begins_first : BeginsWith first (first_state first.winding first.into)
  begins_first =
      let its = are_convex world.tree own.touchings own.are_touchings first listed in
      record { state_is = refl; valid = first_is_state first its.0 its.1 }

  module _ (MayHave : ℕ → ℕ → Type 0) (frame : Frame) (leaves : ℕ) (count : leaves ≡ length (numbered_leaves world.tree)) (from_within : first.from < leaves) (to_within : first.to < leaves)
      (state_is : frame.state ≡ first_state first.winding first.into) (met_is : frame.met ≡ set (set (replicate leaves false) first.from true) first.to true) (leaving : AreLeaving world.portals first.to frame.untried)
      (Can : ℕ → Type 0) (narrowed : IsNarrowed (IsInSightAt world p) Can (replicate leaves true) frame.mask) (may : (n : ℕ) → Can n → MayHave n p) where
    clear_long : length {A = Bool} (replicate leaves false) ≡ leaves
    clear_long = length-replicate leaves false

    one_long : length (set (replicate leaves false) first.from true) ≡ leaves
    one_long = length-set (replicate leaves false) first.from true ∙ clear_long

    met_long : length frame.met ≡ leaves
    met_long = ap length met_is ∙ length-set (set (replicate leaves false) first.from true) first.to true ∙ one_long

    abbrev ends_of : List ℕ
    ends_of = first.from ∷ first.to ∷ []

    met_both : (n : ℕ) → IsIn frame.met n ↔ Contains ends_of n
    met_both n =
        let one = gains_one (replicate leaves false) first.from (omega (arith, clear_long, from_within)) n in
        let two = gains_one (set (replicate leaves false) first.from true) first.to (omega (arith, one_long, to_within)) n in (
          (λ is. ⊎_elim
              (λ here. subst (Contains ends_of) here (Contains-later first.from first.to (first.to ∷ []) (Contains-first first.to [])))
              (λ old. ⊎_elim (λ here. subst (Contains ends_of) here (Contains-first first.from (first.to ∷ []))) (λ never. absurd (none_clear leaves n never)) (one.0 old))
              (two.0 (subst (λ (row : List Bool). IsIn row n) met_is is))),
          (λ there. subst (λ (row : List Bool). IsIn row n) (sym met_is) (⊎_elim
              (λ here. two.1 (inr (one.1 (inl here))))
              (λ later. ⊎_elim (λ here. two.1 (inl here)) (λ none. let range = none.1 in absurd (omega arith)) (Contains-cons_cases first.to n [] later))
              (Contains-cons_cases first.from n (first.to ∷ []) there))),
        )

    begun : BeginsWith first frame.state
    begun = subst (BeginsWith first) (sym state_is) begins_first

    mask_long : length frame.mask ≡ leaves
    mask_long = narrowed.same_length ∙ length-replicate leaves true

    abbrev chain_ends : EndsChain world MayHave p frame
    chain_ends = first_ends world MayHave p first frame first_is begun (all_leave world.portals first.to frame.untried leaving) met_both (λ n is. may n (narrowed.within n is).1) (met_long ∙ count) (mask_long ∙ count)

    -- a leaf in sight has a number below theirs, and stays in the mask
    sight_within : (n : ℕ) → IsInSight world.tree first n → n < leaves
    sight_within n sight = let below = slice_get_within (numbered_leaves world.tree) n _ sight.last_is in omega (arith, below, count)

    in_mask : (n : ℕ) → IsInSight world.tree first n → n < leaves → IsIn frame.mask n
    in_mask n sight inside = narrowed.keeps n (all_set leaves n inside) (record { portal = first; portal_is = first_is; sight = sight })

    -- what is found: the leaf that the portal enters, where the mask has it
    abbrev pub FindsFirst : List Bool → Type 0
    FindsFirst row = (IsIn frame.mask first.to × (row ≡ set (replicate leaves false) first.to true)) ⊎ ((IsIn frame.mask first.to → ⊥) × (row ≡ replicate leaves false))

    pub begins : (row : List Bool) → FindsFirst row → IsBegun world MayHave p frame row
    begins row finds = record {
      wide = ⊎_elim (λ it. ap length it.1 ∙ length-set (replicate leaves false) first.to true ∙ clear_long ∙ count) (λ kept. ap length kept.1 ∙ clear_long ∙ count) finds;
      sees = λ other at n other_sight.
          let sight = subst (λ (r : Portal). IsInSight world.tree r n) (same_portal world.portals p other first at first_is) other_sight in
          in_mask n sight (sight_within n sight);
      chain = chain_ends;
      shown = λ n is. ⊎_elim
          (λ it. ⊎_elim
          (λ here. end_shown world MayHave p frame chain_ends n here (subst (IsIn frame.mask) here it.0))
          (λ never. absurd (none_clear leaves n never))
          ((gains_one (replicate leaves false) first.to (omega (arith, clear_long, to_within)) n).0 (subst (λ (r : List Bool). IsIn r n) it.1 is)))
          (λ kept. absurd (none_clear leaves n (subst (λ (r : List Bool). IsIn r n) kept.1 is)))
          finds;
      none_missed = λ other at n other_sight.
          let sight = subst (λ (r : Portal). IsInSight world.tree r n) (same_portal world.portals p other first at first_is) other_sight in
          let here = in_mask n sight (sight_within n sight) in
          ⊎_elim
          (λ last. inl (⊎_elim
          (λ it. subst (λ (r : List Bool). IsIn r n) (sym it.1) ((gains_one (replicate leaves false) first.to (omega (arith, clear_long, to_within)) n).1 (inl last)))
          (λ kept. absurd (kept.0 (subst (IsIn frame.mask) (sym last) here)))
          finds))
          (λ awaited. inr (subst (λ (r : Portal). IsAwaited world r n frame) (sym (same_portal world.portals p other first at first_is)) awaited))
          (first_awaited world own first p frame first_is begun met_both (all_leaving world.portals first.to frame.untried leaving) (λ m seen. in_mask m seen (sight_within m seen)) n sight);
    }
