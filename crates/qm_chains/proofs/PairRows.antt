-- Rows of pairs: each keeps what is wanted via its portal, when it is made and while more is found.
use Rattle.std.proofs.Common.{◌≡◌, ◌⊎◌, inl, inr, ⊎_elim, ℕ, ◌<◌, Bool, List, [], ◌∷◌, length, get_or, set, Contains, Option, Some, None, refl, sym, ap, ◌∙◌, subst}
use Rattle.std.specs.Prelude.{MatchOption}
use Rattle.std.proofs.lemmas.Bool.{cases_eq}
use Rattle.std.proofs.lemmas.List.{get_or-set_same, get_or-set_other, length-set}
use Rattle.qm_lists.specs.WorkList.{IsIn}
use Rattle.qm_lists.proofs.Elements.{Contains-at, Contains-cons_cases}
use Rattle.qm_contacts.specs.NumberedLeaves.{numbered_leaves}
use Rattle.qm_contacts.specs.OwnPortals.{HasOwnPortals}
use Rattle.qm_contacts.specs.Portals.{Portal, portals_of}
use Rattle.qm_contacts.specs.World.{World}
use Rattle.qm_segments.specs.SeenVia.{IsSeenVia, LiesOnWay}
use Rattle.qm_segments.specs.Ahead.{IsAheadOver}
use Rattle.qm_segments.proofs.AheadLaws.{ahead_with}
use Rattle.qm_segments.proofs.EarlierSights.{seen_on_way}
use Rattle.qm_segments.proofs.ViaLaws.{IsPair, via_in_sight, target_on_way}
use Rattle.qm_separators.specs.PortalSteps.{BeginsWith, StepsThrough, BlocksAt, MeetsState}
use Rattle.qm_separators.proofs.ChainLaws.{lets, straight_on}
use Rattle.qm_chains.specs.Shown.{IsAt}
use Rattle.qm_chains.specs.inner.Cone.{IsInCone}
use Rattle.qm_chains.specs.inner.Frame.{Frame, MayEnter, IsAwaited}
use Rattle.qm_chains.specs.inner.Narrowing.{ShowsNothingNew}
use Rattle.qm_chains.specs.inner.OwnRows.{IsInSightAt, MustHave, CanHave}
use Rattle.qm_chains.specs.inner.Pairs.{Pairs, IsPairRow, ArePairs, LieWithinPairs}
use Rattle.qm_chains.specs.inner.Wanted.{IsWanted, IsWantedVia}
use Rattle.qm_chains.proofs.AwaitedLeaves.{HasAllLeaving, reached_or_awaited}
use Rattle.qm_chains.proofs.Cones.{on_way_in_cone}
use Rattle.qm_chains.proofs.TriedPortals.{same_portal}

-- what is wanted where more is found was wanted before
pub wanted_before : (world : World) (p : ℕ) (found more : List Bool) (number n : ℕ) → ((m : ℕ) → IsIn found m → IsIn more m) → IsWantedVia world p more number n → IsWantedVia world p found number n
wanted_before world p found more number n stays is = record {
  portal = is.portal;
  portal_is = is.portal_is;
  wanted = record { first = is.wanted.first; first_is = is.wanted.first_is; target = is.wanted.target; via = is.wanted.via; on_way = is.wanted.on_way; not_found = λ was. is.wanted.not_found (stays is.wanted.target was) };
}

-- so pairs stay what they are while more is found
pub pairs_stay : (world : World) (found more : List Bool) (pairs : Pairs) → ((m : ℕ) → IsIn found m → IsIn more m) → ArePairs world found pairs → ArePairs world more pairs
pairs_stay world found more pairs stays are = record {
  begun = are.begun;
  seen_wide = are.seen_wide;
  sees = are.sees;
  first_within = are.first_within;
  own_are = are.own_are;
  rows_are = λ number row is n wanted. are.rows_are number row is n (wanted_before world pairs.first found more number n stays wanted);
}

-- ---- what is answered

module _ (world : World) (found : List Bool) (pairs : Pairs) (are : ArePairs world found pairs) (number : ℕ) where
  seen_via : (n : ℕ) (wanted : IsWantedVia world pairs.first found number n) → IsSeenVia world.tree wanted.wanted.first wanted.portal n
  seen_via n wanted = seen_on_way world.tree wanted.wanted.first wanted.portal wanted.wanted.target wanted.wanted.via n wanted.wanted.on_way

  -- an answer must have what is wanted
  pub wanted_answered : (n : ℕ) → IsWantedVia world pairs.first found number n → MustHave world pairs.own number n
  wanted_answered n wanted = by (get_or pairs.own number None) refl
    where
      by : (row : Option (List Bool)) → get_or pairs.own number None ≡ row → MatchOption row (IsInSightAt world number n) (λ r. IsIn r n)
      by None none = record { portal = wanted.portal; portal_is = wanted.portal_is; sight = via_in_sight world.tree wanted.wanted.first wanted.portal n (seen_via n wanted) }
      by (Some row) is = are.rows_are number row is n wanted

  -- so none is wanted that was not found, where an answer shows nothing new
  pub none_wanted : (mask : List Bool) → ShowsNothingNew (MustHave world pairs.own number) mask found → (n : ℕ) → IsIn mask n → (IsIn found n → ⊥) → IsWantedVia world pairs.first found number n → ⊥
  none_wanted mask nothing n in_mask never wanted = never (nothing n in_mask (wanted_answered n wanted))

  -- and the leaves that may be in sight of the first portal have it
  pub wanted_seen : (n : ℕ) → IsWantedVia world pairs.first found number n → IsIn pairs.seen n
  wanted_seen n wanted = are.sees wanted.wanted.first wanted.wanted.first_is n (seen_via n wanted).sight

pub can_within : (MayHave : ℕ → ℕ → Type 0) (ceiling : List Bool) (own : List (Option (List Bool))) (number n : ℕ) → ((m : ℕ) → IsIn ceiling m → MayHave m number) → LieWithinPairs MayHave own → CanHave ceiling own number n → MayHave n number
can_within MayHave ceiling own number n below within can = by (get_or own number None) refl can
  where
    by : (row : Option (List Bool)) → get_or own number None ≡ row → MatchOption row (IsIn ceiling n) (λ r. IsIn r n) → MayHave n number
    by None none is = below n is
    by (Some row) row_is is = within number row row_is n is

-- ---- a row more

pub own_row_put : (own : List (Option (List Bool))) (number : ℕ) (row : List Bool) → number < length own → (other : ℕ) (r : List Bool) → get_or (set own number (Some row)) other None ≡ Some r → ((other ≡ number) × (r ≡ row)) ⊎ (get_or own other None ≡ Some r)
own_row_put own number row within other r is = ⊎_elim
    (λ here.
    let at : get_or (set own number (Some row)) number None ≡ Some row = get_or-set_same own number (Some row) None within in
    let same : get_or (set own number (Some row)) other None ≡ get_or (set own number (Some row)) number None = ap (λ (m : ℕ). get_or (set own number (Some row)) m None) here in
    let both : Some r ≡ Some row = sym is ∙ same ∙ at in
    inl (here, cc))
    (λ apart. inr (sym (get_or-set_other own number other (Some row) None apart) ∙ is))
    (cases_eq other number)

module _ (world : World) (found : List Bool) (pairs : Pairs) (number : ℕ) (row : List Bool) (new : Pairs) (new_is : new ≡ record { first = pairs.first; start = pairs.start; seen = pairs.seen; own = set pairs.own number (Some row) }) (within : number < length pairs.own) where
  pub pairs_more : ArePairs world found pairs → length row ≡ length (numbered_leaves world.tree) → IsPairRow world pairs.first found number row → ArePairs world found new
  pairs_more are wide is_row = subst (ArePairs world found) (sym new_is) (record {
    begun = are.begun;
    seen_wide = are.seen_wide;
    sees = are.sees;
    first_within = are.first_within;
    own_are = record {
      one_each = length-set pairs.own number (Some row) ∙ are.own_are.one_each;
      wide = λ other r is. ⊎_elim
          (λ here. ap length here.1 ∙ wide)
          (λ old. are.own_are.wide other r old)
          (own_row_put pairs.own number row within other r is);
    };
    rows_are = λ other r is. ⊎_elim
        (λ here. subst (λ (l : List Bool). IsPairRow world pairs.first found other l) (sym here.1) (subst (λ (m : ℕ). IsPairRow world pairs.first found m row) (sym here.0) is_row))
        (λ old. are.rows_are other r old)
        (own_row_put pairs.own number row within other r is);
  })

  pub within_more : (MayHave : ℕ → ℕ → Type 0) → LieWithinPairs MayHave pairs.own → ((n : ℕ) → IsIn row n → MayHave n number) → LieWithinPairs MayHave new.own
  within_more MayHave lie may = subst (λ (all : Pairs). LieWithinPairs MayHave all.own) (sym new_is) (λ other r is n has. ⊎_elim
      (λ here. subst (MayHave n) (sym here.0) (may n (subst (λ (l : List Bool). IsIn l n) here.1 has)))
      (λ old. lie other r old n has)
      (own_row_put pairs.own number row within other r is))

-- ---- how the row of a pair is made

module _ (world : World) (own : HasOwnPortals world) (found : List Bool) (pairs : Pairs) (are : ArePairs world found pairs) (number : ℕ) (q : Portal) (q_is : IsAt world.portals number q) where
  abbrev IsLed : (first : Portal) (n : ℕ) → IsSeenVia world.tree first q n → Type 0
  IsLed first n via = IsPair world.tree own.have_points own.touchings own.are_touchings BeginsWith StepsThrough BlocksAt MeetsState (lets world.tree own.have_points own.touchings own.are_touchings) first q pairs.start n via

  listed : (r : Portal) (m : ℕ) → IsAt world.portals m r → Contains (portals_of world.tree own.touchings) r
  listed r m is = subst (λ (all : List Portal). Contains all r) own.portals_are (Contains-at world.portals m r is)

  wanted_at : (n : ℕ) → IsWantedVia world pairs.first found number n → IsWanted world pairs.first found q n
  wanted_at n wanted = subst (λ (r : Portal). IsWanted world pairs.first found r n) (same_portal world.portals number wanted.portal q wanted.portal_is q_is) wanted.wanted

  -- the step straight to the portal
  led : (first : Portal) → IsAt world.portals pairs.first first → (n : ℕ) (via : IsSeenVia world.tree first q n) → IsLed first n via
  led first first_is n via = straight_on world.tree own.have_points own.touchings own.are_touchings first q pairs.start n (listed first pairs.first first_is) (listed q number q_is) (are.begun first first_is) via

  -- where the step straight to the portal blocks, nothing is wanted via it
  pub none_behind_block : BlocksAt pairs.start q → (n : ℕ) → IsWantedVia world pairs.first found number n → ⊥
  none_behind_block blocks n is = let wanted = wanted_at n is in (led wanted.first wanted.first_is wanted.target wanted.via).not_blocked blocks

  -- else what is wanted is in the cone of the chain with these two portals, where the mask has all that is wanted
  module _ (frame : Frame) (step : StepsThrough pairs.start q frame.state) (met_is : (first : Portal) → IsAt world.portals pairs.first first → (m : ℕ) → IsIn frame.met m → Contains (q.to ∷ q.from ∷ first.to ∷ first.from ∷ []) m)
      (in_mask : (m : ℕ) → IsWantedVia world pairs.first found number m → IsIn frame.mask m) where
    module _ (n : ℕ) (wanted : IsWanted world pairs.first found q n) where
      -- all that lies on the way is wanted
      also_wanted : (m : ℕ) → LiesOnWay world.tree wanted.via m → IsWantedVia world pairs.first found number m
      also_wanted m on_way = record { portal = q; portal_is = q_is; wanted = record { first = wanted.first; first_is = wanted.first_is; target = wanted.target; via = wanted.via; on_way = on_way; not_found = wanted.not_found } }

      target_in_mask : IsIn frame.mask wanted.target
      target_in_mask = in_mask wanted.target (also_wanted wanted.target (target_on_way world.tree wanted.first q wanted.target wanted.via))

      abbrev target_ahead : IsAheadOver MeetsState world.tree wanted.first frame.state q.to (MayEnter frame) wanted.target
      target_ahead = ahead_with MeetsState world.tree wanted.first frame.state q.to _ wanted.target ((led wanted.first wanted.first_is wanted.target wanted.via).ahead frame.state step) (MayEnter frame)
          (λ m farther. (
            (λ again. ⊎_elim farther.other farther.has (Contains-cons_cases q.to m (q.from ∷ wanted.first.to ∷ wanted.first.from ∷ []) (met_is wanted.first wanted.first_is m again))),
            in_mask m (also_wanted m farther.on_way),
          ))

    pub wanted_in_cone : (n : ℕ) → IsWantedVia world pairs.first found number n → IsInCone world pairs.first frame found q.to n
    wanted_in_cone n is =
        let wanted = wanted_at n is in
        on_way_in_cone world own pairs.first wanted.first wanted.first_is frame found q.to wanted.target (target_in_mask n wanted) wanted.not_found (target_ahead n wanted) n wanted.on_way.place wanted.on_way.number_is
        ((led wanted.first wanted.first_is wanted.target wanted.via).all_ahead frame.state step wanted.on_way.place wanted.on_way.entered)

    -- and it is the leaf that is entered, or awaited there, where all portals are still to be tried that leave that leaf
    pub wanted_awaited : HasAllLeaving world.portals q.to frame.untried → (first : Portal) → IsAt world.portals pairs.first first → (n : ℕ) → (IsIn found n → ⊥) → IsWantedVia world pairs.first found number n → (q.to ≡ n) ⊎ IsAwaited world first n frame
    wanted_awaited leaving first first_is n never is =
        let was = wanted_at n is in
        let same = same_portal world.portals pairs.first was.first first was.first_is first_is in
        let via : IsSeenVia world.tree first q n = subst (λ (r : Portal). IsSeenVia world.tree r q n) same (seen_on_way world.tree was.first q was.target was.via n was.on_way) in
        let wanted : IsWanted world pairs.first found q n = record { first = first; first_is = first_is; target = n; via = via; on_way = target_on_way world.tree first q n via; not_found = never } in
        reached_or_awaited world own first frame q.to n (in_mask n is) leaving (target_ahead n wanted)
