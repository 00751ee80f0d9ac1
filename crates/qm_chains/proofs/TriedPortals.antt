-- What becomes of a portal that does not lead on where it is tried, or before which the chain stops; and what is found beside.
use Rattle.std.proofs.Common.{◌≡◌, ◌⊎◌, inl, inr, ⊎_elim, ℕ, ◌+◌, ◌<◌, Bool, true, false, List, length, get_or, set, Some, None, refl, sym, ap, ◌∙◌, subst, arith}
use Rattle.std.proofs.lemmas.Bool.{cases_eq}
use Rattle.std.proofs.lemmas.List.{length-set, get_or-set_same, get_or-set_other}
use Rattle.std.proofs.lemmas.Option.{slice_get_within}
use Rattle.qm_lists.specs.WorkList.{IsIn}
use Rattle.qm_contacts.specs.Portals.{Portal}
use Rattle.qm_contacts.specs.World.{World, AreLeaving}
use Rattle.qm_segments.specs.SeenVia.{LiesOnWay}
use Rattle.qm_segments.proofs.ViaLaws.{target_on_way}
use Rattle.qm_chains.specs.Shown.{IsAt}
use Rattle.qm_chains.specs.inner.Cone.{LeadsOn}
use Rattle.qm_chains.specs.inner.Frame.{Frame, StopsAt, not_passed, IsNextTo}
use Rattle.qm_chains.specs.inner.Wanted.{IsWantedVia}
use Rattle.qm_chains.specs.inner.Search.{IsLookedThrough}
use Rattle.qm_chains.specs.inner.Walk.{IsTried}
use Rattle.qm_chains.proofs.ChainEnds.{AllLeave, GainsOne}
use Rattle.qm_chains.proofs.AwaitedLeaves.{HasAllLeaving}
use Rattle.qm_chains.proofs.Weights.{few_ascend}

-- two portals at one place are one
pub same_portal : (portals : List Portal) (number : ℕ) (a b : Portal) → IsAt portals number a → IsAt portals number b → a ≡ b
same_portal portals number a b first second = let both : Some a ≡ Some b = sym first ∙ second in cc

-- a place that is not clear is set, and the other way round
pub in_or_clear : (row : List Bool) (place : ℕ) → IsIn row place ⊎ (get_or row place false ≡ false)
in_or_clear row place = by (get_or row place false) refl
  where
    by : (b : Bool) → get_or row place false ≡ b → IsIn row place ⊎ (get_or row place false ≡ false)
    by true is = inl is
    by false is = inr is

pub clear_if_not_in : (row : List Bool) (place : ℕ) → (IsIn row place → ⊥) → get_or row place false ≡ false
clear_if_not_in row place never = ⊎_elim (λ is. absurd (never is)) (λ clear. clear) (in_or_clear row place)

pub not_in_if_clear : (row : List Bool) (place : ℕ) → get_or row place false ≡ false → IsIn row place → ⊥
not_in_if_clear row place clear is = let never : true ≡ false = sym is ∙ clear in cc

-- a row in which one place was set
pub gains_one : (row : List Bool) (place : ℕ) → place < length row → GainsOne place row (set row place true)
gains_one row place within n = (
  (λ is. ⊎_elim (λ here. inl (sym here)) (λ other. inr (sym (get_or-set_other row place n true false other) ∙ is)) (cases_eq n place)),
  ⊎_elim
      (λ here. subst (IsIn (set row place true)) here (get_or-set_same row place true false within))
      (λ old. ⊎_elim
      (λ here. subst (IsIn (set row place true)) (sym here) (get_or-set_same row place true false within))
      (λ other. get_or-set_other row place n true false other ∙ old)
      (cases_eq n place)),
)

-- a place of it is that one, or was set before
pub set_only : (row : List Bool) (place n : ℕ) → IsIn (set row place true) n → (n ≡ place) ⊎ IsIn row n
set_only row place n is = ⊎_elim (λ here. inl here) (λ other. inr (sym (get_or-set_other row place n true false other) ∙ is)) (cases_eq n place)

-- ---- the portals that leave a leaf

module _ (portals : List Portal) (leaf : ℕ) (numbers : List ℕ) (leaving : AreLeaving portals leaf numbers) where
  pub all_leave : AllLeave portals leaf numbers
  all_leave number there = (leaving.leave number).0 there

  pub all_leaving : HasAllLeaving portals leaf numbers
  all_leaving number q at from = (leaving.leave number).1 (q, at, from)

  pub few_leaving : length numbers < length portals + 1
  few_leaving =
      let few = few_ascend numbers (length portals) leaving.ascending (λ number there. slice_get_within portals number ((leaving.leave number).0 there).0 ((leaving.leave number).0 there).1) in
      omega (arith, few)

-- ---- what is found: a leaf, where a mask has it

abbrev pub FindsLast : List Bool → ℕ → List Bool → List Bool → Type 0
FindsLast mask leaf row found = (IsIn mask leaf × (found ≡ set row leaf true)) ⊎ ((IsIn mask leaf → ⊥) × (found ≡ row))

module _ (mask : List Bool) (leaf : ℕ) (row found : List Bool) (wide : leaf < length row) (finds : FindsLast mask leaf row found) where
  found_gains : IsIn mask leaf → GainsOne leaf row found
  found_gains in_mask = ⊎_elim
      (λ set_it. subst (GainsOne leaf row) (sym set_it.1) (gains_one row leaf wide))
      (λ kept. absurd (kept.0 in_mask))
      finds

  pub found_long : length found ≡ length row
  found_long = ⊎_elim (λ set_it. ap length set_it.1 ∙ length-set row leaf true) (λ kept. ap length kept.1) finds

  pub found_keeps : (n : ℕ) → IsIn row n → IsIn found n
  found_keeps n is = ⊎_elim
      (λ set_it. (found_gains set_it.0 n).1 (inr is))
      (λ kept. subst (λ (r : List Bool). IsIn r n) (sym kept.1) is)
      finds

  pub found_last : IsIn mask leaf → IsIn found leaf
  found_last in_mask = (found_gains in_mask leaf).1 (inl refl)

  pub found_only : (n : ℕ) → IsIn found n → IsIn row n ⊎ ((leaf ≡ n) × IsIn mask n)
  found_only n is = ⊎_elim
      (λ set_it. ⊎_elim
      (λ here. inr (here, subst (IsIn mask) here set_it.0))
      (λ old. inl old)
      ((found_gains set_it.0 n).0 is))
      (λ kept. inl (subst (λ (r : List Bool). IsIn r n) kept.1 is))
      finds

-- ---- a portal that does not lead on

module _ (world : World) (p : ℕ) (frame : Frame) (number : ℕ) (row : List Bool) where
  -- nothing is found, where no leaf that may still be shown is lost
  looked_none : ((first q : Portal) → IsAt world.portals p first → IsAt world.portals number q → (n : ℕ) → IsIn frame.mask n → IsNextTo world.tree first frame n q → IsIn row n) → IsLookedThrough world p frame number row row None
  looked_none none_lost = record {
    same_length = refl;
    stays = λ n is. is;
    child_is = tt;
    none_missed = λ first q first_is at n in_mask next. inl (none_lost first q first_is at n in_mask next);
  }

  -- and so where the portal does not lead on
  pub looked_not_led : ((q : Portal) → IsAt world.portals number q → LeadsOn world p frame row q → ⊥) → IsLookedThrough world p frame number row row None
  looked_not_led never = looked_none (λ first q first_is at n in_mask next. ⊎_elim
      (λ is. is)
      (λ clear. absurd (next.not_stopped (not_passed (λ passed. never q at (record {
        passed = passed;
        may_enter = next.may_enter;
        leaf = n;
        in_mask = in_mask;
        not_found = not_in_if_clear row n clear;
        wanted = record { first = first; first_is = first_is; target = n; via = next.via; on_way = target_on_way world.tree first q n next.via; not_found = not_in_if_clear row n clear };
      })))))
      (in_or_clear row n))

  -- or the chain stops before it
  pub looked_stopped : (q : Portal) → IsAt world.portals number q → StopsAt frame.state q → IsLookedThrough world p frame number row row None
  looked_stopped q q_is stops = looked_none
      (λ first other first_is at n in_mask next. absurd (next.not_stopped (subst (StopsAt frame.state) (same_portal world.portals number q other q_is at) stops)))

  pub tried_none : (MayHave : ℕ → ℕ → Type 0) → IsLookedThrough world p frame number row row None → IsTried world MayHave p frame number row row None
  tried_none MayHave looked = record { looked = looked; gained = λ n is. inl is; chain = tt; fewer = tt }

  -- all that lies on the way to a leaf for which the portal is next, and that was not found, is wanted via it
  pub next_wanted : (q : Portal) → IsAt world.portals number q → (first : Portal) → IsAt world.portals p first → (n : ℕ) (next : IsNextTo world.tree first frame n q) → (IsIn row n → ⊥) → (m : ℕ) → LiesOnWay world.tree next.via m → IsWantedVia world p row number m
  next_wanted q q_is first first_is n next never m on_way = record { portal = q; portal_is = q_is; wanted = record { first = first; first_is = first_is; target = n; via = next.via; on_way = on_way; not_found = never } }
