-- The leaves that portals enter, portal by portal.
use Rattle.std.proofs.Common.{◌≡◌, ℕ, ◌+◌, ◌<◌, List, [], ◌∷◌, ◌++◌, length, get_or, Some, slice_get, ⊎_elim, refl, sym, ap, ◌∙◌, arith}
use Rattle.std.proofs.Math.Seq.{get_or-append_seam}
use Rattle.std.proofs.lemmas.Bool.{cases_eq}
use Rattle.std.proofs.lemmas.List.{length-append, get_or_append_left}
use Rattle.std.proofs.lemmas.List.Elements.{All-nil, All-push, Contains-get_or}
use Rattle.std.proofs.lemmas.Option.{slice_get_within}
use Rattle.qm_contacts.specs.Portals.{Portal}
use Rattle.qm_contacts.specs.World.{World, AreLeaving}
use Rattle.qm_base.specs.inner.Following.{leaves_of_world}
use Rattle.qm_base.specs.inner.Entering.{AreEnteredLeaves}
use Rattle.qm_base.proofs.SweepSteps.{leaving_within}
use Rattle.std.specs.Prelude.{All, slice_index_or}

-- ---- how far loops have come

-- the leaves of the portals before a place
pub record EnteredSoFar (world : World) (place : ℕ) (entered : List ℕ) : Type 0 where
  pub one_each : length entered ≡ place
  pub within : All (λ leaf. leaf < leaves_of_world world) entered
  pub each : (q : ℕ) (portal : Portal) → q < place → slice_get world.portals q ≡ Some portal → slice_index_or entered q 0 ≡ portal.to

module _ (world : World) where
  pub entered_none : EnteredSoFar world 0 []
  entered_none = record {
    one_each = refl;
    within = All-nil (λ (leaf : ℕ). leaf < leaves_of_world world);
    each = λ q portal less is. absurd (omega (arith, less));
  }

  pub entered_more : (place : ℕ) (entered : List ℕ) (leaf : ℕ) (portal : Portal) → EnteredSoFar world place entered → slice_get world.portals place ≡ Some portal → leaf ≡ portal.to → leaf < leaves_of_world world →
      EnteredSoFar world (place + 1) (entered ++ leaf ∷ [])
  entered_more place entered leaf portal so_far portal_is to within = record {
    one_each = let one = length-append entered (leaf ∷ []) in let each = so_far.one_each in omega (arith, one, each);
    within = All-push (λ (n : ℕ). n < leaves_of_world world) entered leaf so_far.within within;
    each = λ q other less is. ⊎_elim
        (λ here. at_place q other here is)
        (λ apart. before q other (omega (arith, less, apart)) is)
        (cases_eq q place);
  }
    where
      at_place : (q : ℕ) (other : Portal) → q ≡ place → slice_get world.portals q ≡ Some other → get_or (entered ++ leaf ∷ []) q 0 ≡ other.to
      at_place q other here is =
          let both : Some other ≡ Some portal = sym is ∙ ap (slice_get world.portals) here ∙ portal_is in
          let same : other ≡ portal = cc in
          let at : q ≡ length entered = here ∙ sym so_far.one_each in
          ap (λ (n : ℕ). get_or (entered ++ leaf ∷ []) n 0) at ∙ get_or-append_seam entered leaf [] 0 ∙ to ∙ sym (ap (λ (p : Portal). p.to) same)

      before : (q : ℕ) (other : Portal) → q < place → slice_get world.portals q ≡ Some other → get_or (entered ++ leaf ∷ []) q 0 ≡ other.to
      before q other less is =
          let each = so_far.one_each in
          get_or_append_left entered (leaf ∷ []) 0 q (omega (arith, less, each)) ∙ so_far.each q other less is

  pub entered_all : (place : ℕ) (entered : List ℕ) → length world.portals ≡ place → EnteredSoFar world place entered → AreEnteredLeaves world entered
  entered_all place entered all so_far = record {
    one_each = so_far.one_each ∙ sym all;
    within = so_far.within;
    each = λ q portal is. so_far.each q portal (let less = slice_get_within world.portals q portal is in omega (arith, less, all)) is;
  }

-- of a portal that leaves a leaf: its place is one of theirs, and it enters a leaf
module _ (world : World) (entered : List ℕ) (are : AreEnteredLeaves world entered) (leaf : ℕ) (places : List ℕ) (leaving : AreLeaving world.portals leaf places) (i : ℕ) (within : i < length places) where
  pub place_entered : get_or places i 0 < length entered
  place_entered =
      let one = leaving_within world.portals leaf places leaving i 0 within in
      let each = are.one_each in
      omega (arith, one, each)

  pub leaf_entered : get_or entered (get_or places i 0) 0 < leaves_of_world world
  leaf_entered = are.within (get_or places i 0) 0 place_entered

  pub portal_entered : (portal : Portal) × (slice_get world.portals (get_or places i 0) ≡ Some portal) × (get_or entered (get_or places i 0) 0 ≡ portal.to)
  portal_entered =
      let one = (leaving.leave (get_or places i 0)).0 (Contains-get_or places i 0 within) in
      (one.0, one.1, are.each (get_or places i 0) one.0 one.1)
