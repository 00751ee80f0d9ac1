-- The leaves that portals enter, read in a list of their own.
use Rattle.std.proofs.Common.{◌≡◌, ℕ, ◌<◌, List, length, get_or, slice_get, Some, All, refl, sym, ap, ◌∙◌, subst, arith}
use Rattle.std.proofs.lemmas.List.{length-map}
use Rattle.std.proofs.lemmas.Option.{get_or_from_slice_get, slice_get_read}
use Rattle.qm_lists.proofs.Places.{slice_get-map_from}
use Rattle.qm_contacts.specs.Portals.{Portal}
use Rattle.qm_contacts.specs.inner.WorldParts.{IsAmong, leaves_to}

module _ (portals : List Portal) (entered : List ℕ) (are : entered ≡ leaves_to portals) (p : ℕ) (within : p < length portals) where
  -- each portal has one
  pub entered_there : p < length entered
  entered_there = omega (arith, within, ap length are ∙ length-map portals (λ (o : Portal). o.to))

  module _ (leaf : ℕ) (read : leaf ≡ get_or entered p leaf) where
    -- it is the leaf that the portal enters
    pub entered_at : (portal : Portal) × (slice_get portals p ≡ Some portal) × (leaf ≡ portal.to)
    entered_at =
        let at = slice_get_read entered (length entered) p leaf refl entered_there read in
        let its = slice_get-map_from (λ (o : Portal). o.to) portals p leaf (subst (λ (all : List ℕ). slice_get all p ≡ Some leaf) are at) in
        (its.0, its.1, sym its.2)

    -- and it is among all leaves
    pub entered_among : (leaves : ℕ) → All (IsAmong leaves) portals → leaf < leaves
    entered_among leaves among =
        let its = entered_at in
        subst (λ (n : ℕ). n < leaves) (sym its.2) (subst (IsAmong leaves) (get_or_from_slice_get portals p its.0 its.0 its.1) (among p its.0 within)).to
