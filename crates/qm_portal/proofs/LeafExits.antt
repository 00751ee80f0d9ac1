-- The exits of a leaf, among those of all leaves.
use Rattle.std.proofs.Common.{ℕ, ◌-◌, ◌<◌, List, [], ◌∷◌, ◌++◌, All, map, take, drop, refl, sym, ap, ◌∙◌, subst}
use Rattle.std.specs.List.{slice_range}
use Rattle.std.proofs.lemmas.List.{take-map, drop-map, map-append}
use Rattle.std.proofs.lemmas.List.Elements.{All-nil, All-push, All-take, All-drop, All-weaker}
use Rattle.std.proofs.lemmas.Option.{slice_get_within, get_or_from_slice_get}
use Rattle.qm_contacts.specs.Portals.{Portal}
use Rattle.qm_contacts.specs.World.{AreLeaving}
use Rattle.qm_contacts.specs.inner.WorldParts.{IsAmong}
use Rattle.qm_portal.specs.declared.exit.Exit.{Exit}
use Rattle.qm_portal.specs.Exits.{IsExitOf}
use Rattle.qm_portal.specs.inner.WorldExits.{AreExits}

module _ (portals : List Portal) where
  pub no_exits : AreExits portals [] []
  no_exits = record { places_are = refl; each = All-nil (IsExitOf portals) }

  pub one_exit : (places : List ℕ) (exits : List Exit) (exit : Exit) → AreExits portals places exits → IsExitOf portals exit → AreExits portals (places ++ exit.portal ∷ []) (exits ++ exit ∷ [])
  one_exit places exits exit are is = record {
    places_are = map-append (λ (e : Exit). e.portal) exits (exit ∷ []) ∙ ap (λ (done : List ℕ). done ++ exit.portal ∷ []) are.places_are;
    each = All-push (IsExitOf portals) exits exit are.each is;
  }

  -- the leaf that an exit enters is among all
  enters_among : (leaves : ℕ) → All (IsAmong leaves) portals → (exit : Exit) → IsExitOf portals exit → exit.to < leaves
  enters_among leaves among exit is =
      let its = among exit.portal is.portal (slice_get_within portals exit.portal is.portal is.portal_is) in
      subst (λ (n : ℕ). n < leaves) (sym is.to_is) (subst (IsAmong leaves) (get_or_from_slice_get portals exit.portal is.portal is.portal is.portal_is) its).to

  module _ (places : List ℕ) (exits : List Exit) (are : AreExits portals places exits) (first end : ℕ) where
    pub leaving_exits : (n : ℕ) → AreLeaving portals n (slice_range places first end) → AreLeaving portals n (map (λ exit. exit.portal) (slice_range exits first end))
    leaving_exits n = subst (AreLeaving portals n)
        (ap (λ all. slice_range all first end) (sym are.places_are)
        ∙ ap (take (end - first)) (drop-map (λ (e : Exit). e.portal) first exits)
        ∙ take-map (λ (e : Exit). e.portal) (end - first) (drop first exits))

    pub each_exit : All (IsExitOf portals) (slice_range exits first end)
    each_exit = All-take (IsExitOf portals) (end - first) (drop first exits) (All-drop (IsExitOf portals) first exits are.each)

    pub exits_among : (leaves : ℕ) → All (IsAmong leaves) portals → All (λ exit. exit.to < leaves) (slice_range exits first end)
    exits_among leaves among = All-weaker (IsExitOf portals) (λ (e : Exit). e.to < leaves) (enters_among leaves among) (slice_range exits first end) each_exit
