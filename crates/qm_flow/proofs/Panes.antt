-- What is done with the pane of a portal is done with the portal.
use Rattle.std.proofs.Common.{◌≡◌, ℕ, List, sym, subst}
use Rattle.qm_space.specs.Plane.{Plane}
use Rattle.qm_convex.specs.Winding.{Winding}
use Rattle.qm_contacts.specs.Portals.{Portal}
use Rattle.qm_separators.specs.ChainState.{ChainState}
use Rattle.qm_separators.specs.ChainStep.{Blocks, StepsTo}
use Rattle.qm_separators.specs.MayPass.{MayPass}
use Rattle.qm_separators.specs.PortalSteps.{StepsThrough}
use Rattle.qm_chains.specs.Shown.{IsAt}
use Rattle.qm_chains.proofs.TriedPortals.{same_portal}

module _ (portals : List Portal) (number : ℕ) (winding : Winding) (into : Plane) (pane : (p : Portal) × IsAt portals number p × (winding ≡ p.winding) × (into ≡ p.into)) (inside state : ChainState) (inside_is : inside ≡ state) where
  pub steps_on : (q : Portal) → IsAt portals number q → (next : ChainState) → StepsTo inside winding into next → StepsThrough state q next
  steps_on q at next leads = subst (λ (portal : Portal). StepsThrough state portal next) (same_portal portals number pane.0 q pane.1 at)
      (subst (λ (h : Plane). StepsTo state pane.0.winding h next) pane.3
      (subst (λ (w : Winding). StepsTo state w into next) pane.2
      (subst (λ (s : ChainState). StepsTo s winding into next) inside_is leads)))

  pub blocked_there : Blocks inside winding into → Blocks state pane.0.winding pane.0.into
  blocked_there blocks = subst (λ (h : Plane). Blocks state pane.0.winding h) pane.3
      (subst (λ (w : Winding). Blocks state w into) pane.2
      (subst (λ (s : ChainState). Blocks s winding into) inside_is blocks))

  pub passes_there : (q : Portal) → IsAt portals number q → MayPass state q.winding q.into → MayPass inside winding into
  passes_there q at passes = subst (λ (s : ChainState). MayPass s winding into) (sym inside_is)
      (subst (λ (w : Winding). MayPass state w into) (sym pane.2)
      (subst (λ (h : Plane). MayPass state pane.0.winding h) (sym pane.3)
      (subst (λ (portal : Portal). MayPass state portal.winding portal.into) (same_portal portals number q pane.0 at pane.1) passes)))
