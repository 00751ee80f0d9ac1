use Rattle.std.specs.Prelude.{◌≡◌, ℕ, List, All, map}
use Rattle.qm_contacts.specs.Portals.{Portal}
use Rattle.qm_portal.specs.declared.exit.Exit.{Exit}
use Rattle.qm_portal.specs.Exits.{IsExitOf}

-- the portals at some places as exits, in the order of the places
pub record AreExits (portals : List Portal) (places : List ℕ) (exits : List Exit) : Type 0 where
  pub places_are : map (λ exit. exit.portal) exits ≡ places
  pub each : All (IsExitOf portals) exits
