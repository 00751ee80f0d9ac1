-- What lines need that are drawn from a portal, and what they do to its row.
use Rattle.std.specs.Prelude.{◌≡◌, ◌<◌, Bool, List, length}
use Rattle.qm_contacts.specs.NumberedLeaves.{numbered_leaves}
use Rattle.qm_contacts.specs.World.{World}
use Rattle.qm_contacts.specs.OwnPortals.{HasOwnPortals}
use Rattle.qm_sight.specs.InCeiling.{IsInCeiling}
use Rattle.qm_lines.specs.Gained.{HasGainedShown}
use Rattle.qm_lines.specs.declared.first_portal.FirstPortal.{FirstPortal}

-- a source that answers about this world may be asked what lines from the portal show, for a row of the world's leaves
pub record MayDraw (first : FirstPortal) (answered : World) (row : List Bool) : Type 0 where
  pub portal : first.portal < length first.world.now.portals
  pub own_portals : HasOwnPortals first.world.now
  pub same_world : answered ≡ first.world.now
  pub wide : length row ≡ length (numbered_leaves first.world.now.tree)

-- the row has gained leaves that open chains from the portal show, over these ceilings
abbrev pub HasGainedFrom : FirstPortal → List (List Bool) → List Bool → List Bool → Type 0
HasGainedFrom first ceilings old new = HasGainedShown first.world.now.portals (IsInCeiling ceilings) first.portal old new

-- lines were drawn: what the row has gained is shown over these ceilings, and the source went on
pub record HasDrawn (first : FirstPortal) (ceilings : List (List Bool)) (WentOn : Type 0) (old new : List Bool) : Type 0 where
  pub shown : HasGainedFrom first ceilings old new
  pub on : WentOn
