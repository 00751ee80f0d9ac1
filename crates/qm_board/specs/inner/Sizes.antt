use Rattle.std.specs.Prelude.{◌≡◌, ℕ, ◌+◌, ◌*◌, ◌^◌, ◌<◌, length}
use Rattle.qm_contacts.specs.NumberedLeaves.{numbered_leaves}
use Rattle.qm_contacts.specs.World.{World}
use Rattle.qm_board.specs.WorldSets.{width_of}

-- how many words there are: one for the ticket, one for each portal, and the rows; they can be counted
pub record IsSized (world : World) (words portals width leaves : ℕ) : Type 0 where
  pub portals_are : portals ≡ length world.portals
  pub leaves_are : leaves ≡ length (numbered_leaves world.tree)
  pub width_is : width ≡ width_of world
  pub words_are : words ≡ (1 + portals) + portals * width
  pub counted : (1 + portals) + portals * width < 2 ^ 64
