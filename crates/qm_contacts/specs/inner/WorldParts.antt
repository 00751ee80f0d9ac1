use Rattle.std.specs.Prelude.{◌≡◌, ℕ, ◌<◌, List, All, length, map}
use Rattle.qm_partition.specs.Tree.{Tree}
use Rattle.qm_partition.specs.Counting.{leaves_of}
use Rattle.qm_contacts.specs.Portals.{Portal}
use Rattle.qm_contacts.specs.OwnPortals.{HasOwnPortals}
use Rattle.qm_contacts.specs.inner.LeafNumbers.{AreNumbersOf}
use Rattle.qm_contacts.specs.inner.Leaving.{AreLeavingInRows}

-- both leaves of a portal are among so many
pub record IsAmong (leaves : ℕ) (portal : Portal) : Type 0 where
  pub from : portal.from < leaves
  pub to : portal.to < leaves

-- the leaves that portals enter
abbrev pub leaves_to : List Portal → List ℕ
leaves_to portals = map (λ portal. portal.to) portals

-- what is kept of a tree and its own portals: beside them the leaves that they enter, the numbers of the tree's leaves, and the
-- portals that leave each
pub record AreWorldParts (tree : Tree) (portals : List Portal) (entered numbered before begins places : List ℕ) : Type 0 where
  pub own : HasOwnPortals (record { tree = tree; portals = portals })
  pub numbers : AreNumbersOf (leaves_of tree.shape) numbered before
  pub entered_are : entered ≡ leaves_to portals
  pub among : All (IsAmong (length numbered)) portals
  pub leaving : AreLeavingInRows portals (length numbered) begins places
