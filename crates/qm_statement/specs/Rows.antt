use Rattle.std.specs.Prelude.{◌≡◌, ◌⊎◌, ℕ, Bool, true, false, List, [], ◌∷◌, length, slice_index_or, Contains}
use Rattle.std.specs.List.{range_with_len}
use Rattle.qm_lists.specs.WorkList.{IsIn}
use Rattle.qm_partition.specs.Tree.{Tree}
use Rattle.qm_contacts.specs.NumberedLeaves.{numbered_leaves}
use Rattle.qm_contacts.specs.OwnPortals.{HasOwnPortals}
use Rattle.qm_contacts.specs.Portals.{Portal}
use Rattle.qm_contacts.specs.World.{World}
use Rattle.qm_coarse_rows.specs.CoarseRow.{AreCoarseRows}
use Rattle.qm_coarse_rows.specs.LeafRow.{AreLeafRows}
use Rattle.qm_segments.specs.Sight.{AreSoundRows}
use Rattle.qm_separators.specs.PortalSteps.{IsInChainBound}
use Rattle.qm_chains.specs.Shown.{IsAt}
use Rattle.qm_chains.specs.TurnLists.{AreTurns, IsInReuseOver, LieInReuseOver}

-- The rows that are written with a tree.

-- the world is the tree with its own portals
pub record IsWorldOf (tree : Tree) (world : World) : Type 0 where
  pub is_tree : world.tree ≡ tree
  pub own_portals : HasOwnPortals world

-- the rows of the numbered leaves, over the coarse rows of the portals
pub record AreRowsOverCoarse (world : World) (rows : List (List Bool)) : Type 0 where
  pub portal_rows : List (List Bool)
  pub are_coarse : AreCoarseRows world.portals (length (numbered_leaves world.tree)) portal_rows
  pub are_leaf_rows : AreLeafRows world.portals portal_rows (length (numbered_leaves world.tree)) rows

-- an open chain of portals leads from the leaf of number m to that of number n: its first portal leaves the one, and its last
-- enters the other
pub record IsLedByOpenChain (portals : List Portal) (m n : ℕ) : Type 0 where
  pub first : Portal
  pub listed : Contains portals first
  pub leaves : first.from ≡ m
  pub ends : IsInChainBound portals first n

-- the leaf of number n is in the reuse, over these turns, of a portal that leaves the leaf of number m
pub record IsShownFrom (portals : List Portal) (turns : List (List ℕ)) (m n : ℕ) : Type 0 where
  pub number : ℕ
  pub portal : Portal
  pub portal_is : IsAt portals number portal
  pub leaves : portal.from ≡ m
  pub in_reuse : IsInReuseOver portals turns number n

-- the rows of the numbered leaves, over rows of the portals that have all that is in sight, and lie within the reuse over turns
-- that so many workers took: what the turns of each list may leave, in their order, by open chains over the rows as they stood
-- before. The turns of one worker are those of all portals, each portal's once, in the order of their numbers. A row has another
-- leaf only if an open chain leads there.
pub record AreRowsOverTurns (workers : ℕ) (world : World) (rows : List (List Bool)) : Type 0 where
  pub turns : List (List ℕ)
  pub are_turns : AreTurns workers (length world.portals) turns
  pub alone : workers ≡ 1 → turns ≡ range_with_len 0 (length world.portals) ∷ []
  pub portal_rows : List (List Bool)
  pub are_sound : AreSoundRows world.tree world.portals portal_rows
  pub in_reuse : LieInReuseOver world.portals turns portal_rows
  pub are_leaf_rows : AreLeafRows world.portals portal_rows (length (numbered_leaves world.tree)) rows
  pub only_shown : (m n : ℕ) → IsIn (slice_index_or rows m []) n → (n ≡ m) ⊎ IsShownFrom world.portals turns m n
  pub only_led : (m n : ℕ) → IsIn (slice_index_or rows m []) n → (n ≡ m) ⊎ IsLedByOpenChain world.portals m n

-- rows are coarse with `--fast`, and lie within those bounds, for the number of workers that is asked for, without it
abbrev pub AreRowsAsAsked : Bool → ℕ → World → List (List Bool) → Type 0
AreRowsAsAsked true workers world rows = AreRowsOverCoarse world rows
AreRowsAsAsked false workers world rows = AreRowsOverTurns workers world rows
