use Rattle.std.specs.Prelude.{◌≡◌, ℕ, Bool, List, ◌↔◌}
use Rattle.qm_partition.specs.Tree.{Tree}
use Rattle.qm_partition.specs.Marked.{marked_tree, IsFilledLeaf}
use Rattle.qm_contacts.specs.Leak.{Origin, TakesPart, leaf_of_origin}
use Rattle.qm_contacts.specs.Filled.{IsToBeFilled, IsFilledRow}
use Rattle.qm_contacts.specs.PortalChain.{IsChained}

-- the tree that is written: that of the map, with exactly the leaves filled that are to be filled
pub record IsMarked (tree : Tree) (origins : List Origin) (written : Tree) : Type 0 where
  pub row : List Bool
  pub are_filled : IsFilledRow tree origins row
  pub is_marked : written ≡ marked_tree row tree
  pub filled : (k : ℕ) → IsFilledLeaf written k ↔ IsToBeFilled tree origins k

-- an entity that does not stand in solid is joined to no filled leaf by a chain of portals of the map's tree
abbrev pub IsApartFromFilled : Tree → List Origin → Origin → Type 0
IsApartFromFilled tree origins origin = TakesPart tree origin → (k : ℕ) → IsToBeFilled tree origins k → IsChained tree k (leaf_of_origin tree origin) → ⊥
