use Rattle.std.specs.Prelude.{◌≡◌, ℕ, Bool, List, length, Contains, ◌↔◌}
use Rattle.qm_lists.specs.WorkList.{IsIn}
use Rattle.qm_partition.specs.Tree.{Tree}
use Rattle.qm_partition.specs.Counting.{leaf_count}
use Rattle.qm_contacts.specs.Reached.{IsReached}
use Rattle.qm_contacts.specs.Leak.{Origin, TakesPart, Leaks}

-- no entity takes part
abbrev pub NoneTakesPart : Tree → List Origin → Type 0
NoneTakesPart tree origins = (origin : Origin) → Contains origins origin → TakesPart tree origin → ⊥

-- the map is sealed: some entity takes part, and none leaks
pub record IsSealed (tree : Tree) (origins : List Origin) : Type 0 where
  pub inside : Origin
  pub listed : Contains origins inside
  pub takes_part : TakesPart tree inside
  pub tight : (origin : Origin) → Contains origins origin → Leaks tree origin → ⊥

-- a leaf is to be filled: the map is sealed, and the outside reaches the leaf
pub record IsToBeFilled (tree : Tree) (origins : List Origin) (k : ℕ) : Type 0 where
  pub sealed : IsSealed tree origins
  pub reached : IsReached tree k

-- a row has exactly the leaves that are to be filled
pub record IsFilledRow (tree : Tree) (origins : List Origin) (row : List Bool) : Type 0 where
  pub one_each : length row ≡ leaf_count tree.shape
  pub filled : (k : ℕ) → IsIn row k ↔ IsToBeFilled tree origins k
