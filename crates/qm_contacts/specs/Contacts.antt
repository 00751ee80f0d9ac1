use Rattle.std.specs.Prelude.{◌≡◌, ℕ, Bool, List, length, Contains, ◌↔◌}
use Rattle.std.specs.List.Sorted.{IsStrictlyIncreasing}
use Rattle.qm_lists.specs.WorkList.{IsIn}
use Rattle.qm_partition.specs.Tree.{Tree}
use Rattle.qm_partition.specs.Counting.{leaf_count}
use Rattle.qm_partition.specs.Ways.{HasPoints}
use Rattle.qm_contacts.specs.Meeting.{meetings}
use Rattle.qm_contacts.specs.Contact.{Touch}
use Rattle.qm_contacts.specs.Touching.{Touching, AreTouchings}
use Rattle.qm_contacts.specs.Outside.{TouchesOutside}

-- All contacts of a tree: its touching pairs, and its leaves that touch the outside.

pub record Contacts : Type 0 where
  pub touchings : List Touching
  pub outside : List Bool

-- of a tree each of whose leaves has a point: exactly the touching pairs, in their order, and a row with exactly the leaves
-- that touch the outside
pub record AreContacts (tree : Tree) (contacts : Contacts) : Type 0 where
  pub points : HasPoints tree
  pub touching : AreTouchings tree.planes (meetings tree) contacts.touchings
  pub one_each : length contacts.outside ≡ leaf_count tree.shape
  pub outside : (k : ℕ) → IsIn contacts.outside k ↔ TouchesOutside tree k

-- exactly the leaves that touch a leaf, ascending
pub record AreNeighbours (tree : Tree) (k : ℕ) (neighbours : List ℕ) : Type 0 where
  pub ascending : IsStrictlyIncreasing neighbours
  pub touch : (other : ℕ) → Contains neighbours other ↔ Touch tree k other
