use Rattle.std.specs.Prelude.{◌≡◌, ℕ, Bool, true, false, Some, slice_get}
use Rattle.qm_lists.specs.Reach.{Reach}
use Rattle.qm_contents.specs.declared.contents.Contents.{Contents}
use Rattle.qm_contents.specs.declared.contents.Contents.TheVariants.{Solid, Sky}
use Rattle.qm_partition.specs.declared.node.Leaf.{Leaf}
use Rattle.qm_partition.specs.Tree.{Tree}
use Rattle.qm_partition.specs.Counting.{leaves_of}
use Rattle.qm_contacts.specs.Contact.{Touch}
use Rattle.qm_contacts.specs.Outside.{TouchesOutside}

-- What is reached from the outside: solid and sky stop it.

abbrev pub is_passable : Contents → Bool
is_passable Solid = false
is_passable Sky = false
is_passable _ = true

-- the leaf of number k can be passed
pub record IsPassable (tree : Tree) (k : ℕ) : Type 0 where
  pub found : Leaf
  pub leaf_is : slice_get (leaves_of tree.shape) k ≡ Some found
  pub passable : is_passable found.contents ≡ true

-- the outside reaches the passable leaves that touch it
pub record Begins (tree : Tree) (k : ℕ) : Type 0 where
  pub outside : TouchesOutside tree k
  pub passable : IsPassable tree k

-- and goes on from a leaf to the passable leaves that it touches
pub record FloodsInto (tree : Tree) (a b : ℕ) : Type 0 where
  pub touch : Touch tree a b
  pub passable : IsPassable tree b

-- the least set of leaves with these two
abbrev pub IsReached : Tree → ℕ → Type 0
IsReached tree k = Reach (Begins tree) (FloodsInto tree) k
