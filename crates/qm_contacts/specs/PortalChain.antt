use Rattle.std.specs.Prelude.{◌≡◌, ℕ, true, Some, slice_get}
use Rattle.qm_lists.specs.Reach.{Reach}
use Rattle.qm_partition.specs.declared.node.Leaf.{Leaf}
use Rattle.qm_partition.specs.Tree.{Tree}
use Rattle.qm_partition.specs.Counting.{leaves_of}
use Rattle.qm_contacts.specs.Contact.{Touch}
use Rattle.qm_contacts.specs.NumberedLeaves.{is_numbered}

-- a portal leads from the leaf a to the leaf b: they touch, both are numbered, and their contents are equal
pub record IsPortalBetween (tree : Tree) (a b : ℕ) : Type 0 where
  pub touch : Touch tree a b
  pub from : Leaf
  pub to : Leaf
  pub from_is : slice_get (leaves_of tree.shape) a ≡ Some from
  pub to_is : slice_get (leaves_of tree.shape) b ≡ Some to
  pub numbered : is_numbered from ≡ true
  pub contents : from.contents ≡ to.contents

-- a chain of portals leads from the leaf a to the leaf b
abbrev pub IsChained : Tree → ℕ → ℕ → Type 0
IsChained tree a b = Reach (λ k. k ≡ a) (IsPortalBetween tree) b
