use Rattle.std.specs.Prelude.{◌≡◌, ℕ, List, [], ◌∷◌, ◌++◌}
use Rattle.qm_partition.specs.declared.node.Node.{Node as NodeRecord}
use Rattle.qm_partition.specs.declared.node.Child.{Child}
use Rattle.qm_partition.specs.declared.node.Child.TheVariants.{Node}

-- a node of this plane and number takes the two children on top of those that wait, its front first, and waits in their place
pub record TakesTwo (plane number : ℕ) (old_waiting new_waiting : List Child) (old_nodes new_nodes : List NodeRecord) : Type 0 where
  pub others : List Child
  pub front : Child
  pub back : Child
  pub taken : old_waiting ≡ (others ++ back ∷ []) ++ front ∷ []
  pub waits : new_waiting ≡ others ++ Node number ∷ []
  pub gained : new_nodes ≡ old_nodes ++ record { plane = plane; front = front; back = back } ∷ []
