-- A node that takes two children is numbered.
use Rattle.std.proofs.Common.{◌≡◌, ◌<◌, ℕ, ◌+◌, ◌-◌, List, length, get_or, subst}
use Rattle.qm_partition.specs.declared.node.Node.{Node as NodeRecord}
use Rattle.qm_partition.specs.declared.node.Leaf.{Leaf as LeafRecord}
use Rattle.qm_partition.specs.declared.node.Child.{Child}
use Rattle.qm_partition.specs.declared.visit.Visit.{Visit}
use Rattle.qm_partition.specs.declared.visit.Visit.TheVariants.{Node}
use Rattle.qm_partition.proofs.NumberingWalks.{IsNumbering, numbering_node}
use Rattle.qm_tree.specs.inner.TakesTwo.{TakesTwo}

pub numbering_takes : (walk : List Visit) (i : ℕ) (some : Visit) (old new : List Child) (old_nodes new_nodes : List NodeRecord) (leaves : List LeafRecord) (n k p : ℕ) → i < length walk → get_or walk i some ≡ Node p → IsNumbering walk i old old_nodes leaves n k → TakesTwo p (n - 1) old new old_nodes new_nodes → IsNumbering walk (i + 1) new new_nodes leaves (n - 1) k
numbering_takes walk i some old new old_nodes new_nodes leaves n k p within is numbering takes =
    let before = subst (λ (waiting : List Child). IsNumbering walk i waiting old_nodes leaves n k) takes.taken numbering in
    rw (takes.waits, takes.gained) (numbering_node walk i some within takes.others old_nodes leaves n k p takes.front takes.back before is)
