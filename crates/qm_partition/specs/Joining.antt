use Rattle.std.specs.Prelude.{ℕ, Bool, if◌then◌else◌}
use Rattle.qm_contents.specs.Precedence.{is_same_contents}
use Rattle.qm_partition.specs.declared.node.Leaf.{Leaf}
use Rattle.qm_partition.specs.Partition.{Partition, leaf, node}

-- Siblings that are leaves of the same contents become one leaf, from the leaves up.

-- whether two leaves have the same contents
abbrev pub have_same_contents : Leaf → Leaf → Bool
have_same_contents a b = is_same_contents a.contents b.contents

-- one node, whose sides are joined
abbrev pub joined_node : ℕ → Partition → Partition → Partition
joined_node n (leaf a) (leaf b) = if have_same_contents a b then leaf a else node n (leaf a) (leaf b)
joined_node n (leaf a) (node m front back) = node n (leaf a) (node m front back)
joined_node n (node m front back) behind = node n (node m front back) behind

abbrev pub joined : Partition → Partition
joined (leaf found) = leaf found
joined (node n front back) = joined_node n (joined front) (joined back)
