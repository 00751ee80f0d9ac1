use Rattle.std.specs.Prelude.{ℕ, ◌-◌, ◌≤◌}
use Rattle.qm_partition.specs.declared.node.Child.{Child}
use Rattle.qm_partition.specs.declared.node.Child.TheVariants.{Node, Leaf}

-- how many leaves are in front of the node of number n, of whose leaves the first has the number k, by the child behind it: as
-- there is one leaf more than nodes, as many as there are numbers from n up to the node behind
abbrev pub leaves_in_front : Child → ℕ → ℕ → ℕ
leaves_in_front (Leaf j) n k = j - k
leaves_in_front (Node m) n k = m - n

-- the child is not numbered before the node, or before its first leaf
abbrev pub ComesBehind : Child → ℕ → ℕ → Type 0
ComesBehind (Leaf j) n k = k ≤ j
ComesBehind (Node m) n k = n ≤ m
