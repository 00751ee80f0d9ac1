use Rattle.std.specs.Prelude.{ℕ, ◌+◌, Bool, true, false, List, [], ◌∷◌, ◌++◌, map, flat_map}
use Rattle.qm_partition.specs.Partition.{Partition, leaf, node}
use Rattle.qm_partition.specs.Tree.{Tree}
use Rattle.qm_partition.specs.Ways.{Way, after_step}
use Rattle.qm_partition.specs.Numbering.{nodes_after, leaves_after}

-- Two leaves meet at the node that parts them: the one is below its front, the other below its back.

-- a leaf below a node, by its number, and the way that leads down to it from the child of that node
pub record LeafBelow : Type 0 where
  pub leaf : ℕ
  pub way : Way

-- the same leaf as seen from one node higher up
abbrev pub seen_from : ℕ → Bool → LeafBelow → LeafBelow
seen_from plane to_front below = record { leaf = below.leaf; way = after_step plane to_front below.way }

-- the leaves of a partition, numbered from k on, in their order
abbrev pub leaves_below : Partition → ℕ → List LeafBelow
leaves_below (leaf found) k = record { leaf = k; way = [] } ∷ []
leaves_below (node plane front back) k =
    map (seen_from plane true) (leaves_below front k)
    ++ map (seen_from plane false) (leaves_below back (leaves_after front k))

-- a node, by its number and that of its plane, the way from the root down to it, and one leaf on either side
pub record Meeting : Type 0 where
  pub node : ℕ
  pub plane : ℕ
  pub above : Way
  pub front : LeafBelow
  pub back : LeafBelow

abbrev pub meeting_at : ℕ → ℕ → Way → LeafBelow → LeafBelow → Meeting
meeting_at n plane above front back = record { node = n; plane = plane; above = above; front = front; back = back }

-- the meetings at one node, in the order of the leaves in front and then of those behind
abbrev pub meetings_at : ℕ → ℕ → Way → List LeafBelow → List LeafBelow → List Meeting
meetings_at n plane above fronts backs = flat_map (λ front. map (meeting_at n plane above front) backs) fronts

-- a way with one step behind it
abbrev pub then_step : Way → ℕ → Bool → Way
then_step way plane to_front = way ++ record { plane = plane; front = to_front } ∷ []

-- the meetings at all nodes of a partition, whose nodes are numbered from n on and whose leaves from k on, and to which
-- this way leads; in the order of the nodes
abbrev pub meetings_below : Partition → ℕ → ℕ → Way → List Meeting
meetings_below (leaf found) n k above = []
meetings_below (node plane front back) n k above =
    let n_back = nodes_after front (n + 1) in
    let k_back = leaves_after front k in
    meetings_at n plane above (leaves_below front k) (leaves_below back k_back)
    ++ (meetings_below front (n + 1) k (then_step above plane true)
    ++ meetings_below back n_back k_back (then_step above plane false))

-- the meetings of a tree: each two leaves, once, in the order of node, leaf in front and leaf behind
abbrev pub meetings : Tree → List Meeting
meetings tree = meetings_below tree.shape 0 0 []
