use Rattle.std.proofs.Common.{◌≡◌, ◌<◌, length, refl, arith, Some, slice_get}
use Rattle.std.proofs.lemmas.Option.{slice_get_read}
use Rattle.qm_partition.specs.Numbering.{nodes_of}
use Rattle.qm_partition.specs.Arrays.{partition_of}
use Rattle.qm_partition.proofs.Counts.{nodes-count}
use Rattle.qm_partition.proofs.PlacedParts.{each_node_plane}
use Rattle.qm_tree.proofs.tree.Tree.node.Goals as goal
use Rattle.qm_tree.proofs.tree.Tree.node.Goals.{After-index}

pub index-requires : goal.index-requires
index-requires c =
    let within = rw (← c.self.view_is) at c.requires in
    omega (arith, nodes-count _ _ _ c.self.invariant.numbered)

-- what stands at the node's number
node_at : (c : After-index) → slice_get (nodes_of (partition_of c.self.inside.nodes.items c.self.inside.leaves.items) 0 0) c.args.n ≡ Some c.index.result.now
node_at c =
    let asked = rw (← c.self.view_is) at c.requires in
    let within : c.args.n < length c.self.inside.nodes.items = omega (arith, nodes-count _ _ _ c.self.invariant.numbered) in
    rw (← c.self.invariant.numbered.nodes_are) (slice_get_read _ _ _ _ refl within c.index.ensures)

pub returns-clause-value : goal.returns-clause-value
returns-clause-value c = rw (← c.self.view_is) (node_at (goal.at.returns-clause-value c).After-index)

pub returns-clause-plane : goal.returns-clause-plane
returns-clause-plane c =
    rw (← c.self.view_is) (each_node_plane (λ p. p < length c.self.inside.planes.items) _ 0 0 c.args.n c.index.result.now c.self.invariant.well_made.names (node_at (goal.at.returns-clause-plane c).After-index))
