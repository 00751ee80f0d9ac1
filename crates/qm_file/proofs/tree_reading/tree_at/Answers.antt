use Rattle.std.proofs.Common.{arith}
use Rattle.qm_formats.specs.FileLayout.{planes_layout}
use Rattle.qm_formats.proofs.ExactFile.{header_exact, right_counts}
use Rattle.qm_file.specs.inner.SeenHeader.{seen_header}
use Rattle.qm_file.proofs.Answered.{made_of_read}
use Rattle.qm_file.proofs.tree_reading.tree_at.Goals as goal

pub nodes_at-requires : goal.nodes_at-requires
nodes_at-requires c =
    let header = seen_header c.args.header.now in
    let found = header_exact.found c.args.bytes.now 0 header c.args.at (λ i. omega (arith, c.type_inv.bytes i)) (omega arith) c.requires in
    (right_counts header found.right).one_leaf_more

pub tree_of-requires : goal.tree_of-requires
unfolding planes_layout
tree_of-requires c =
    made_of_read c.args.bytes.now (seen_header c.args.header.now) (λ i. omega (arith, c.type_inv.bytes i)) c.requires c.in_ok-planes.ensures.gives c.in_ok-nodes.ensures c.in_ok-leaves.ensures
