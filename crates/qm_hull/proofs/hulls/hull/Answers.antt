use Rattle.qm_hull_trees.specs.HullBoxes.{hull_box}
use Rattle.qm_hull_trees.proofs.BoxesOfHulls.{hull_box_moves}
use Rattle.qm_hull.proofs.BuiltHulls.{built_hull}
use Rattle.qm_hull.proofs.hulls.hull.Goals as goal

pub returns : goal.returns
returns c =
    let built = c.in_ok-tree.ensures in
    let file = c.plain_tree.ensures in
    built_hull c.args.map.now (hull_box c.args.which) (hull_box_moves c.args.which).has_origin c.in_ok-world.world c.in_ok-world.ensures c.plain_tree.result c.in_ok-tree.tree file.plain file.tree
    (record { is_tree = built.tree; points = built.points; contents = built.contents; few = built.few })
