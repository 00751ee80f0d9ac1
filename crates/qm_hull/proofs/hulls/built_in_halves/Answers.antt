use Rattle.qm_hull.proofs.BuiltHulls.{built_hull}
use Rattle.qm_hull.proofs.hulls.built_in_halves.Goals as goal

pub returns : goal.returns
returns g c = λ map box origin is.
    let built = c.in_ok-tree.ensures in
    let file = c.plain_tree.ensures in
    built_hull map box origin c.args.world.now is c.plain_tree.result c.in_ok-tree.tree file.plain file.tree
    (record { is_tree = built.tree; points = built.points; contents = built.contents; few = built.few })
