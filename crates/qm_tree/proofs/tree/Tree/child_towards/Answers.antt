use Rattle.std.proofs.Common.{Bool, if◌then◌else◌, sym, ap, ◌∙◌}
use Rattle.std.specs.Ordering.{is_lt}
use Rattle.qm_partition.proofs.Sides.{towards_side}
use Rattle.qm_tree.proofs.tree.Tree.child_towards.Goals as goal

pub returns-then-is_lt : goal.returns-then-is_lt
returns-then-is_lt c =
    let here = c.node-node.result in
    let less = sym c.if-is_lt.true ∙ c.is_lt.ensures ∙ ap is_lt c.side.ensures in
    (here, c.node-node.ensures.value, ap (λ (b : Bool). if b then here.back else here.front) less ∙ towards_side _ here _ _ c.plane.ensures.value)

pub returns-else-is_lt : goal.returns-else-is_lt
returns-else-is_lt c =
    let here = c.node-node.result in
    let less = sym c.if-is_lt.false ∙ c.is_lt.ensures ∙ ap is_lt c.side.ensures in
    (here, c.node-node.ensures.value, ap (λ (b : Bool). if b then here.back else here.front) less ∙ towards_side _ here _ _ c.plane.ensures.value)
