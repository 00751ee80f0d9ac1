use Rattle.std.proofs.Common.{ap, sym, ◌∙◌, ◌++◌, ◌∷◌, [], Bool}
use Rattle.qm_contacts.specs.inner.Due.{DueCell}
use Rattle.qm_portal.proofs.VisitedCells.{visited_leaf}
use Rattle.qm_portal.proofs.walk.visit.Goals as goal

pub returns-in_ok-push-in-Leaf-clause-visited : goal.returns-in_ok-push-in-Leaf-clause-visited
returns-in_ok-push-in-Leaf-clause-visited c =
    visited_leaf c.args.tree.now c.args.cell c.in-Leaf.field-0 (sym (ap (λ (d : DueCell). d.child) c.cell.view_is) ∙ c.in-Leaf.is) c.args.due.now.items c.args.pairs.now.items c.args.outside.now.items c.push.new.self.items
    (c.in_ok-push-in-Leaf.ensures.items ∙ ap (λ (b : Bool). c.args.outside.now.items ++ b ∷ []) c.has_walls.ensures)

pub returns-in_ok-visit_node-in-Node-clause-visited :
    goal.returns-in_ok-visit_node-in-Node-clause-visited
returns-in_ok-visit_node-in-Node-clause-visited c = c.in_ok-visit_node-in-Node.ensures.visited c.args.outside.now.items
