use Rattle.std.proofs.Common.{length, sym, ◌∙◌}
use Rattle.std.proofs.lemmas.List.{with_items_is}
use Rattle.qm_tree.specs.inner.MarkedBelow.{AreMarkedBelow}
use Rattle.qm_tree.proofs.Filled.{marked_parts}
use Rattle.qm_tree.proofs.tree.Tree.with_filled.Goals as goal

pub invariant_of-result : goal.invariant_of-result
invariant_of-result c =
    let parts = c.self.inside in
    let marked : AreMarkedBelow (length parts.leaves.items) c.args.filled.now parts.leaves.items c.mark_filled.new.leaves = rw c.deref_mut.ensures.value at c.mark_filled.ensures in
    rw (with_items_is parts.leaves c.mark_filled.new.leaves (marked.same_count ∙ sym parts.leaves.ok.0))
    (marked_parts c.args.filled.now parts.leaves.items c.args.self parts.planes.items parts.nodes.items c.mark_filled.new.leaves c.self.view_is c.self.invariant marked).1

pub returns : goal.returns
returns c =
    let parts = c.self.inside in
    let marked : AreMarkedBelow (length parts.leaves.items) c.args.filled.now parts.leaves.items c.mark_filled.new.leaves = rw c.deref_mut.ensures.value at c.mark_filled.ensures in
    rw (with_items_is parts.leaves c.mark_filled.new.leaves (marked.same_count ∙ sym parts.leaves.ok.0))
    (marked_parts c.args.filled.now parts.leaves.items c.args.self parts.planes.items parts.nodes.items c.mark_filled.new.leaves c.self.view_is c.self.invariant marked).0
