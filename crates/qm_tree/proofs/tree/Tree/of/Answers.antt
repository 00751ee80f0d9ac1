use Rattle.std.proofs.Common.{◌≡◌, length, true, false, sym, ◌∙◌, arith}
use Rattle.qm_partition.specs.inner.Parts.{AreParts}
use Rattle.qm_partition.specs.Partition.{Partition}
use Rattle.qm_partition.specs.Numbering.{AreNumbered}
use Rattle.qm_partition.proofs.MadeTrees.{made_of_parts, parts_of_made}
use Rattle.qm_tree.proofs.tree.Tree.of.Goals as goal

pub returns-then-not-are_parts-clause-none : goal.returns-then-not-are_parts-clause-none
returns-then-not-are_parts-clause-none c = λ _ tree made.
    let parts = parts_of_made c.args.planes.items c.args.nodes.items c.args.leaves.items tree made in
    let tested = rw (c.deref.ensures.value, c.deref-2.ensures.value, c.deref-3.ensures.value) at c.are_parts.ensures in
    absurd (let both : false ≡ true = sym c.if-not-are_parts.true ∙ tested.1 parts in cc)

pub invariant_of-result : goal.invariant_of-result
invariant_of-result c =
    let tested = rw (c.deref.ensures.value, c.deref-2.ensures.value, c.deref-3.ensures.value) at c.are_parts.ensures in
    let parts : AreParts c.args.planes.items c.args.nodes.items c.args.leaves.items = tested.0 c.if-not-are_parts.false in
    let many : length c.args.leaves.items ≡ c.len.result = omega (arith, c.len.ensures, c.args.leaves.ok.0) in
    let numbered : (shape : Partition) × AreNumbered shape c.args.nodes.items c.args.leaves.items =
    rw (← c.deref-4.ensures.value) ((c.in_ok-are_numbered.ensures c.args.leaves.items many).0 c.if-not-branch.false) in
    made_of_parts c.args.planes.items c.args.nodes.items c.args.leaves.items parts numbered

pub returns-clause-made : goal.returns-clause-made
returns-clause-made c = invariant_of-result c
