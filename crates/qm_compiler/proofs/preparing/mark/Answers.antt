use Rattle.std.proofs.Common.{refl, sym, subst}
use Rattle.qm_partition.specs.Tree.{Tree}
use Rattle.qm_contacts.specs.Contacts.{AreContacts}
use Rattle.qm_contacts.proofs.MarkedTrees.{marked_contacts}
use Rattle.qm_compiler.specs.inner.Prepared.{marked_of}
use Rattle.qm_compiler.proofs.preparing.mark.Goals as goal

pub with_filled-tree-requires : goal.with_filled-tree-requires
with_filled-tree-requires c = rw c.in_ok-filled.was at c.requires.one_each

pub world-requires : goal.world-requires
world-requires c =
    subst (λ (tree : Tree). AreContacts tree c.args.contacts.now) (sym c.with_filled-tree.ensures)
    (marked_contacts c.in_ok-filled.filled c.args.built.tree c.args.contacts.now c.requires.contacts)

pub returns : goal.returns
unfolding marked_of
returns c = record {
  row = c.in_ok-filled.filled;
  found_is = c.in_ok-filled.was;
  is_marked = rw c.with_filled-tree.ensures (rw (rw c.with_filled-tree.ensures at c.in_ok-world.ensures) refl);
}
