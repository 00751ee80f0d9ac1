use Rattle.std.proofs.Common.{◌≡◌, ◌<◌, length, slice_get, Some, Contains, sym, ◌∙◌, subst, arith}
use Rattle.std.proofs.lemmas.List.{get_or_default}
use Rattle.std.proofs.lemmas.Option.{slice_get_within}
use Rattle.qm_partition.specs.Counting.{leaves_of}
use Rattle.qm_contacts.specs.NumberedLeaves.{numbered_leaves}
use Rattle.qm_contacts.specs.Portals.{leaf_number}
use Rattle.qm_contacts.specs.World.{World}
use Rattle.qm_contacts.proofs.NumberingLeaves.{number_before}
use Rattle.qm_contacts.proofs.Numbers.{leaf_at_number, not_listed}
use Rattle.qm_portal.proofs.worlds.World.number.Goals as goal

pub returns-then-is_numbered : goal.returns-then-is_numbered
returns-then-is_numbered c =
    let parts = c.self.inside in
    let leaf = c.args.leaf in
    let before = parts.numbers.before.items in
    let there = slice_get_within (leaves_of parts.tree.shape) leaf c.leaf.result c.leaf.ensures in
    let long : leaf < length before = omega (arith, there, c.self.invariant.0.numbers.before_are.one_each) in
    let number : c.index.result.now ≡ leaf_number parts.tree leaf = c.index.ensures ∙ get_or_default before leaf c.index.result.now 0 long ∙ number_before parts.tree before leaf c.self.invariant.0.numbers.before_are there in
    let found = leaf_at_number parts.tree leaf c.leaf.result c.leaf.ensures (sym c.is_numbered.ensures ∙ c.if-is_numbered.true) in
    rw number (subst (λ (w : World). slice_get (numbered_leaves w.tree) (leaf_number parts.tree leaf) ≡ Some leaf) c.self.view_is found)

pub returns-else-is_numbered : goal.returns-else-is_numbered
returns-else-is_numbered c =
    let parts = c.self.inside in
    subst (λ (w : World). Contains (numbered_leaves w.tree) c.args.leaf → ⊥) c.self.view_is
    (not_listed parts.tree c.args.leaf c.leaf.result c.leaf.ensures (sym c.is_numbered.ensures ∙ c.if-is_numbered.false))
