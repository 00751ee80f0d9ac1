use Rattle.std.proofs.Common.{◌<◌, length, slice_get, refl, sym, ap, ◌∙◌, arith}
use Rattle.std.proofs.lemmas.Option.{slice_get_read}
use Rattle.qm_contacts.specs.NumberedLeaves.{numbered_leaves}
use Rattle.qm_contacts.specs.World.{World}
use Rattle.qm_contacts.proofs.Numbers.{leaf_within}
use Rattle.qm_portal.proofs.worlds.World.tree_leaf.Goals as goal

pub returns-clause-within : goal.returns-clause-within
returns-clause-within c =
    let parts = c.self.inside in
    let numbered = parts.numbers.numbered.items in
    let listed = c.self.invariant.0.numbers.numbered_are ∙ ap (λ (w : World). numbered_leaves w.tree) c.self.view_is in
    let there : c.args.n < length numbered = omega (arith, c.requires, ap length listed) in
    let at = slice_get_read numbered (length numbered) c.args.n c.index.result.now refl there c.index.ensures in
    leaf_within c.args.self.now.tree c.args.n c.index.result.now (ap (λ all. slice_get all c.args.n) (sym listed) ∙ at)
