use Rattle.std.proofs.Common.{◌≡◌, ◌<◌, ℕ, List, sym, ap, ◌∙◌, subst, arith}
use Rattle.std.specs.List.{All}
use Rattle.std.proofs.lemmas.List.{take_all}
use Rattle.std.proofs.lemmas.List.Elements.{All-more}
use Rattle.qm_lists.specs.inner.Steps.{steps_of}
use Rattle.qm_contacts.specs.Leak.{Origin, leaf_of_origin}
use Rattle.qm_contacts.proofs.FloodedLeaves.{first_leak, no_leak}
use Rattle.qm_flood.proofs.leaking.first_leak.Goals as goal

pub returns-then-steps-leaf_at-gt0-clause-some : goal.returns-then-steps-leaf_at-gt0-clause-some
returns-then-steps-leaf_at-gt0-clause-some c =
    let leaf : c.leaf_at.result ≡ leaf_of_origin c.args.tree.now c.origin-item.result = c.leaf_at.ensures.value ∙ ap (λ (o : Origin). leaf_of_origin c.args.tree.now o) c.origin.view_is in
    let some = subst (λ (k : ℕ). 0 < steps_of c.args.steps.now k) leaf c.if-steps-leaf_at-gt0.true in
    first_leak c.args.tree.now c.args.steps.now c.requires.steps.are c.args.origins.now c.loop-origin.origin-index c.origin-item.result c.requires.in_order c.loop-origin-test.true (sym c.origin-item.is) some c.loop-origin.invariant

pub loop-origin-preserved : goal.loop-origin-preserved
loop-origin-preserved c =
    let leaf : c.leaf_at.result ≡ leaf_of_origin c.args.tree.now c.origin-item.result = c.leaf_at.ensures.value ∙ ap (λ (o : Origin). leaf_of_origin c.args.tree.now o) c.origin.view_is in
    let none : steps_of c.args.steps.now c.leaf_at.result ≡ 0 = (let not = c.if-steps-leaf_at-gt0.false in omega (arith, not)) in
    let its : steps_of c.args.steps.now (leaf_of_origin c.args.tree.now c.origin-item.result) ≡ 0 = subst (λ (k : ℕ). steps_of c.args.steps.now k ≡ 0) leaf none in
    All-more (λ (o : Origin). steps_of c.args.steps.now (leaf_of_origin c.args.tree.now o) ≡ 0) c.args.origins.now c.loop-origin.origin-index c.origin-item.result c.loop-origin-test.true c.loop-origin.invariant
    (subst (λ (o : Origin). steps_of c.args.steps.now (leaf_of_origin c.args.tree.now o) ≡ 0) c.origin-item.is its)

pub returns-clause-none : goal.returns-clause-none
returns-clause-none c =
    no_leak c.args.tree.now c.args.steps.now c.requires.steps.are c.args.origins.now
    (subst (λ (list : List Origin). All (λ (o : Origin). steps_of c.args.steps.now (leaf_of_origin c.args.tree.now o) ≡ 0) list) (take_all c.loop-origin.origin-index c.args.origins.now c.loop-origin-test.false) c.loop-origin.invariant)
