use Rattle.std.proofs.Common.{◌≡◌, ℕ, ◌-◌, get_or, refl, sym, ap, ◌∙◌, arith, ⊎_elim}
use Rattle.std.proofs.lemmas.Bool.{cases_lt}
use Rattle.std.proofs.lemmas.List.Elements.{Contains-get_or}
use Rattle.qm_lists.specs.inner.Steps.{steps_of}
use Rattle.qm_contacts.proofs.FloodedLeaves.{touched_within, nearest_at, none_nearer}
use Rattle.qm_flood.proofs.trail.nearest.Goals as goal

pub steps_at-requires : goal.steps_at-requires
steps_at-requires c =
    let tree = c.requires.steps.0 in
    let are = c.requires.steps.1 in
    let others = c.neighbours-other-items.result.now in
    let next = get_or others c.loop-other.other-index 0 in
    let touch = ((c.neighbours-other-items.ensures tree are.are_contacts).touch next).0 (Contains-get_or others c.loop-other.other-index 0 c.loop-other-test.true) in
    let within = touched_within tree c.args.leaf next touch in
    let each = are.are_steps.one_each in
    omega (arith, within, each)

pub returns-then-steps_at-wanted-clause-some : goal.returns-then-steps_at-wanted-clause-some
returns-then-steps_at-wanted-clause-some c = λ tree are.
    let some = c.if-wanted-eq0.false in
    let own = c.steps_at-wanted.ensures in
    let its = c.steps_at.ensures in
    let others = c.neighbours-other-items.result.now in
    let i = c.loop-other.other-index in
    nearest_at tree c.args.leaf others (c.neighbours-other-items.ensures tree are.are_contacts) c.args.steps.now (c.steps_at-wanted.result - 1)
    (omega (arith, some, own)) (omega (arith, some)) i (get_or others i 0) c.loop-other-test.true refl c.loop-other.invariant (sym its ∙ c.if-steps_at-wanted.true)

pub loop-other-preserved : goal.loop-other-preserved
loop-other-preserved c = λ j before is. ⊎_elim
    (λ was. c.loop-other.invariant j was is)
    (λ here. let e : j ≡ c.loop-other.other-index = omega (arith, here, before) in c.if-steps_at-wanted.false (c.steps_at.ensures ∙ ap (λ (i : ℕ). steps_of c.args.steps.now (get_or c.neighbours-other-items.result.now i 0)) (sym e) ∙ is))
    (cases_lt j c.loop-other.other-index)

pub returns-clause-none : goal.returns-clause-none
returns-clause-none c =
    let tree = c.requires.steps.0 in
    let are = c.requires.steps.1 in
    let some = c.if-wanted-eq0.false in
    let own = c.steps_at-wanted.ensures in
    absurd (none_nearer tree c.args.leaf c.neighbours-other-items.result.now (c.neighbours-other-items.ensures tree are.are_contacts) c.args.steps.now (c.steps_at-wanted.result - 1) (omega (arith, some, own)) (omega (arith, some)) are.are_steps.are
    (λ j within. c.loop-other.invariant j (let end = c.loop-other-test.false in omega (arith, within, end))))
