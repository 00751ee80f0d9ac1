use Rattle.std.proofs.Common.{◌∙◌, ℕ, List, subst, refl}
use Rattle.qm_contacts.specs.Filled.{IsSealed}
use Rattle.qm_contacts.proofs.FloodedLeaves.{filled_by_steps}
use Rattle.qm_flood.specs.inner.Filling.{HasThoseWithSteps}
use Rattle.qm_flood.proofs.flooding.flood.Goals as goal

pub returns-in-None : goal.returns-in-None
returns-in-None c =
    let tree = c.args.tree.now in
    let origins = c.args.origins.now in
    let inside = c.if-not-any_takes_part.ensures.0 refl in
    let sealed : IsSealed tree origins = record {
      inside = inside.1;
      listed = (inside.0, inside.2, inside.3);
      takes_part = inside.4;
      tight = c.in-None.ensures.none;
    } in
    let steps = c.in_ok-steps.steps.items in
    let row = c.in_ok-filled_row-in-None.field-0 in
    let has = subst (λ (list : List ℕ). HasThoseWithSteps list row) c.deref-in-None.ensures.value c.in_ok-filled_row-in-None.ensures in
    let are = c.in_ok-steps.ensures in
    (sealed, filled_by_steps tree steps are.are origins row sealed (has.one_each ∙ are.one_each) has.places)
