use Rattle.std.proofs.Common.{◌≡◌, ◌∙◌, true, false, take, refl, sym, subst}
use Rattle.std.proofs.lemmas.List.{take_all}
use Rattle.qm_lists.proofs.Places.{take-read}
use Rattle.qm_separators.specs.inner.Found.{HasCornersBeyond}
use Rattle.qm_separators.proofs.NarrowedSteps.{none_beyond, one_beyond}
use Rattle.qm_narrow.proofs.passing.is_beyond.Goals as goal

pub loop-plane-init : goal.loop-plane-init
loop-plane-init c = none_beyond c.args.winding.now

pub returns-then-not-has_corner_in_front : goal.returns-then-not-has_corner_in_front
returns-then-not-has_corner_in_front c = (
  (λ is. let never : false ≡ true = is in cc),
  (λ beyond. sym c.if-not-has_corner_in_front.true ∙ c.has_corner_in_front.ensures.1 (beyond c.plane-item.result (c.loop-plane.plane-index, c.loop-plane-test.true, sym c.plane-item.is))),
)

pub loop-plane-preserved : goal.loop-plane-preserved
loop-plane-preserved c = subst (HasCornersBeyond c.args.winding.now) (sym (take-read c.args.planes.now c.loop-plane.plane-index c.plane-item.result c.loop-plane-test.true c.plane-item.is))
    (one_beyond c.args.winding.now (take c.loop-plane.plane-index c.args.planes.now) c.plane-item.result c.loop-plane.invariant (c.has_corner_in_front.ensures.0 c.if-not-has_corner_in_front.false))

pub returns : goal.returns
returns c = ((λ _. subst (HasCornersBeyond c.args.winding.now) (take_all c.loop-plane.plane-index c.args.planes.now c.loop-plane-test.false) c.loop-plane.invariant), (λ _. refl))
