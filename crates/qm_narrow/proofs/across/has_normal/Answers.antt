use Rattle.std.proofs.Common.{◌≡◌, true, false, List, take, refl, sym, subst, ◌∙◌}
use Rattle.std.proofs.lemmas.List.{take_all}
use Rattle.qm_lists.proofs.Places.{take-read}
use Rattle.qm_space.specs.Plane.{Plane}
use Rattle.qm_narrow.specs.inner.FoundPlanes.{HasNormalAmong}
use Rattle.qm_narrow.proofs.ListedNormals.{none_along, none_along_yet, has_along}
use Rattle.qm_narrow.proofs.across.has_normal.Goals as goal

pub loop-one-init : goal.loop-one-init
loop-one-init c = none_along c.args.along.now

pub loop-one-preserved : goal.loop-one-preserved
loop-one-preserved c = λ among.
    none_along_yet (take c.loop-one.one-index c.args.planes.now) c.one-item.result c.args.along.now c.loop-one.invariant
    (λ same. let is = c.is_along.ensures.1 same in let not = c.if-is_along.false in let never : false ≡ true = sym not ∙ is in cc)
    (subst (λ (l : List Plane). HasNormalAmong l c.args.along.now) (take-read c.args.planes.now c.loop-one.one-index c.one-item.result c.loop-one-test.true c.one-item.is) among)

pub returns-then-is_along : goal.returns-then-is_along
returns-then-is_along c = ((λ _. has_along c.args.planes.now c.loop-one.one-index c.one-item.result c.args.along.now c.loop-one-test.true c.one-item.is (c.is_along.ensures.0 c.if-is_along.true)), (λ _. refl))

pub returns : goal.returns
returns c = ((λ is. let never : false ≡ true = is in cc), (λ among. absurd (c.loop-one.invariant (subst (λ (l : List Plane). HasNormalAmong l c.args.along.now) (sym (take_all c.loop-one.one-index c.args.planes.now c.loop-one-test.false)) among))))
