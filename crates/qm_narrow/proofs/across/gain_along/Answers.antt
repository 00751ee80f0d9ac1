use Rattle.std.proofs.Common.{List, subst, sym, false, true, ◌≡◌, ◌∙◌}
use Rattle.qm_space.specs.Plane.{Plane}
use Rattle.qm_separators.specs.Gains.{Gains}
use Rattle.qm_separators.specs.inner.Found.{PartsAlong}
use Rattle.qm_separators.proofs.FoundPlanes.{gains_along_none, gains_along_one}
use Rattle.qm_narrow.specs.inner.FoundPlanes.{HasNormalAmong}
use Rattle.qm_narrow.proofs.ListedNormals.{gains_along_listed}
use Rattle.qm_narrow.proofs.across.gain_along.Goals as goal

pub returns-then-has_normal : goal.returns-then-has_normal
returns-then-has_normal c =
    gains_along_listed c.args.source.now c.args.pass.now c.args.along.now c.args.planes.now.items c.requires.found
    (subst (λ (l : List Plane). HasNormalAmong l c.args.along.now) c.as_slice.ensures.value (c.has_normal.ensures.0 c.if-has_normal.true))

pub returns-in_ok-push : goal.returns-in_ok-push
returns-in_ok-push c =
    subst (Gains (PartsAlong c.args.source.now c.args.pass.now c.args.along.now) c.args.planes.now.items) (sym c.in_ok-push.ensures.items)
    (gains_along_one c.args.source.now c.args.pass.now c.args.along.now c.at_least_distance-plane.result c.at_least_distance-plane.ensures.normal c.at_least_distance-plane.ensures.least c.args.planes.now.items
    (λ there. let among = c.has_normal.ensures.1 (subst (λ (l : List Plane). HasNormalAmong l c.args.along.now) (sym c.as_slice.ensures.value) (c.at_least_distance-plane.result, there, c.at_least_distance-plane.ensures.normal)) in absurd (let never : false ≡ true = sym c.if-has_normal.false ∙ among in cc))
    (c.parts.ensures.0 c.if-parts.true))

pub returns-else-parts : goal.returns-else-parts
returns-else-parts c =
    gains_along_none c.args.source.now c.args.pass.now c.args.along.now c.at_least_distance-plane.result c.at_least_distance-plane.ensures.normal c.at_least_distance-plane.ensures.least c.args.planes.now.items
    (λ parts. let is = c.parts.ensures.1 parts in let never : false ≡ true = sym c.if-parts.false ∙ is in cc)
