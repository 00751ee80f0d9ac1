use Rattle.std.proofs.Common.{sym, subst}
use Rattle.qm_space.specs.Plane.{Plane}
use Rattle.qm_narrow.specs.inner.FoundPlanes.{IsAlong}
use Rattle.qm_narrow.proofs.multiples.has_against.Goals as goal

pub returns-then-is_along : goal.returns-then-is_along
returns-then-is_along c = λ _. (
  c.plane-item.result,
  (c.loop-plane.plane-index, c.loop-plane-test.true, sym c.plane-item.is),
  subst (λ (g : Plane). IsAlong c.args.normal.now g) c.flipped-turned.ensures (c.is_along.ensures c.if-is_along.true),
)
