use Rattle.std.proofs.Common.{sym}
use Rattle.qm_narrow.proofs.multiples.has_along.Goals as goal

pub returns-then-is_along : goal.returns-then-is_along
returns-then-is_along c = λ _. (c.plane-item.result, (c.loop-plane.plane-index, c.loop-plane-test.true, sym c.plane-item.is), c.is_along.ensures c.if-is_along.true)
