use Rattle.std.proofs.Common.{◌∙◌}
use Rattle.sight_tests.specs.inner.SameRows.{one_world}
use Rattle.sight_tests.proofs.wavering.wavering_rows.Goals as goal

pub loop-portal-preserved : goal.loop-portal-preserved
loop-portal-preserved g c = one_world _ _ _ _ c.in_ok-row.ensures.on ∙ c.loop-portal.invariant
