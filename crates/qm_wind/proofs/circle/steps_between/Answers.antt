use Rattle.std.proofs.Common.{◌∙◌, arith}
use Rattle.qm_convex.proofs.Places.{after_inner, after_outer}
use Rattle.qm_wind.proofs.circle.steps_between.Goals as goal

pub returns-then-from-to-clause-value : goal.returns-then-from-to-clause-value
returns-then-from-to-clause-value c = after_inner _ _ _ (omega arith) ∙ omega arith

pub returns-else-from-to-clause-value : goal.returns-else-from-to-clause-value
returns-else-from-to-clause-value c = after_outer _ _ _ (omega arith) ∙ omega arith
