use Rattle.qm_separators.proofs.PortalStepLaws.{lets_segments_through}
use Rattle.qm_narrow.proofs.laws.steps_let_segments_through.Goals as goal

pub returns : goal.returns
returns c = λ portals convex. lets_segments_through portals convex
