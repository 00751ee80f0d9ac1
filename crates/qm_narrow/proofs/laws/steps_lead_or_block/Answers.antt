use Rattle.qm_separators.proofs.StepsLead.{lead_on_or_block}
use Rattle.qm_separators.proofs.SameSteps.{leads_or_blocks}
use Rattle.qm_narrow.proofs.laws.steps_lead_or_block.Goals as goal

pub returns-clause-either : goal.returns-clause-either
returns-clause-either c = λ portals convex. lead_on_or_block portals convex

pub returns-clause-not_both : goal.returns-clause-not_both
returns-clause-not_both c = λ state target into next valid leads blocks. leads_or_blocks state target into next valid leads blocks
