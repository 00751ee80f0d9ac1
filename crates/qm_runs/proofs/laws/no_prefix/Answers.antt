use Rattle.qm_lists.proofs.ReadRuns as rows
use Rattle.qm_runs.proofs.laws.no_prefix.Goals as goal

pub returns : goal.returns
returns c = rows.no_prefix
