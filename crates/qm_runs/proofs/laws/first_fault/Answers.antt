use Rattle.std.proofs.Common.{subst}
use Rattle.qm_lists.specs.RowRead.{IsRowRead}
use Rattle.qm_formats.specs.Runs.{row_read, read_runs}
use Rattle.qm_runs.proofs.laws.first_fault.Goals as goal

pub returns : goal.returns
unfolding read_runs
returns c = λ width bytes fault are is. subst (IsRowRead width bytes) is ((row_read width bytes).1 are)
