use Rattle.qm_segments.proofs.EndRows.{coarse_rows_sound}
use Rattle.qm_sight.proofs.laws.coarse_rows_are_sound.Goals as goal

pub returns : goal.returns
returns c = λ tree touchings leaves rows have are coarse. coarse_rows_sound tree have touchings are leaves rows coarse
