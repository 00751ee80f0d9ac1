use Rattle.std.proofs.Common.{[], get_or}
use Rattle.qm_lists.specs.WorkList.{IsIn}
use Rattle.qm_chains.proofs.TurnLaws.{turn_taken}
use Rattle.qm_crew.proofs.laws.rows_stay_within_turns.Goals as goal

pub returns : goal.returns
returns c = λ portals turns p old new within found stays. turn_taken portals turns p (λ n q. IsIn (get_or old q []) n) (λ n q. IsIn (get_or new q []) n) within found stays
