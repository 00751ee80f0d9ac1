use Rattle.std.proofs.Common.{◌≡◌, true}
use Rattle.qm_chains.proofs.TurnLaws.{turn_taken}
use Rattle.qm_crew.proofs.laws.turns_stay_within.Goals as goal

pub returns : goal.returns
returns c = λ portals turns p old new within found stays. turn_taken portals turns p (λ n q. old n q ≡ true) (λ n q. new n q ≡ true) within found stays
