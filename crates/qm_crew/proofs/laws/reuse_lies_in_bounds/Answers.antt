use Rattle.qm_chains.proofs.TurnLaws.{reuse_in_bound}
use Rattle.qm_chains.proofs.TurnListLaws.{reuse_over_in_bound}
use Rattle.qm_crew.proofs.laws.reuse_lies_in_bounds.Goals as goal

pub returns-clause-over_turns : goal.returns-clause-over_turns
returns-clause-over_turns c = λ portals workers turns are n q portal at over. reuse_over_in_bound portals n q portal at workers turns are over

pub returns-clause-in_order : goal.returns-clause-in_order
returns-clause-in_order c = λ portals n q portal at reuse. reuse_in_bound portals n q portal at reuse
