use Rattle.qm_chains.proofs.TurnListLaws.{rows_in_order}
use Rattle.qm_crew.proofs.laws.one_list_is_all_in_order.Goals as goal

pub returns-clause-within : goal.returns-clause-within
returns-clause-within c = λ portals rows over. (rows_in_order portals rows).0 over

pub returns-clause-over : goal.returns-clause-over
returns-clause-over c = λ portals rows reuse. (rows_in_order portals rows).1 reuse
