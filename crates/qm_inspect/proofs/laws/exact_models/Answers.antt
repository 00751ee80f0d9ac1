use Rattle.qm_answers.proofs.ModelsByEntity.{found_is_listed, none_is_listed, listed_is_found}
use Rattle.qm_inspect.proofs.laws.exact_models.Goals as goal

pub returns-clause-found : goal.returns-clause-found
returns-clause-found c = found_is_listed

pub returns-clause-none : goal.returns-clause-none
returns-clause-none c = none_is_listed

pub returns-clause-each : goal.returns-clause-each
returns-clause-each c = listed_is_found
