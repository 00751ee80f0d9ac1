use Rattle.qm_model_files.proofs.ModelLaws.{models_of_compiled, exact_of_compiled}
use Rattle.qm_compile.proofs.laws.models_are_exact.Goals as goal

pub returns-clause-there : goal.returns-clause-there
returns-clause-there c = λ map options file world summary is asked. models_of_compiled map options file world summary is asked

pub returns-clause-exact : goal.returns-clause-exact
returns-clause-exact c = λ map options file world summary is models read. exact_of_compiled map options file world summary is models read
