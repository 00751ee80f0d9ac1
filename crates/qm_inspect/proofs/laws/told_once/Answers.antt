use Rattle.qm_answers.proofs.Told.{one_text, one_refusal, not_both}
use Rattle.qm_inspect.proofs.laws.told_once.Goals as goal

pub returns-clause-one_text : goal.returns-clause-one_text
returns-clause-one_text c = one_text

pub returns-clause-one_refusal : goal.returns-clause-one_refusal
returns-clause-one_refusal c = λ file queries number other fault other_fault. one_refusal file queries 1 number other fault other_fault

pub returns-clause-never_both : goal.returns-clause-never_both
returns-clause-never_both c = λ file queries lines number fault. not_both file queries lines 1 number fault
