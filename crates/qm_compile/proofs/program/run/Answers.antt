use Rattle.std.proofs.Common.{refl, sym}
use Rattle.qm_words.proofs.OneOrder.{one_order}
use Rattle.qm_words.specs.SeenWords.{bytes_of_words}
use Rattle.qm_statement.proofs.Completeness.{complete, complete_short}
use Rattle.qm_statement.proofs.OwnFiles.{changes_own_files_alone}
use Rattle.qm_statement.proofs.TornFiles.{none_is_torn}
use Rattle.qm_compile.proofs.Reported.{answers_printed, answers_run_out}
use Rattle.qm_compile.proofs.program.run.Goals as goal

pub returns-in-Ok-clause-answers : goal.returns-in-Ok-clause-answers
returns-in-Ok-clause-answers g c = answers_printed _ _ _ c.in-Ok.report c.in-Ok.ensures.due c.print.result c.print.ensures

pub returns-in-Err-clause-answers : goal.returns-in-Err-clause-answers
returns-in-Err-clause-answers g c = answers_run_out _ _ _ c.in-Err.ensures.memory refl

pub returns-in-Ok-clause-complete : goal.returns-in-Ok-clause-complete
returns-in-Ok-clause-complete g c = complete _ _ _ (λ order other is its. sym (one_order (bytes_of_words c.args.words.now) order other is its)) _ (returns-in-Ok-clause-answers g c)

pub returns-in-Err-clause-complete : goal.returns-in-Err-clause-complete
returns-in-Err-clause-complete g c = complete_short _ _ _

pub returns-in-Ok-clause-own_files_alone : goal.returns-in-Ok-clause-own_files_alone
returns-in-Ok-clause-own_files_alone g c = changes_own_files_alone _ _ _ _ (returns-in-Ok-clause-answers g c)

pub returns-in-Err-clause-own_files_alone : goal.returns-in-Err-clause-own_files_alone
returns-in-Err-clause-own_files_alone g c = changes_own_files_alone _ _ _ _ (returns-in-Err-clause-answers g c)

pub returns-in-Ok-clause-none_is_torn : goal.returns-in-Ok-clause-none_is_torn
returns-in-Ok-clause-none_is_torn g c = none_is_torn _ _ _ (one_order (bytes_of_words c.args.words.now)) _ (returns-in-Ok-clause-answers g c)

pub returns-in-Err-clause-none_is_torn : goal.returns-in-Err-clause-none_is_torn
returns-in-Err-clause-none_is_torn g c = none_is_torn _ _ _ (one_order (bytes_of_words c.args.words.now)) _ (returns-in-Err-clause-answers g c)
