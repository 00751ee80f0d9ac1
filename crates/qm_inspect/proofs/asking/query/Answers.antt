use Rattle.qm_answers.proofs.OneAnswer.{one_answer}
use Rattle.qm_answers.proofs.PrintableAnswers.{printable_if_answered}
use Rattle.qm_inspect.proofs.asking.query.Goals as goal

pub returns-clause-only : goal.returns-clause-only
returns-clause-only c = λ other is. one_answer c.args.file.now c.args.ask.now c.answer.result other c.answer.ensures is

pub returns-clause-printable : goal.returns-clause-printable
returns-clause-printable c = printable_if_answered c.args.file.now c.args.ask.now c.answer.result c.answer.ensures
