use Rattle.std.specs.Prelude.{◌≡◌, ◌≢◌, ◌↔◌, Result}
use Rattle.qm_formats.specs.TreeFile.{TreeFile}
use Rattle.qm_commands.specs.declared.query.Query.{Query}
use Rattle.qm_commands.specs.declared.query.Query.TheVariants as queries
use Rattle.qm_answers.specs.declared.answer.Answer.{Answer}
use Rattle.qm_answers.specs.declared.answer.Answer.TheVariants as answers
use Rattle.qm_answers.specs.declared.query_fault.QueryFault.{QueryFault}
use Rattle.qm_answers.specs.Answers.{AnswersQuery}
use Rattle.qm_answers.specs.AnswerText.{answer_line}

-- two tree files have the same answers: to each query but `parts`, and each but that of `parts` has the same line
pub record HaveSameAnswers (file other : TreeFile) : Type 0 where
  pub same : (query : Query) (answer : Result Answer QueryFault) → query ≢ queries.Parts → AnswersQuery file query answer ↔ AnswersQuery other query answer
  pub same_lines : (answer : Answer) → answer ≢ answers.Parts → answer_line file answer ≡ answer_line other answer
