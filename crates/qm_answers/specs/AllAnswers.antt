use Rattle.std.specs.Prelude.{ℕ, ◌+◌, List, [], ◌∷◌, ◌++◌, Ok, Err}
use Rattle.qm_formats.specs.TreeFile.{TreeFile}
use Rattle.qm_commands.specs.declared.query.Query.{Query}
use Rattle.qm_answers.specs.declared.answer.Answer.{Answer}
use Rattle.qm_answers.specs.declared.query_fault.QueryFault.{QueryFault}
use Rattle.qm_answers.specs.Answers.{AnswersQuery}
use Rattle.qm_answers.specs.AnswerText.{answer_line}

-- What a tree file answers to several queries.

-- all are answered, in order: the lines of their answers
pub data AreAnswered (file : TreeFile) : List Query → List ℕ → Type 0 where
  no_more : AreAnswered file [] []
  one_more : {query : Query} {queries : List Query} {lines : List ℕ} (answer : Answer) →
      AnswersQuery file query (Ok answer) → AreAnswered file queries lines → AreAnswered file (query ∷ queries) (answer_line file answer ++ lines)

-- the first refusal among queries, of which the first has the number k
pub data IsFirstRefused (file : TreeFile) : ℕ → List Query → ℕ → QueryFault → Type 0 where
  here : {k : ℕ} {query : Query} {queries : List Query} {fault : QueryFault} →
      AnswersQuery file query (Err fault) → IsFirstRefused file k (query ∷ queries) k fault
  later : {k number : ℕ} {query : Query} {queries : List Query} {fault : QueryFault} (answer : Answer) →
      AnswersQuery file query (Ok answer) → IsFirstRefused file (k + 1) queries number fault → IsFirstRefused file k (query ∷ queries) number fault
