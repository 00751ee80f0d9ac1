use Rattle.std.specs.Prelude.{ℕ, List, ◌++◌, codes}
use Rattle.std.specs.Fmt.{decimal}
use Rattle.qm_answers.specs.declared.query_fault.QueryFault.{QueryFault}
use Rattle.qm_answers.specs.AnswerText.{words_of_refusal}
use Rattle.qm_statement.specs.Texts.{line}

-- the line that is printed for a refused query: its number among the queries, counted from 1, and why
unfoldable pub refusal_text : ℕ → QueryFault → List ℕ
refusal_text number fault = line (codes "query " ++ (decimal number ++ (codes " refused: " ++ words_of_refusal fault)))
