use Rattle.std.specs.Prelude.{List}
use Rattle.qm_formats.specs.TreeFile.{TreeFile}
use Rattle.qm_commands.specs.declared.query.Query.{Query}
use Rattle.qm_answers.specs.AllAnswers.{AreAnswered, IsFirstRefused}
use Rattle.qm_inspect.specs.declared.telling.Told.{Told}
use Rattle.qm_inspect.specs.declared.telling.Told.TheVariants.{Lines, Refused}

-- what is told of queries: the lines of the answers to all of them, or the first that is refused, the first query being number 1
abbrev pub IsTold : TreeFile → List Query → Told → Type 0
IsTold file queries (Lines lines) = AreAnswered file queries lines.items
IsTold file queries (Refused number fault) = IsFirstRefused file 1 queries number fault
