use Rattle.std.specs.Prelude.{◌⊎◌, ℕ, List, Result, IfOk, OnErr}
use Rattle.qm_surroundings.specs.ShelfState.{ShelfState}
use Rattle.qm_commands.specs.Order.{Order}
use Rattle.qm_commands.specs.Words.{AreWordsOf}
use Rattle.qm_statement.specs.Run.{OrderComesOf, IsStopped, Due, IsCommandStopped}
use Rattle.qm_statement.specs.Untouched.{IsUntouched}
use Rattle.qm_compile.specs.declared.report.Report.{Report}
use Rattle.qm_compile.specs.inner.Reported.{reported_status, reported_text}

-- What comes of an order, and of words.

-- the order is that of some words
abbrev pub IsOfWords : Order → Type 0
IsOfWords order = (words : List (List ℕ)) × AreWordsOf order words

-- what is reported comes of the order; or memory ran out on its way
pub record IsCarriedOut {E : Type 0} (before after : ShelfState) (order : Order) (answer : Result Report E) : Type 0 where
  pub due : IfOk answer (λ report. OrderComesOf before after order (reported_status report) (reported_text report))
  pub memory : OnErr answer (IsStopped order before after)

-- what is reported is due with the words; or memory ran out
pub record AreCarriedOut {E : Type 0} (words : List (List ℕ)) (before after : ShelfState) (answer : Result Report E) : Type 0 where
  pub due : IfOk answer (λ report. Due words before after (reported_status report) (reported_text report))
  pub memory : OnErr answer (IsUntouched before after ⊎ IsCommandStopped words before after)
