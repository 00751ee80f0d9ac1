use Rattle.std.specs.Prelude.{ℕ, ◌⊎◌, List, []}
use Rattle.qm_surroundings.specs.Surroundings.{Surroundings}
use Rattle.qm_surroundings.specs.Printing.{IsPrinted, IsPartlyPrinted, PrintedWithoutFault, FailedToPrint}
use Rattle.qm_surroundings.specs.ShelfState.{ShelfState}
use Rattle.qm_commands.specs.Order.{Order, of_map, of_tree, of_rooms, of_upgrade}
use Rattle.qm_commands.specs.Words.{AreWordsOf, AreNoCommand}
use Rattle.qm_statement.specs.declared.status.Status.{Status}
use Rattle.qm_statement.specs.declared.status.Status.TheVariants.{Usage, WriteFault, Memory}
use Rattle.qm_statement.specs.ComesOf.{ComesOf, IsCutShort}
use Rattle.qm_statement.specs.DemoComesOf.{DemoComesOf}
use Rattle.qm_statement.specs.InspectComesOf.{InspectComesOf}
use Rattle.qm_statement.specs.Texts.{usage_text}
use Rattle.qm_statement.specs.Untouched.{IsUntouched}
use Rattle.qm_statement.specs.UpgradeComesOf.{UpgradeComesOf, IsUpgradeCutShort}

-- What a run of the program does to its surroundings: to a shelf of named files and to a sink for printed text.

-- what comes of each command where memory does not run out: a status, and the text that is due with it
abbrev pub OrderComesOf : ShelfState → ShelfState → Order → Status → List ℕ → Type 0
OrderComesOf before after (of_map command files) status text = ComesOf before after command files status text
OrderComesOf before after (of_tree tree_name queries) status text = InspectComesOf before after tree_name queries status text
OrderComesOf before after (of_rooms rooms number) status text = DemoComesOf before after rooms number status text
OrderComesOf before after (of_upgrade tree_name out_name) status text = UpgradeComesOf before after tree_name out_name status text

-- what has become of the shelf where memory ran out on the way of a command: one that writes files was cut short, and any
-- other has changed nothing
abbrev pub IsStopped : Order → ShelfState → ShelfState → Type 0
IsStopped (of_map command files) before after = IsCutShort before after command files
IsStopped (of_tree tree_name queries) before after = IsUntouched before after
IsStopped (of_rooms rooms number) before after = IsUntouched before after
IsStopped (of_upgrade tree_name out_name) before after = IsUpgradeCutShort before after tree_name out_name

-- what comes of the words: they are no command, and the shelf is as it was; or what comes of the command
pub data Due (words : List (List ℕ)) (before after : ShelfState) : Status → List ℕ → Type 0 where
  usage :
      AreNoCommand words → IsUntouched before after →
      Due words before after Usage usage_text
  command :
      {status : Status} {text : List ℕ} (order : Order) →
      AreWordsOf order words → OrderComesOf before after order status text →
      Due words before after status text

-- a status was due, and its text was printed: the run ends with that status
abbrev pub EndsPrinted : List (List ℕ) → Surroundings → Surroundings → Status → Type 0
EndsPrinted words before after status =
    (text : List ℕ) × Due words before.shelf after.shelf status text × IsPrinted before.sink after.sink text

-- a status was due, and some of its text was printed
abbrev pub IsPartlyReported : List (List ℕ) → Surroundings → Surroundings → Type 0
IsPartlyReported words before after =
    (status : Status) × (text : List ℕ) × Due words before.shelf after.shelf status text × IsPartlyPrinted before.sink after.sink text

-- printing failed, whatever was due
abbrev pub EndsByPrintFault : List (List ℕ) → Surroundings → Surroundings → Type 0
EndsByPrintFault words before after = FailedToPrint before.sink after.sink × IsPartlyReported words before after

-- memory ran out while printing, whatever was due, and no fault of printing was counted
abbrev pub EndsShortOfMemoryPrinting : List (List ℕ) → Surroundings → Surroundings → Type 0
EndsShortOfMemoryPrinting words before after = PrintedWithoutFault before.sink after.sink × IsPartlyReported words before after

-- the words are a command, and memory ran out on its way
abbrev pub IsCommandStopped : List (List ℕ) → ShelfState → ShelfState → Type 0
IsCommandStopped words before after = (order : Order) × AreWordsOf order words × IsStopped order before after

-- memory ran out before a status was due, and nothing was printed: the shelf is as it was, whatever the words are, or a
-- command was stopped on its way
abbrev pub EndsShortOfMemoryBefore : List (List ℕ) → Surroundings → Surroundings → Type 0
EndsShortOfMemoryBefore words before after =
    (IsUntouched before.shelf after.shelf ⊎ IsCommandStopped words before.shelf after.shelf) × IsPrinted before.sink after.sink []

-- What each answer of a run says of the surroundings before it and after it. Two answers have an end of their own beside the
-- printed one, or in its place; with any other the text that was due was printed.
unfoldable pub Answers : List (List ℕ) → Surroundings → Surroundings → Status → Type 0
Answers words before after WriteFault = EndsPrinted words before after WriteFault ⊎ EndsByPrintFault words before after
Answers words before after Memory = EndsShortOfMemoryBefore words before after ⊎ EndsShortOfMemoryPrinting words before after
Answers words before after status = EndsPrinted words before after status
