use Rattle.std.specs.Prelude.{◌≡◌, Result, Ok, Err, IfOk, OnOk, OnErr}
use Rattle.qm_surroundings.specs.ShelfState.{ShelfState}
use Rattle.qm_surroundings.specs.ShelfChanges.{IsKept, MetNoFault}
use Rattle.qm_shelf.specs.declared.shelf.ShelfFault.{ShelfFault}
use Rattle.qm_shelf.specs.declared.shelf.ShelfFault.TheVariants.{Failed, Memory}
use Rattle.qm_mapfile.specs.declared.entity.MapFile.{MapFile}
use Rattle.qm_commands.specs.declared.map_command.MapCommand.{MapCommand}
use Rattle.qm_commands.specs.FileNames.{FileNames}
use Rattle.qm_statement.specs.ComesOf.{ComesOf, IsCutShort}
use Rattle.qm_statement.specs.TextMeans.{TextMeans}
use Rattle.qm_make.specs.declared.outcome.Outcome.{Outcome}
use Rattle.qm_make.specs.declared.outcome.Outcome.TheVariants.{WriteFault}
use Rattle.qm_make.specs.StatusAndText.{due_status, due_text}

-- How a command ends.

-- what was due comes of it where all was written; else it ends by the fault of writing
abbrev pub IsEnd : {T E : Type 0} → Result T ShelfFault → Outcome → Result Outcome E → Type 0
IsEnd (Ok _) due answer = answer ≡ Ok due
IsEnd (Err Failed) due answer = answer ≡ Ok WriteFault
IsEnd (Err Memory) due answer = OnOk answer ⊥

-- what comes of a command, unless memory runs out
pub record IsCarriedOut {E : Type 0} (before after : ShelfState) (command : MapCommand) (files : FileNames) (answer : Result Outcome E) : Type 0 where
  pub due : IfOk answer (λ outcome. ComesOf before after command files (due_status outcome) (due_text outcome))
  pub memory : OnErr answer (IsCutShort before after command files)

-- what comes of a command once this map was read, and nothing was changed yet
abbrev pub IsMadeAndWritten : {E : Type 0} → ShelfState → ShelfState → MapCommand → MapFile → FileNames → Result Outcome E → Type 0
IsMadeAndWritten between after command map files answer =
    (before : ShelfState) → between.tells ≡ before.tells → IsKept before between → MetNoFault before between →
    TextMeans before files.map_name (Ok map) → IsCarriedOut before after command files answer
