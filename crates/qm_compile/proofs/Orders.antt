-- Orders that are those of some words, and what comes of them.
use Rattle.std.proofs.Common.{◌≤◌, ℕ, List, Option, Some, None, Result, Ok, Err, refl, inl, inr, arith}
use Rattle.qm_surroundings.specs.ShelfState.{ShelfState}
use Rattle.qm_commands.specs.declared.map_command.MapCommand.{MapCommand}
use Rattle.qm_commands.specs.declared.map_command.MapCommand.TheVariants.{Compile, Format}
use Rattle.qm_commands.specs.FileNames.{FileNames, AreDifferent}
use Rattle.qm_commands.specs.Options.{AreThreads}
use Rattle.qm_commands.specs.Order.{Order, of_map}
use Rattle.qm_commands.specs.Words.{AreWordsOf, AreNoCommand}
use Rattle.qm_statement.specs.Run.{usage, command}
use Rattle.qm_statement.specs.Untouched.{IsUntouched}
use Rattle.qm_make.specs.Workers.{HasWorkers}
use Rattle.qm_compile.specs.declared.report.Report.{Report}
use Rattle.qm_compile.specs.declared.report.Report.TheVariants.{Usage}
use Rattle.qm_compile.specs.inner.CarriedOut.{IsOfWords, IsCarriedOut, AreCarriedOut}

-- the names of a command that reads a map are different
pub different_of : (command : MapCommand) (files : FileNames) → IsOfWords (of_map command files) → AreDifferent files
different_of (Compile options listed) files is = is.1.different
different_of Format files is = is.1.different

-- so many workers as are asked for can be had
some_workers : (text : Option (List ℕ)) (threads : ℕ) → AreThreads text threads → (1 ≤ threads) × (threads ≤ 64)
some_workers None threads is = (omega (arith, is), omega (arith, is))
some_workers (Some text) threads is = (is.1, is.2)

pub workers_of : (command : MapCommand) (files : FileNames) → IsOfWords (of_map command files) → HasWorkers command
workers_of (Compile options listed) files is = some_workers is.1.asked.threads options.threads is.1.are_threads
workers_of Format files is = tt

-- ---- a shelf that nothing touches

pub untouched : (shelf : ShelfState) → IsUntouched shelf shelf
untouched shelf = record { kept = λ name. refl; no_fault = record { reads = λ name. refl; writes = λ name. refl } }

-- words that are no command
pub no_command : {E : Type 0} (words : List (List ℕ)) (shelf : ShelfState) → AreNoCommand words → AreCarriedOut {E = E} words shelf shelf (Ok Usage)
no_command words shelf none = record { due = usage none (untouched shelf); memory = tt }

-- memory ran out while they were read
pub unread_words : {E : Type 0} (words : List (List ℕ)) (shelf : ShelfState) (fault : E) → AreCarriedOut words shelf shelf (Err fault)
unread_words words shelf fault = record { due = tt; memory = inl (untouched shelf) }

-- the command that words are was carried out
pub words_carried_out : {E : Type 0} (words : List (List ℕ)) (before after : ShelfState) (order : Order) → AreWordsOf order words → (answer : Result Report E) → IsCarriedOut before after order answer → AreCarriedOut words before after answer
words_carried_out words before after order are (Ok report) is = record { due = command order are is.due; memory = tt }
words_carried_out words before after order are (Err fault) is = record { due = tt; memory = inr (order, are, is.memory) }
