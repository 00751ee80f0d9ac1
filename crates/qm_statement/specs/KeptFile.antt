use Rattle.std.specs.Prelude.{ℕ, List}
use Rattle.qm_surroundings.specs.ShelfState.{ShelfState}
use Rattle.qm_surroundings.specs.WholeFiles.{HoldsTheSame}
use Rattle.qm_commands.specs.Order.{Order}
use Rattle.qm_commands.specs.Words.{AreWordsOf}
use Rattle.qm_statement.specs.Complete.{IsReadBy}

-- where words are a command, the file that it reads, MAP or TREE, is as it was
abbrev pub KeepsWhatItReads : List (List ℕ) → ShelfState → ShelfState → Type 0
KeepsWhatItReads words before after = (order : Order) (name : List ℕ) → AreWordsOf order words → IsReadBy order name → HoldsTheSame before after name
