use Rattle.std.specs.Prelude.{◌≡◌, ℕ, List}
use Rattle.qm_surroundings.specs.ShelfState.{ShelfState}
use Rattle.qm_commands.specs.Order.{Order, of_map}
use Rattle.qm_commands.specs.Words.{AreWordsOf}
use Rattle.qm_statement.specs.declared.status.Status.{Status}
use Rattle.qm_statement.specs.declared.status.Status.TheVariants.{Done, Usage, Leak, MapFault, ReadFault, WriteFault, Memory, TreeFault, QueryRefused}
use Rattle.qm_statement.specs.Complete.{IsWrittenBy}

-- A command changes its own files alone.

-- a name whose file a command may have changed where it ends with this status: with 2, 4, 5, 8 and 9 none; with 3 OUT; and else
-- OUT, or FILE where a listing is asked for
abbrev pub MayChange : Status → Order → List ℕ → Type 0
MayChange Usage order name = ⊥
MayChange MapFault order name = ⊥
MayChange ReadFault order name = ⊥
MayChange TreeFault order name = ⊥
MayChange QueryRefused order name = ⊥
MayChange Leak (of_map command files) name = name ≡ files.out_name
MayChange Leak order name = ⊥
MayChange Done order name = IsWrittenBy order name
MayChange WriteFault order name = IsWrittenBy order name
MayChange Memory order name = IsWrittenBy order name

-- each file is as it was that the command may not have changed; where the words are no command, each file is
unfoldable pub ChangesOwnFilesAlone : List (List ℕ) → ShelfState → ShelfState → Status → Type 0
ChangesOwnFilesAlone words before after status =
    (name : List ℕ) → ((order : Order) → AreWordsOf order words → MayChange status order name → ⊥) → after.held name ≡ before.held name
