use Rattle.std.specs.Prelude.{◌≡◌, ◌⊎◌, ℕ, IsTrue, List, Some}
use Rattle.qm_surroundings.specs.Counts.{Rose}
use Rattle.qm_surroundings.specs.Surroundings.{Surroundings}
use Rattle.qm_surroundings.specs.ShelfState.{ShelfState, text_under}
use Rattle.qm_mapfile.specs.declared.entity.MapFile.{MapFile}
use Rattle.qm_grammar.specs.Meaning.{IsMapText}
use Rattle.qm_partition.specs.Tree.{Tree}
use Rattle.qm_contacts.specs.Leak.{Origin}
use Rattle.qm_formats.specs.TreeFile.{TreeFile}
use Rattle.qm_answers.specs.AllAnswers.{AreAnswered}
use Rattle.qm_commands.specs.declared.map_command.MapCommand.{MapCommand}
use Rattle.qm_commands.specs.declared.map_command.MapCommand.TheVariants.{Compile, Format}
use Rattle.qm_commands.specs.Order.{Order, of_map, of_tree, of_rooms, of_upgrade}
use Rattle.qm_commands.specs.Words.{AreWordsOf}
use Rattle.qm_statement.specs.declared.status.Status.{Status}
use Rattle.qm_statement.specs.declared.status.Status.TheVariants.{Done, Leak, MapFault, Memory, TreeFault, QueryRefused}
use Rattle.qm_statement.specs.Built.{IsBuilt}
use Rattle.qm_statement.specs.CompiledMap.{NoneLeaks}
use Rattle.qm_statement.specs.HoldsTree.{HoldsTreeFile}

-- How a command ends that meets no fault of the surroundings.

-- a name under which a command reads: MAP or TREE
abbrev pub IsReadBy : Order → List ℕ → Type 0
IsReadBy (of_map command files) name = name ≡ files.map_name
IsReadBy (of_tree tree_name queries) name = name ≡ tree_name
IsReadBy (of_rooms rooms number) name = ⊥
IsReadBy (of_upgrade tree_name out_name) name = name ≡ tree_name

-- a name under which a command writes: OUT, or FILE where a listing is asked for
abbrev pub IsWrittenBy : Order → List ℕ → Type 0
IsWrittenBy (of_map command files) name = (name ≡ files.out_name) ⊎ (files.listing_name ≡ Some name)
IsWrittenBy (of_tree tree_name queries) name = ⊥
IsWrittenBy (of_rooms rooms number) name = ⊥
IsWrittenBy (of_upgrade tree_name out_name) name = name ≡ out_name

-- none of the counts of faults rose that the command can raise: those of names under which it reads or writes, and that of
-- printing
pub record MetNone (before after : Surroundings) (order : Order) : Type 0 where
  pub reading : (name : List ℕ) → IsReadBy order name → Rose (before.shelf.read_faults name) (after.shelf.read_faults name) → ⊥
  pub writing : (name : List ℕ) → IsWrittenBy order name → Rose (before.shelf.write_faults name) (after.shelf.write_faults name) → ⊥
  pub printing : Rose before.sink.faults after.sink.faults → ⊥

-- an end of a command that meets no fault, whatever it reads: it is done, or memory ran out; or the text under MAP has a
-- fault; or, of `compile`, an entity leaks; or, of `inspect` and `upgrade`, the bytes under TREE have a fault; or, of
-- `inspect`, a query is refused
abbrev pub MayEndWhereNoneMet : Status → Order → Type 0
MayEndWhereNoneMet Done order = Unit {0}
MayEndWhereNoneMet Memory order = Unit {0}
MayEndWhereNoneMet MapFault (of_map command files) = Unit {0}
MayEndWhereNoneMet Leak (of_map (Compile options listed) files) = Unit {0}
MayEndWhereNoneMet TreeFault (of_tree tree_name queries) = Unit {0}
MayEndWhereNoneMet TreeFault (of_upgrade tree_name out_name) = Unit {0}
MayEndWhereNoneMet QueryRefused (of_tree tree_name queries) = Unit {0}
MayEndWhereNoneMet _ _ = ⊥

-- no leak of the map stops the command: of `compile`, no entity leaks
abbrev pub NoLeakStops : MapCommand → MapFile → Type 0
NoLeakStops (Compile options listed) map = (tree : Tree) (origins : List Origin) → IsBuilt map tree origins → NoneLeaks tree origins
NoLeakStops Format map = Unit {0}

-- nothing that a command reads stops it: the text under MAP is a map, and no leak stops the command; or the bytes under TREE
-- are a tree file, which, of `inspect`, answers every query
abbrev pub NothingStops : ShelfState → Order → Type 0
NothingStops shelf (of_map command files) =
    (map : MapFile) × IsMapText (text_under shelf files.map_name) map × NoLeakStops command map
NothingStops shelf (of_tree tree_name queries) =
    (file : TreeFile) × HoldsTreeFile shelf tree_name file × (lines : List ℕ) × AreAnswered file queries lines
NothingStops shelf (of_rooms rooms number) = Unit {0}
NothingStops shelf (of_upgrade tree_name out_name) = (file : TreeFile) × HoldsTreeFile shelf tree_name file

-- an end of a command that meets no fault, and that nothing stops: it is done, or memory ran out
abbrev pub EndsDoneOrShortOfMemory : Status → Type 0
EndsDoneOrShortOfMemory Done = Unit {0}
EndsDoneOrShortOfMemory Memory = Unit {0}
EndsDoneOrShortOfMemory _ = ⊥

-- where the words are a command that meets no fault, the status is one of the first of these ends; and where nothing that the
-- shelf holds stops the command, it is one of the second
pub record IsComplete (words : List (List ℕ)) (before after : Surroundings) (status : Status) : Type 0 where
  pub ends : (order : Order) → AreWordsOf order words → MetNone before after order → MayEndWhereNoneMet status order
  pub done : IsTrue before.shelf.tells → (order : Order) → AreWordsOf order words → MetNone before after order →
      NothingStops before.shelf order → EndsDoneOrShortOfMemory status
