use Rattle.std.specs.Prelude.{ℕ, List}
use Rattle.qm_commands.specs.declared.map_command.MapCommand.{MapCommand}
use Rattle.qm_commands.specs.declared.query.Query.{Query}
use Rattle.qm_commands.specs.FileNames.{FileNames}

-- what the words of a command ask for
pub data Order : Type 0 where
  -- `compile` or `format`: what is made of a map, and the names of its files
  of_map : MapCommand → FileNames → Order
  -- `inspect`: what a tree file is asked, under its name
  of_tree : List ℕ → List Query → Order
  -- `demo`: how many rooms are generated, and from which number
  of_rooms : ℕ → ℕ → Order
  -- `upgrade`: a tree file, under its name, is written in version 2 under another
  of_upgrade : List ℕ → List ℕ → Order
