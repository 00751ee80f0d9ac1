use Rattle.std.specs.Prelude.{◌≡◌, ◌/◌, ℕ, Bool, List, Ok, Result, Some, length, count_by}
use Rattle.qm_partition.specs.Counting.{node_count, leaf_count, leaves_of}
use Rattle.qm_partition.specs.Tree.{Tree}
use Rattle.qm_mapfile.specs.declared.entity.MapFile.{MapFile}
use Rattle.qm_contacts.specs.NumberedLeaves.{is_numbered}
use Rattle.qm_contacts.specs.World.{World}
use Rattle.qm_coarse_rows.specs.Seen.{seen_of}
use Rattle.qm_formats.specs.TreeFile.{AreSections}
use Rattle.qm_compiler.specs.declared.asking.Asked.{Asked}
use Rattle.qm_compiler.specs.declared.compiled.Compiled.{Compiled}
use Rattle.qm_compiler.specs.declared.compiled.Compiled.TheVariants.{Done}
use Rattle.qm_compiler.specs.inner.NewFile.{new_file}
use Rattle.qm_commands.specs.declared.options.Options.{Options}
use Rattle.qm_statement.specs.declared.summary.Summary.{Summary}
use Rattle.qm_statement.specs.AskedSections.{AreSectionsAsked}
use Rattle.qm_statement.specs.Rows.{AreRowsAsAsked}

-- What is made of a tree and its world.

-- what is counted of a tree, its portals and its rows
pub record IsCount (sealed : Bool) (brushes flat : ℕ) (world : World) (rows : List (List Bool)) (summary : Summary) : Type 0 where
  pub sealed_is : summary.sealed ≡ sealed
  pub brushes_is : summary.brushes ≡ brushes
  pub flat_is : summary.flat ≡ flat
  pub planes_is : summary.planes ≡ length world.tree.planes
  pub nodes_is : summary.nodes ≡ node_count world.tree.shape
  pub leaves_is : summary.leaves ≡ leaf_count world.tree.shape
  pub numbered_is : summary.numbered ≡ count_by is_numbered (leaves_of world.tree.shape)
  pub filled_is : summary.filled ≡ count_by (λ found. found.filled) (leaves_of world.tree.shape)
  pub portals_is : summary.portals ≡ length world.portals / 2
  pub seen_is : summary.seen ≡ seen_of rows

-- rows of a world and sections of a map as the options ask for them, where the sections can stand in a file
pub record AreAsAsked (map : MapFile) (options : Options) (world : World) (asked : Asked) : Type 0 where
  pub are_rows : AreRowsAsAsked options.fast options.threads world asked.rows
  pub are_sections : AreSectionsAsked map world.tree options asked.sections
  pub can_stand : AreSections asked.sections

-- a new file of a tree with what was made as asked, with a world and what is counted of the world and the rows
pub record IsCounted {E : Type 0} (sealed : Bool) (brushes flat : ℕ) (tree : Tree) (world : World) (made : Result Asked E) (compiled : Compiled) : Type 0 where
  pub asked : Asked
  pub made_is : made ≡ Ok asked
  pub summary : Summary
  pub is_done : compiled ≡ Done (new_file tree (Some asked.rows) asked.sections) world summary
  pub is_count : IsCount sealed brushes flat world asked.rows summary

-- the same with what is as the options ask for it
pub record IsFinished (map : MapFile) (options : Options) (sealed : Bool) (brushes flat : ℕ) (tree : Tree) (world : World) (compiled : Compiled) : Type 0 where
  pub asked : Asked
  pub are_as_asked : AreAsAsked map options world asked
  pub summary : Summary
  pub is_done : compiled ≡ Done (new_file tree (Some asked.rows) asked.sections) world summary
  pub is_count : IsCount sealed brushes flat world asked.rows summary
