use Rattle.std.specs.Prelude.{◌≡◌, ℕ, Bool, List, [], Some, None, Contains}
use Rattle.qm_mapfile.specs.declared.entity.MapFile.{MapFile}
use Rattle.qm_drawn.specs.Solids.{drawn_solids}
use Rattle.qm_solids.specs.Contents.{HasContents}
use Rattle.qm_partition.specs.Tree.{Tree}
use Rattle.qm_solid_tree.specs.GivesContents.{GivesContentsOrIsFilled}
use Rattle.qm_contacts.specs.Leak.{Origin, Leaks, IsLeak}
use Rattle.qm_contacts.specs.World.{World}
use Rattle.qm_segments.specs.Segment.{Segment}
use Rattle.qm_segments.specs.Ends.{IsLineOfSight, HoldLinesOfSight}
use Rattle.qm_segments.specs.LedByPortals.{IsLedByPortals}
use Rattle.qm_formats.specs.TreeFile.{TreeFile, IsValidFile}
use Rattle.qm_commands.specs.declared.options.Options.{Options}
use Rattle.qm_statement.specs.declared.summary.Summary.{Summary}
use Rattle.qm_statement.specs.Built.{IsBuilt}
use Rattle.qm_statement.specs.Marked.{IsMarked, IsApartFromFilled}
use Rattle.qm_statement.specs.Rows.{IsWorldOf, AreRowsAsAsked}
use Rattle.qm_statement.specs.Summary.{IsSummary}
use Rattle.qm_statement.specs.CompiledForm.{HasCompiledForm}
use Rattle.qm_statement.specs.AskedSections.{AreSectionsAsked}

-- What a map compiles to.

-- no entity of the map leaks
abbrev pub NoneLeaks : Tree → List Origin → Type 0
NoneLeaks tree origins = (origin : Origin) → Contains origins origin → Leaks tree origin → ⊥

-- a line of sight of the map: a generic segment on which the map's drawn solids define one contents that is not solid, and that
-- begins in a leaf that is not filled
abbrev pub IsLineOfSightIn : MapFile → Tree → Segment → Type 0
IsLineOfSightIn map tree s = IsLineOfSight (HasContents (drawn_solids map)) tree s

-- No entity leaks. The tree is the map's with the leaves filled that are to be filled. It gives each point the contents that
-- the map's drawn solids define there, but in filled leaves; and no chain of portals leads from one of these to an entity.
-- Its portals lead each line of sight of the map from the first leaf to the last. Each of its numbered leaves has a row,
-- coarse, or found in turns of as many workers as the options ask for, and the rows hold both ends of each line of sight. Its
-- sections are those that the options ask for. All of it can stand in a tree file, which may be too long to be read, in the form in
-- which maps are compiled.
pub record IsCompiledWithoutLeak (map : MapFile) (options : Options) (file : TreeFile) (world : World) (summary : Summary) : Type 0 where
  pub tree : Tree
  pub origins : List Origin
  pub is_built : IsBuilt map tree origins
  pub none_leaks : NoneLeaks tree origins
  pub is_marked : IsMarked tree origins file.tree
  pub gives_contents : GivesContentsOrIsFilled file.tree (drawn_solids map)
  pub apart : (origin : Origin) → Contains origins origin → IsApartFromFilled tree origins origin
  pub is_world : IsWorldOf file.tree world
  pub led_by_portals : (s : Segment) → IsLineOfSightIn map file.tree s → IsLedByPortals file.tree world.portals s
  pub rows : List (List Bool)
  pub has_rows : file.rows ≡ Some rows
  pub are_rows : AreRowsAsAsked options.fast options.threads world rows
  pub hold_sight : HoldLinesOfSight (HasContents (drawn_solids map)) file.tree rows
  pub has_sections : AreSectionsAsked map file.tree options file.sections
  pub has_form : HasCompiledForm file
  pub is_valid : IsValidFile file
  pub is_summary : IsSummary map tree origins file.tree rows summary

-- An entity leaks: the first such entity, and its trail. The tree is the map's, without rows and sections, and can stand in such a
-- file, in the same form.
pub record IsCompiledToLeak (map : MapFile) (file : TreeFile) (entity : ℕ) (trail : List ℕ) : Type 0 where
  pub origins : List Origin
  pub is_built : IsBuilt map file.tree origins
  pub is_leak : IsLeak file.tree origins entity trail
  pub has_no_rows : file.rows ≡ None
  pub has_no_sections : file.sections ≡ []
  pub has_form : HasCompiledForm file
  pub is_valid : IsValidFile file
