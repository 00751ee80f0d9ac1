use Rattle.std.specs.Prelude.{◌≡◌, ◌⊎◌, ◌↔◌, ℕ, Bool, true, false, IsTrue, List, [], Some, Contains, slice_index_or}
use Rattle.qm_lists.specs.WorkList.{IsIn}
use Rattle.qm_space.specs.Point.{Point, IsInCube}
use Rattle.qm_surroundings.specs.ShelfState.{ShelfState, text_under}
use Rattle.qm_surroundings.specs.WholeFiles.{HoldsExactly}
use Rattle.qm_mapfile.specs.declared.entity.MapFile.{MapFile}
use Rattle.qm_grammar.specs.Meaning.{IsMapText}
use Rattle.qm_drawn.specs.Solids.{drawn_solids}
use Rattle.qm_solids.specs.Contents.{HasContents}
use Rattle.qm_partition.specs.declared.node.Leaf.{Leaf}
use Rattle.qm_partition.specs.Tree.{Tree}
use Rattle.qm_partition.specs.LeafOfPoint.{leaf_record_at, IsOffNodePlanes}
use Rattle.qm_partition.specs.Marked.{marked_tree, IsFilledLeaf}
use Rattle.qm_contacts.specs.Leak.{Origin, Leaks}
use Rattle.qm_contacts.specs.Filled.{IsToBeFilled}
use Rattle.qm_contacts.specs.World.{World}
use Rattle.qm_segments.specs.Segment.{Segment}
use Rattle.qm_segments.specs.Ends.{IsLineOfSight, HoldsEnds}
use Rattle.qm_formats.specs.FileLayout.{file_bytes}
use Rattle.qm_formats.specs.TreeFile.{TreeFile, IsValidFile}
use Rattle.qm_commands.specs.declared.options.Options.{Options}
use Rattle.qm_commands.specs.FileNames.{FileNames}
use Rattle.qm_statement.specs.AskedSections.{AreSectionsAsked}
use Rattle.qm_statement.specs.CompiledForm.{HasCompiledForm}
use Rattle.qm_statement.specs.MapSpans.{SpansTellContents, HullSpansTellObstacles}
use Rattle.qm_statement.specs.Origins.{AreOriginsOf}
use Rattle.qm_statement.specs.Rows.{IsWorldOf, AreRowsOverCoarse, IsLedByOpenChain}
use Rattle.qm_statement.specs.TreeOfMap.{IsTreeOfMap}

-- The theorem on one page: what a successful `compile` means for the tree file in OUT.

-- what the leaf of a point is: it is filled, or has the contents that the map's brushes define at the point
abbrev pub HasRightContents : MapFile → Point → Leaf → Type 0
HasRightContents map x leaf = IsTrue leaf.filled ⊎ HasContents (drawn_solids map) x leaf.contents

-- what bounds rows from above: they are exactly the coarse ones with `--fast`; and without it a row has a leaf other than its own
-- only if an open chain of portals leads there
abbrev pub AreBounded : Bool → World → List (List Bool) → Type 0
AreBounded true world rows = AreRowsOverCoarse world rows
AreBounded false world rows = (m n : ℕ) → IsIn (slice_index_or rows m []) n → (n ≡ m) ⊎ IsLedByOpenChain world.portals m n

-- What holds of the file. Each point inside the cube that is on no node plane is led to the contents that the map's brushes
-- define there, or to a filled leaf. The tree is the map's, with some leaves filled. No entity of the map leaks. If some entity takes
-- part, exactly the leaves are filled that the outside reaches before filling; else none is. Each line of sight has its last leaf in
-- the row of its first, and its first in the row of its last. The rows are bounded from above. The spans of each segment inside the cube tell
-- the contents that the brushes define, except in filled leaves. If the box of a hull, set at a point of a segment, meets an
-- obstacle, some span through that hull is solid. The sections are those that the options ask for, and the form is the one in which
-- maps are compiled.
pub record TellsOfMap (map : MapFile) (options : Options) (file : TreeFile) : Type 0 where
  pub contents : (x : Point) → IsInCube x → IsOffNodePlanes file.tree.planes file.tree.shape x → HasRightContents map x (leaf_record_at file.tree.planes file.tree.shape x)
  pub unfilled : Tree
  pub is_tree : IsTreeOfMap map unfilled
  pub origins : List Origin
  pub are_origins : AreOriginsOf map origins
  pub none_leaks : (origin : Origin) → Contains origins origin → Leaks unfilled origin → ⊥
  pub marks : List Bool
  pub is_marked : file.tree ≡ marked_tree marks unfilled
  pub filled : (k : ℕ) → IsFilledLeaf file.tree k ↔ IsToBeFilled unfilled origins k
  pub rows : List (List Bool)
  pub has_rows : file.rows ≡ Some rows
  pub sight : (s : Segment) → IsLineOfSight (HasContents (drawn_solids map)) file.tree s → HoldsEnds file.tree rows s
  pub world : World
  pub is_world : IsWorldOf file.tree world
  pub bounded : AreBounded options.fast world rows
  pub spans : SpansTellContents map file.tree
  pub hull_spans : HullSpansTellObstacles map file
  pub sections : AreSectionsAsked map file.tree options file.sections
  pub form : HasCompiledForm file

-- The text under MAP means a map, and OUT has exactly the bytes of a valid tree file of which all of this holds. If they are at
-- most 1 GiB, by a law of the format this is the file that is read in OUT.
pub record IsHeadline (before after : ShelfState) (options : Options) (files : FileNames) : Type 0 where
  pub map : MapFile
  pub means : IsMapText (text_under before files.map_name) map
  pub file : TreeFile
  pub valid : IsValidFile file
  pub held : HoldsExactly after files.out_name (file_bytes file)
  pub tells : TellsOfMap map options file
