use Rattle.std.specs.Prelude.{◌≡◌, ℕ, Bool, List, Ok, Result, IfOk}
use Rattle.qm_mapfile.specs.declared.entity.MapFile.{MapFile}
use Rattle.qm_partition.specs.Marked.{marked_tree}
use Rattle.qm_partition.specs.Tree.{Tree}
use Rattle.qm_contacts.specs.Contacts.{Contacts, AreContacts}
use Rattle.qm_contacts.specs.Portals.{portals_of}
use Rattle.qm_contacts.specs.World.{World}
use Rattle.qm_flood.specs.declared.answer.Flood.{Flood}
use Rattle.qm_face_sections.specs.CutTrees.{HasSurfaceOf}
use Rattle.qm_commands.specs.declared.options.Options.{Options}
use Rattle.qm_statement.specs.CompiledMap.{IsCompiledToLeak}
use Rattle.qm_compiler.specs.Answers.{IsCompiled}
use Rattle.qm_compiler.specs.declared.building.Built.{Built}
use Rattle.qm_compiler.specs.declared.compiled.Compiled.{Compiled}
use Rattle.qm_compiler.specs.declared.preparing.Prepared.{Prepared}
use Rattle.qm_compiler.specs.declared.preparing.Prepared.TheVariants.{Leak, Marked}
use Rattle.qm_compiler.specs.inner.Counted.{IsTreeOfBrushes}
use Rattle.qm_compiler.specs.inner.Finished.{IsFinished}
use Rattle.qm_compiler.specs.inner.Flooded.{IsFloodOfMap}

-- What is known of a map before rows are found.

-- what was built, with the leaves of a row filled, and with its world by the contacts of the tree
unfoldable pub marked_of : Bool → Tree → ℕ → ℕ → Contacts → List Bool → Prepared
marked_of sealed tree brushes flat contacts row =
    Marked sealed (record { tree = marked_tree row tree; brushes = brushes; flat = flat })
    (record { tree = marked_tree row tree; portals = portals_of (marked_tree row tree) contacts.touchings })

-- the same by the row that was found
pub record IsMarkedWith {E : Type 0} (sealed : Bool) (tree : Tree) (brushes flat : ℕ) (contacts : Contacts) (found : Result (List Bool) E) (prepared : Prepared) : Type 0 where
  pub row : List Bool
  pub found_is : found ≡ Ok row
  pub is_marked : prepared ≡ marked_of sealed tree brushes flat contacts row

-- the surface of the map can be cut by the tree of the world, which has these contacts; and whatever the options: with the rows and
-- counts of the world, and with the map's sections, this is what the map compiles to
pub record BecomesCompiled (map : MapFile) (contacts : Contacts) (sealed : Bool) (built : Built) (world : World) : Type 0 where
  pub has_surface : HasSurfaceOf map world.tree
  pub has_contacts : AreContacts world.tree contacts
  pub becomes : (options : Options) (compiled : Compiled) → IsFinished map options sealed built.brushes built.flat built.tree world compiled → IsCompiled map options compiled

-- the leak of the map, or what becomes what it compiles to
unfoldable pub IsPrepared : MapFile → Contacts → Prepared → Type 0
IsPrepared map contacts (Marked sealed built world) = BecomesCompiled map contacts sealed built world
IsPrepared map contacts (Leak file entity trail) = IsCompiledToLeak map file entity trail

-- whatever the map of which the tree is, and in which this is found: it is prepared so
abbrev pub IsPreparedForEachMap : {E : Type 0} → Tree → ℕ → ℕ → Contacts → Result Flood E → Prepared → Type 0
IsPreparedForEachMap tree brushes flat contacts found prepared =
    (map : MapFile) → IsTreeOfBrushes map tree brushes flat → IfOk found (IsFloodOfMap map tree) → IsPrepared map contacts prepared
