-- The tree of a map cuts the surface of the map when leaves of it are marked.
use Rattle.std.proofs.Common.{List, [], sym, subst}
use Rattle.qm_space.specs.Plane.{Plane}
use Rattle.qm_space.specs.Entered.{AreEnteredInBook}
use Rattle.qm_mapfile.specs.declared.entity.MapFile.{MapFile}
use Rattle.qm_drawn.specs.Planes.{drawn_planes}
use Rattle.qm_drawn.specs.Solids.{drawn_solids}
use Rattle.qm_partition.specs.Tree.{Tree}
use Rattle.qm_partition.proofs.MarkedParts.{marked_points}
use Rattle.qm_solid_tree.proofs.FilledTrees.{marked_gives}
use Rattle.qm_contacts.specs.Leak.{Origin}
use Rattle.qm_face_sections.specs.CutTrees.{HasSurfaceOf}
use Rattle.qm_statement.specs.Built.{IsBuilt}
use Rattle.qm_statement.specs.Marked.{IsMarked}

pub marked_surface : (map : MapFile) (tree : Tree) (origins : List Origin) (written : Tree) → IsBuilt map tree origins → IsMarked tree origins written → HasSurfaceOf map written
marked_surface map tree origins written built marked =
    subst (HasSurfaceOf map) (sym marked.is_marked) (record {
      entered = subst (λ (planes : List Plane). AreEnteredInBook [] (drawn_planes map) planes) (sym built.is_tree.is_tree.planes) built.is_tree.entered;
      gives_contents = marked_gives marked.row tree (drawn_solids map) built.gives_contents;
      have_points = marked_points marked.row tree built.have_points;
    })
