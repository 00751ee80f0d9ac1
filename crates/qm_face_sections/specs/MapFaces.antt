use Rattle.std.specs.Prelude.{List}
use Rattle.std.specs.List.{AllZip}
use Rattle.qm_space.specs.Bounds.{world_extent}
use Rattle.qm_space.specs.Plane.{Plane}
use Rattle.qm_mapfile.specs.declared.entity.MapFile.{MapFile}
use Rattle.qm_drawn.specs.Solids.{drawn_solids}
use Rattle.qm_solids.specs.Alike.{IsAlike}
use Rattle.qm_solids.specs.InBook.{BookSolid, solids_in, IsBookOf}
use Rattle.qm_partition.specs.Tree.{Tree}
use Rattle.qm_contacts.specs.Meeting.{meetings}
use Rattle.qm_contacts.specs.Touching.{Touching, AreTouchings}
use Rattle.qm_surface.specs.Surface.{FacePiece, AreFacePieces}
use Rattle.qm_surface.specs.Covered.{CoverBoundary}
use Rattle.qm_face_layout.specs.declared.face_record.FaceRecord.{FaceRecord}
use Rattle.qm_face_sections.specs.FaceRecords.{AreRecordsOf}

-- The faces of a map, as a section of a file of a tree keeps them.

-- the brushes of a map that are not clip, in the order of the text, by the numbers of their planes in a book
pub record AreBrushesInBook (map : MapFile) (book : List Plane) (solids : List BookSolid) : Type 0 where
  pub alike : AllZip IsAlike (drawn_solids map) (solids_in book solids)
  pub is_book : IsBookOf book solids

-- the surface of a map by a tree: the pieces into which the map's brushes, by their numbers in the tree's own book, cut the contacts
-- of the tree's touching pairs; each boundary point of the tree lies in just one of them
pub record IsSurfaceOf (map : MapFile) (tree : Tree) (pieces : List FacePiece) : Type 0 where
  pub solids : List BookSolid
  pub are_brushes : AreBrushesInBook map tree.planes solids
  pub touchings : List Touching
  pub are_touchings : AreTouchings tree.planes (meetings tree) touchings
  pub are_pieces : AreFacePieces tree solids touchings pieces
  pub cover : CoverBoundary tree solids pieces

-- the faces of a map by a tree: the records of its surface, by the tree's own planes and the walls of the world's cube
pub record AreFacesOfMap (map : MapFile) (tree : Tree) (faces : List FaceRecord) : Type 0 where
  pub pieces : List FacePiece
  pub is_surface : IsSurfaceOf map tree pieces
  pub are_records : AreRecordsOf tree.planes world_extent pieces faces
