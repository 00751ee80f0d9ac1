use Rattle.std.specs.Prelude.{[]}
use Rattle.std.specs.List.{AllZip}
use Rattle.qm_space.specs.Entered.{AreEnteredInBook}
use Rattle.qm_mapfile.specs.declared.entity.MapFile.{MapFile}
use Rattle.qm_drawn.specs.Planes.{drawn_planes}
use Rattle.qm_drawn.specs.Solids.{drawn_solids}
use Rattle.qm_solids.specs.Alike.{IsAlike}
use Rattle.qm_solids.specs.InBook.{solids_in, IsBookOf}
use Rattle.qm_partition.specs.Tree.{Tree}
use Rattle.qm_contacts.specs.Contacts.{AreContacts}
use Rattle.qm_sections.specs.declared.surface_parts.SurfaceParts.{SurfaceParts}

-- What the surface of a map is cut from.

-- these are the brushes of the map that are not clip, by the numbers of their planes in a book that these alone entered, and the
-- contacts of the tree
pub record AreSurfaceParts (map : MapFile) (tree : Tree) (parts : SurfaceParts) : Type 0 where
  pub entered : AreEnteredInBook [] (drawn_planes map) parts.book
  pub solids : AllZip IsAlike (drawn_solids map) (solids_in parts.book parts.list)
  pub is_book : IsBookOf parts.book parts.list
  pub are_contacts : AreContacts tree parts.contacts
