use Rattle.std.specs.Prelude.{[], Option, Some, None}
use Rattle.std.specs.List.{AllZip}
use Rattle.qm_space.specs.Entered.{AreEnteredInBook}
use Rattle.qm_mapfile.specs.declared.entity.MapFile.{MapFile}
use Rattle.qm_drawn.specs.Planes.{drawn_planes}
use Rattle.qm_drawn.specs.Solids.{drawn_solids}
use Rattle.qm_solids.specs.Alike.{IsAlike}
use Rattle.qm_solids.specs.InBook.{solids_in, IsBookOf}
use Rattle.qm_contacts.specs.Contacts.{Contacts}
use Rattle.qm_sections.specs.declared.surface_parts.SurfaceParts.{SurfaceParts}
use Rattle.qm_compiler.specs.declared.building.Brushes.{Brushes}

-- Brushes that are kept when the tree is built, to cut the surface from.

-- these are the brushes of the map that are not clip, by the numbers of their planes in a book that these alone entered
pub record AreBrushesOf (map : MapFile) (brushes : Brushes) : Type 0 where
  pub entered : AreEnteredInBook [] (drawn_planes map) brushes.book
  pub solids : AllZip IsAlike (drawn_solids map) (solids_in brushes.book brushes.list)
  pub is_book : IsBookOf brushes.book brushes.list

-- brushes that were kept, if they were, with the contacts
abbrev pub parts_with : Contacts → Option Brushes → Option SurfaceParts
parts_with contacts (Some brushes) = Some (record { list = brushes.list; book = brushes.book; contacts = contacts })
parts_with contacts None = None
