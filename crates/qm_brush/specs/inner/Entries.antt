use Rattle.std.specs.Prelude.{◌-◌, ◌≤◌, ◌<◌, ◌^◌, List, length, take, drop, map, All}
use Rattle.qm_solids.specs.declared.face.FaceRef.{FaceRef}
use Rattle.qm_solids.specs.InBook.{BookSolid}
use Rattle.qm_brush.specs.declared.entry.Entry.{Entry}

-- How a brush list keeps its brushes: one list of the faces of all of them, and an entry for each brush.

abbrev pub faces_of_entry : List FaceRef → Entry → List FaceRef
faces_of_entry faces entry = take (entry.end - entry.start) (drop entry.start faces)

abbrev pub solid_of_entry : List FaceRef → Entry → BookSolid
solid_of_entry faces entry = record { contents = entry.contents; full = entry.full; faces = faces_of_entry faces entry }

abbrev pub solids_of_entries : List FaceRef → List Entry → List BookSolid
solids_of_entries faces entries = map (solid_of_entry faces) entries

-- the faces of an entry stand in the list of all faces, and their places in the entry are numbers of 32 bits
pub record IsWithin (faces : List FaceRef) (entry : Entry) : Type 0 where
  pub ordered : entry.start ≤ entry.end
  pub bounded : entry.end ≤ length faces
  pub few : entry.end - entry.start < 2 ^ 32

abbrev pub AreWithin : List FaceRef → List Entry → Type 0
AreWithin faces entries = All (IsWithin faces) entries
