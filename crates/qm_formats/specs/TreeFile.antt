use Rattle.std.specs.Prelude.{◌≡◌, ◌<◌, ◌^◌, ◌⊎◌, ℕ, Bool, true, false, List, [], ◌∷◌, length, slice_index_or, Option, count_by, All, IfSome}
use Rattle.qm_space.specs.Reduced.{IsReduced}
use Rattle.qm_partition.specs.Tree.{Tree}
use Rattle.qm_partition.specs.Counting.{leaves_of, node_count}
use Rattle.qm_partition.specs.WellMade.{IsWellMade}
use Rattle.qm_contacts.specs.NumberedLeaves.{is_numbered}
use Rattle.qm_formats.specs.Fields.{AreBytes}

-- a part of a tree file for later use: its kind, and its bytes, which are kept as they are
pub record Section : Type 0 where
  pub kind : ℕ
  pub bytes : List ℕ

-- What a tree file says: its version; half the size of its world's cube; a tree, the rows of its numbered leaves where they
-- are there, and sections.
pub record TreeFile : Type 0 where
  pub version : ℕ
  pub bound : ℕ
  pub tree : Tree
  pub rows : Option (List (List Bool))
  pub sections : List Section

-- half the size of the cube that version 1 knows
abbrev pub small_bound : ℕ
small_bound = 4096

-- half the size of the larger cube, which version 2 knows beside it
abbrev pub large_bound : ℕ
large_bound = 32768

-- version 1 has the small cube and no sections
pub record IsFirstVersion (file : TreeFile) : Type 0 where
  pub version : file.version ≡ 1
  pub bound : file.bound ≡ small_bound
  pub sections : file.sections ≡ []

-- version 2 has one of two cubes
pub record IsSecondVersion (file : TreeFile) : Type 0 where
  pub version : file.version ≡ 2
  pub bound : (file.bound ≡ small_bound) ⊎ (file.bound ≡ large_bound)

abbrev pub IsOfVersion : TreeFile → Type 0
IsOfVersion file = IsFirstVersion file ⊎ IsSecondVersion file

-- a row for each of so many leaves, with a place for each, and its own place set
pub record AreRows (numbered : ℕ) (rows : List (List Bool)) : Type 0 where
  pub one_each : length rows ≡ numbered
  pub places : All (λ row. length row ≡ numbered) rows
  pub own : (k : ℕ) → k < numbered → slice_index_or (slice_index_or rows k []) k false ≡ true

-- a section of a kind above another; its kind is written in 32 bits, and its length in 64
pub record IsSectionAbove (before : ℕ) (section : Section) : Type 0 where
  pub above : before < section.kind
  pub kind_fits : section.kind < 2 ^ 32
  pub length_fits : length section.bytes < 2 ^ 64
  pub are_bytes : AreBytes section.bytes

-- sections whose kinds ascend, the first above another kind
abbrev pub AreSectionsAbove : ℕ → List Section → Type 0
AreSectionsAbove before [] = Unit {0}
AreSectionsAbove before (section ∷ sections) = IsSectionAbove before section × AreSectionsAbove section.kind sections

-- sections whose kinds ascend from 1 on: so there are fewer than 2^32
abbrev pub AreSections : List Section → Type 0
AreSections sections = AreSectionsAbove 0 sections

-- what can stand in a tree file, which may have more bytes than are read; a number of a node is written with a sign, in 64 bits
pub record IsValidFile (file : TreeFile) : Type 0 where
  pub of_version : IsOfVersion file
  pub well_made : IsWellMade file.tree
  pub few_nodes : node_count file.tree.shape < 2 ^ 63
  pub reduced : All IsReduced file.tree.planes
  pub rows : IfSome file.rows (AreRows (count_by is_numbered (leaves_of file.tree.shape)))
  pub sections : AreSections file.sections
