use Rattle.std.specs.Prelude.{◌≡◌, ℕ, Bool, true, false, List, [], ◌∷◌, ◌++◌}
use Rattle.qm_mapfile.specs.declared.entity.MapFile.{MapFile}
use Rattle.qm_partition.specs.Tree.{Tree}
use Rattle.qm_formats.specs.TreeFile.{Section, TreeFile}
use Rattle.qm_hull_trees.specs.HullBoxes.{hull_box}
use Rattle.qm_hull_trees.specs.Hull.{IsHull}
use Rattle.qm_model_layout.specs.BrushModel.{BrushModel}
use Rattle.qm_model_sections.specs.MapModels.{AreBrushModelsOf}
use Rattle.qm_model_sections.specs.ModelBytes.{AreBytesOfModels}
use Rattle.qm_face_layout.specs.declared.face_record.FaceRecord.{FaceRecord}
use Rattle.qm_face_sections.specs.MapFaces.{AreFacesOfMap}
use Rattle.qm_face_sections.specs.FaceBytes.{AreBytesOfFaces}
use Rattle.qm_commands.specs.declared.options.Options.{Options}
use Rattle.qm_answers.specs.DecodedSections.{kind_of_models, kind_of_faces}
use Rattle.qm_statement.specs.TreeBytes.{AreBytesOf}

-- The sections that stand in a file beside the tree of a map.

-- the hull of a number: its kind is that number, and its bytes are those of the hull's own tree file
pub record IsHullSection (map : MapFile) (hull : ℕ) (section : Section) : Type 0 where
  pub kind_is : section.kind ≡ hull
  pub file : TreeFile
  pub is_hull : IsHull map (hull_box hull) file
  pub bytes_are : AreBytesOf file section.bytes

-- the first hull and then the second, and nothing else
pub record AreBothHulls (map : MapFile) (sections : List Section) : Type 0 where
  pub first : Section
  pub second : Section
  pub is_first : IsHullSection map 1 first
  pub is_second : IsHullSection map 2 second
  pub are_both : sections ≡ first ∷ second ∷ []

-- both hulls with `--hulls`, and none without it
abbrev pub AreHullsAsAsked : Bool → MapFile → List Section → Type 0
AreHullsAsAsked true map sections = AreBothHulls map sections
AreHullsAsAsked false map sections = sections ≡ []

-- the models of the map beside the tree of its world: their section has their kind, and its bytes are those of the models
pub record IsModelSection (map : MapFile) (world : Tree) (section : Section) : Type 0 where
  pub kind_is : section.kind ≡ kind_of_models
  pub models : List BrushModel
  pub are_models : AreBrushModelsOf map world models
  pub bytes_are : AreBytesOfModels world models section.bytes

-- one such section and nothing else
pub record AreModelsAlone (map : MapFile) (world : Tree) (sections : List Section) : Type 0 where
  pub section : Section
  pub is_section : IsModelSection map world section
  pub are_alone : sections ≡ section ∷ []

-- the models with `--models`, and none without it
abbrev pub AreModelsAsAsked : Bool → MapFile → Tree → List Section → Type 0
AreModelsAsAsked true map world sections = AreModelsAlone map world sections
AreModelsAsAsked false map world sections = sections ≡ []

-- the faces of the map by the tree of its world: their section has their kind, and its bytes are those of the faces
pub record IsFaceSection (map : MapFile) (world : Tree) (section : Section) : Type 0 where
  pub kind_is : section.kind ≡ kind_of_faces
  pub faces : List FaceRecord
  pub are_faces : AreFacesOfMap map world faces
  pub bytes_are : AreBytesOfFaces world faces section.bytes

-- one such section and nothing else
pub record AreFacesAlone (map : MapFile) (world : Tree) (sections : List Section) : Type 0 where
  pub section : Section
  pub is_section : IsFaceSection map world section
  pub are_alone : sections ≡ section ∷ []

-- the faces with `--faces`, and none without it
abbrev pub AreFacesAsAsked : Bool → MapFile → Tree → List Section → Type 0
AreFacesAsAsked true map world sections = AreFacesAlone map world sections
AreFacesAsAsked false map world sections = sections ≡ []

-- the sections of the options that are given, in the order of their kinds, for a map and the tree of its world that is written
pub record AreSectionsAsked (map : MapFile) (world : Tree) (options : Options) (sections : List Section) : Type 0 where
  pub hulls : List Section
  pub are_hulls : AreHullsAsAsked options.hulls map hulls
  pub models : List Section
  pub are_models : AreModelsAsAsked options.models map world models
  pub faces : List Section
  pub are_faces : AreFacesAsAsked options.faces map world faces
  pub are_all : sections ≡ hulls ++ (models ++ faces)
