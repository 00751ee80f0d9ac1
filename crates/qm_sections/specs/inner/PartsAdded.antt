use Rattle.std.specs.Prelude.{◌≡◌, ℕ, Bool, List, ◌++◌}
use Rattle.qm_mapfile.specs.declared.entity.MapFile.{MapFile}
use Rattle.qm_partition.specs.Tree.{Tree}
use Rattle.qm_formats.specs.TreeFile.{Section, AreSections, AreSectionsAbove}
use Rattle.qm_statement.specs.AskedSections.{AreHullsAsAsked, AreModelsAsAsked, AreFacesAsAsked}

-- Sections that were added at the end of a list, where they were asked for, and that can stand in a file behind those of lower
-- kinds.

-- those of both hulls
pub record AreHullsAdded (asked : Bool) (map : MapFile) (before after : List Section) : Type 0 where
  pub hulls : List Section
  pub are_hulls : AreHullsAsAsked asked map hulls
  pub can_stand : AreSections hulls
  pub added : after ≡ before ++ hulls

-- the greatest kind of a hull
abbrev pub last_hull : ℕ
last_hull = 2

-- that of the brush models
pub record AreModelsAdded (asked : Bool) (map : MapFile) (world : Tree) (before after : List Section) : Type 0 where
  pub models : List Section
  pub are_models : AreModelsAsAsked asked map world models
  pub can_stand : AreSectionsAbove last_hull models
  pub added : after ≡ before ++ models

-- the kind before that of the faces, which is that of the brush models
abbrev pub kind_before_faces : ℕ
kind_before_faces = 3

-- that of the faces
pub record AreFacesAdded (asked : Bool) (map : MapFile) (world : Tree) (before after : List Section) : Type 0 where
  pub faces : List Section
  pub are_faces : AreFacesAsAsked asked map world faces
  pub can_stand : AreSectionsAbove kind_before_faces faces
  pub added : after ≡ before ++ faces
