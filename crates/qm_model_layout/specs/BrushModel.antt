use Rattle.std.specs.Prelude.{◌<◌, ◌≤◌, ◌^◌, ◌+◌, ℕ, ◌≤ℤ◌, IsTrue, List, [], ◌∷◌, length}
use Rattle.std.specs.Int.{w32}
use Rattle.qm_space.specs.Cuboid.{Stretch, Cuboid}
use Rattle.qm_formats.specs.Fields.{fits_signed}
use Rattle.qm_formats.specs.TreeFile.{TreeFile, IsValidFile}
use Rattle.qm_formats.specs.FileLayout.{file_bytes, file_limit}
use Rattle.qm_plain.specs.PlainFile.{IsPlainFile}

-- The brush models that a section keeps.

-- the model of an entity: the entity's number, its box, the numbered leaves of the world that it touches, and the file of its
-- own tree
pub record BrushModel : Type 0 where
  pub entity : ℕ
  pub box : Cuboid
  pub leaves : List ℕ
  pub file : TreeFile

-- a stretch that is written in two numbers of 32 bits, its low end at most its high one
pub record IsWrittenStretch (stretch : Stretch) : Type 0 where
  pub in_order : stretch.low ≤ℤ stretch.high
  pub low_fits : IsTrue (fits_signed w32 stretch.low)
  pub high_fits : IsTrue (fits_signed w32 stretch.high)

pub record IsWrittenBox (box : Cuboid) : Type 0 where
  pub x : IsWrittenStretch box.x
  pub y : IsWrittenStretch box.y
  pub z : IsWrittenStretch box.z

-- leaves that ascend from a number on, each below a limit; each is written in 64 bits
abbrev pub AscendFrom : ℕ → ℕ → List ℕ → Type 0
AscendFrom least limit [] = Unit {0}
AscendFrom least limit (n ∷ rest) = (least ≤ n) × (n < limit) × (n < 2 ^ 64) × AscendFrom (n + 1) limit rest

-- a plain tree file for a cube that is short enough to be read
pub record IsModelFile (bound : ℕ) (file : TreeFile) : Type 0 where
  pub is_plain : IsPlainFile bound file
  pub is_valid : IsValidFile file
  pub fits : length (file_bytes file) ≤ file_limit

-- a model that can stand in a section of a file for that cube with so many numbered leaves, behind one of another entity
pub record IsModelBehind (bound numbered before : ℕ) (model : BrushModel) : Type 0 where
  pub above : before < model.entity
  pub entity_fits : model.entity < 2 ^ 64
  pub box : IsWrittenBox model.box
  pub few : length model.leaves < 2 ^ 64
  pub leaves : AscendFrom 0 numbered model.leaves
  pub file : IsModelFile bound model.file

-- models of entities that ascend, the first behind a number
abbrev pub AreModelsBehind : ℕ → ℕ → ℕ → List BrushModel → Type 0
AreModelsBehind bound numbered before [] = Unit {0}
AreModelsBehind bound numbered before (model ∷ models) = IsModelBehind bound numbered before model × AreModelsBehind bound numbered model.entity models

-- the models that can stand in a section
pub record AreValidModels (bound numbered : ℕ) (models : List BrushModel) : Type 0 where
  pub few : length models < 2 ^ 32
  pub each : AreModelsBehind bound numbered 0 models
