use Rattle.std.specs.Prelude.{◌≡◌, ℕ, ◌+◌, Bool, true, false, ◌&&◌, nat_lt, nat_le, int_le, Option, Some, None, List, [], ◌∷◌, length, if◌then◌else◌}
use Rattle.std.specs.Int.{w32, w64}
use Rattle.qm_space.specs.Cuboid.{Stretch, Cuboid}
use Rattle.qm_partition.specs.Partition.{leaf}
use Rattle.qm_contents.specs.declared.contents.Contents.TheVariants.{Empty}
use Rattle.qm_formats.specs.Layout.{Decoded, got, bad, Layout, seen_as, tested, part, last_part, many, each_after, read_to_end}
use Rattle.qm_formats.specs.Fields.{raw, unsigned, signed}
use Rattle.qm_formats.specs.FileParts.{FileFaultKind, short, trailing, section_form}
use Rattle.qm_formats.specs.TreeFile.{TreeFile, small_bound}
use Rattle.qm_formats.specs.FileLayout.{file_layout, file_bytes, file_limit, read_file}
use Rattle.qm_plain.specs.PlainFile.{is_plain}
use Rattle.qm_model_layout.specs.BrushModel.{BrushModel, AreValidModels}

-- The bytes of the section of brush models: how many there are, and each model. A number that is due and a list of which too
-- little is there are faults at the end; what is wrong of a model whose bytes are all there is one at its first byte; and what
-- stands behind the last is one at its place.

-- a model as it is kept: the bytes of its tree's file in place of the file
pub record KeptModel : Type 0 where
  pub entity : ℕ
  pub box : Cuboid
  pub leaves : List ℕ
  pub bytes : List ℕ

-- the three low ends and the three high ends, each in 32 bits
unfoldable pub box_layout : Layout FileFaultKind Cuboid
box_layout =
    part (λ box. box.x.low) (signed short w32) (λ x_low.
    part (λ box. box.y.low) (signed short w32) (λ y_low.
    part (λ box. box.z.low) (signed short w32) (λ z_low.
    part (λ box. box.x.high) (signed short w32) (λ x_high.
    part (λ box. box.y.high) (signed short w32) (λ y_high.
    last_part (λ box. box.z.high) (signed short w32) (λ z_high. record {
      x = record { low = x_low; high = x_high };
      y = record { low = y_low; high = y_high };
      z = record { low = z_low; high = z_high };
    }))))))

-- how many leaves there are, and each, in 64 bits
unfoldable pub model_leaves_layout : Layout FileFaultKind (List ℕ)
model_leaves_layout = part (λ (leaves : List ℕ). length leaves) (unsigned short w64) (λ count. last_part (λ leaves. leaves) (many (unsigned short w64) count) (λ leaves. leaves))

-- how many bytes there are, in 64 bits, and these
unfoldable pub counted_bytes_layout : Layout FileFaultKind (List ℕ)
counted_bytes_layout = part (λ (bytes : List ℕ). length bytes) (unsigned short w64) (λ count. last_part (λ bytes. bytes) (raw short count) (λ bytes. bytes))

-- the entity in 64 bits, the box, the leaves and the tree's bytes
unfoldable pub kept_layout : Layout FileFaultKind KeptModel
kept_layout =
    part (λ kept. kept.entity) (unsigned short w64) (λ entity.
    part (λ kept. kept.box) box_layout (λ box.
    part (λ kept. kept.leaves) model_leaves_layout (λ leaves.
    last_part (λ kept. kept.bytes) counted_bytes_layout (λ bytes. record { entity = entity; box = box; leaves = leaves; bytes = bytes }))))

abbrev pub is_in_order : Stretch → Bool
is_in_order stretch = int_le stretch.low stretch.high

-- no low end is above its high end
unfoldable pub is_box : Cuboid → Bool
is_box box = is_in_order box.x && (is_in_order box.y && is_in_order box.z)

-- numbers ascend from one on, each below a limit
unfoldable pub ascend_from : ℕ → ℕ → List ℕ → Bool
ascend_from least limit [] = true
ascend_from least limit (n ∷ rest) = nat_le least n && (nat_lt n limit && ascend_from (n + 1) limit rest)

-- a plain file for that cube is read in the bytes
abbrev pub decodes_for : ℕ → Decoded FileFaultKind TreeFile → Bool
decodes_for bound (got file next) = is_plain bound file
decodes_for bound (bad fault place) = false

-- what stands before the tree of a model, behind one of another entity: the entity is above that one, the box is one, and the leaves ascend
unfoldable pub is_model_head : ℕ → ℕ → KeptModel → Bool
is_model_head numbered before kept = nat_lt before kept.entity && (is_box kept.box && ascend_from 0 numbered kept.leaves)

-- what a model has to be, behind one of another entity
unfoldable pub is_model : ℕ → ℕ → ℕ → KeptModel → Bool
is_model bound numbered before kept = is_model_head numbered before kept && decodes_for bound (read_file kept.bytes)

-- the file that is read in bytes; bytes in which none is read never pass the test
abbrev pub file_read : Decoded FileFaultKind TreeFile → TreeFile
file_read (got file next) = file
file_read (bad fault place) = record { version = 2; bound = small_bound; tree = record { planes = []; shape = leaf (record { contents = Empty; filled = false }) }; rows = None; sections = [] }

abbrev pub model_of_kept : KeptModel → BrushModel
model_of_kept kept = record { entity = kept.entity; box = kept.box; leaves = kept.leaves; file = file_read (read_file kept.bytes) }

-- the model that is kept, where it can stand behind one of another entity
abbrev pub kept_model : ℕ → ℕ → ℕ → KeptModel → Option BrushModel
kept_model bound numbered before kept = if is_model bound numbered before kept then Some (model_of_kept kept) else None

abbrev pub kept_of_model : BrushModel → KeptModel
kept_of_model model = record { entity = model.entity; box = model.box; leaves = model.leaves; bytes = file_bytes model.file }

-- a tested model, as it is kept
abbrev pub tested_model_layout : ℕ → ℕ → ℕ → Layout FileFaultKind KeptModel
tested_model_layout bound numbered before = tested (is_model bound numbered before) section_form (λ _ at. at) kept_layout

-- a model that is kept, and whose file can be written and read
abbrev pub can_be_kept : ℕ → ℕ → ℕ → BrushModel → Bool
can_be_kept bound numbered before model =
    (tested_model_layout bound numbered before).right (kept_of_model model) && (file_layout.right model.file && nat_le (length (file_bytes model.file)) file_limit)

-- a model behind one of another entity
unfoldable pub model_layout : ℕ → ℕ → ℕ → Layout FileFaultKind BrushModel
model_layout bound numbered before = seen_as model_of_kept kept_of_model (can_be_kept bound numbered before) (tested_model_layout bound numbered before)

-- how many models there are, in 32 bits, and each, of an entity above that of the one before, the first above 0
unfoldable pub models_layout : ℕ → ℕ → Layout FileFaultKind (List BrushModel)
models_layout bound numbered =
    part (λ (models : List BrushModel). length models) (unsigned short w32) (λ count.
    last_part (λ models. models) (each_after (λ (model : BrushModel). model.entity) (model_layout bound numbered) 0 count) (λ models. models))

-- the bytes of models, whatever the cube and the number of leaves
unfoldable pub models_bytes : List BrushModel → List ℕ
models_bytes models = (models_layout small_bound 0).bytes_of models

-- these are the bytes of models that can stand in a section
pub record AreModelsBytes (bound numbered : ℕ) (bytes : List ℕ) (models : List BrushModel) : Type 0 where
  pub are_valid : AreValidModels bound numbered models
  pub bytes_are : bytes ≡ models_bytes models

-- what is read in the bytes of a section, or the first fault
unfoldable pub read_models : ℕ → ℕ → List ℕ → Decoded FileFaultKind (List BrushModel)
read_models bound numbered bytes = read_to_end (models_layout bound numbered) trailing bytes
