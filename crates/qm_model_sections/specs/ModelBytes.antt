use Rattle.std.specs.Prelude.{◌≡◌, ◌≤◌, ℕ, List, length, count_by}
use Rattle.qm_space.specs.Bounds.{world_extent}
use Rattle.qm_partition.specs.Tree.{Tree}
use Rattle.qm_partition.specs.Counting.{leaves_of}
use Rattle.qm_contacts.specs.NumberedLeaves.{is_numbered}
use Rattle.qm_formats.specs.FileLayout.{file_limit}
use Rattle.qm_model_layout.specs.BrushModel.{BrushModel, AreValidModels}
use Rattle.qm_model_layout.specs.ModelLayout.{models_bytes}

-- The bytes of brush models in a section of a file of the world's tree.

-- these are exactly the bytes of the models; and where they are no more than the limit of what is read, which is 1 GiB, the models
-- can stand in a section beside the numbered leaves of the tree
pub record AreBytesOfModels (world : Tree) (models : List BrushModel) (bytes : List ℕ) : Type 0 where
  pub exactly : bytes ≡ models_bytes models
  pub are_valid : length bytes ≤ file_limit → AreValidModels world_extent (count_by is_numbered (leaves_of world.shape)) models
