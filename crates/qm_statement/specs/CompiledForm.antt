use Rattle.std.specs.Prelude.{◌≡◌}
use Rattle.qm_space.specs.Bounds.{world_extent}
use Rattle.qm_formats.specs.TreeFile.{TreeFile}

-- the form in which maps are compiled: version 2, with half the size of the world's cube as its bound
pub record HasCompiledForm (file : TreeFile) : Type 0 where
  pub version : file.version ≡ 2
  pub bound : file.bound ≡ world_extent
