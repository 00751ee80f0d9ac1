use Rattle.std.specs.Prelude.{◌≡◌, ℕ, List}
use Rattle.qm_formats.specs.TreeFile.{TreeFile, IsValidFile}
use Rattle.qm_formats.specs.FileLayout.{file_bytes}

-- The bytes of a tree file.

-- these are exactly the bytes of a valid tree file; where they are no more than the limit of what is read, which is 1 GiB, by
-- a law of the format they are read as this file
pub record AreBytesOf (file : TreeFile) (bytes : List ℕ) : Type 0 where
  pub valid : IsValidFile file
  pub exactly : bytes ≡ file_bytes file
