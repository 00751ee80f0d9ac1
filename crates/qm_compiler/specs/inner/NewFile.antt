use Rattle.std.specs.Prelude.{Bool, List, Option}
use Rattle.qm_space.specs.Bounds.{world_extent}
use Rattle.qm_partition.specs.Tree.{Tree}
use Rattle.qm_formats.specs.TreeFile.{Section, TreeFile}

-- a tree, with rows or without them, and sections, in the form in which maps are compiled
abbrev pub new_file : Tree → Option (List (List Bool)) → List Section → TreeFile
new_file tree rows sections = record { version = 2; bound = world_extent; tree = tree; rows = rows; sections = sections }
