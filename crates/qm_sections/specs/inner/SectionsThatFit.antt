use Rattle.std.specs.Prelude.{◌<◌, ◌^◌, ℕ, length}
use Rattle.qm_mapfile.specs.declared.entity.MapFile.{MapFile}
use Rattle.qm_partition.specs.Tree.{Tree}
use Rattle.qm_formats.specs.Fields.{AreBytes}
use Rattle.qm_formats.specs.TreeFile.{Section}
use Rattle.qm_statement.specs.AskedSections.{IsHullSection, IsModelSection, IsFaceSection}

-- Sections in as many bytes as a section can have.

-- the hull of a number
pub record IsHullThatFits (map : MapFile) (hull : ℕ) (section : Section) : Type 0 where
  pub is_hull : IsHullSection map hull section
  pub length_fits : length section.bytes < 2 ^ 64
  pub are_bytes : AreBytes section.bytes

-- the brush models of a map beside the tree of its world
pub record AreModelsThatFit (map : MapFile) (world : Tree) (section : Section) : Type 0 where
  pub are_models : IsModelSection map world section
  pub length_fits : length section.bytes < 2 ^ 64
  pub are_bytes : AreBytes section.bytes

-- the faces of a map by the tree of its world
pub record IsFaceSectionThatFits (map : MapFile) (world : Tree) (section : Section) : Type 0 where
  pub are_faces : IsFaceSection map world section
  pub length_fits : length section.bytes < 2 ^ 64
  pub are_bytes : AreBytes section.bytes
