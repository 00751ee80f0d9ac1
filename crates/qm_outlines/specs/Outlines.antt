use Rattle.std.specs.Prelude.{ℕ, List, Contains, ◌↔◌}
use Rattle.std.specs.List.Sorted.{IsStrictlyIncreasing}
use Rattle.qm_space.specs.Cuboid.{Cuboid}
use Rattle.qm_solids.specs.Solid.{Solid}
use Rattle.qm_partition.specs.Tree.{Tree}
use Rattle.qm_segments.specs.LeafNumber.{IsNumberOf}
use Rattle.qm_outlines.specs.HeldPoints.{IsModelBox, HasFull}
use Rattle.qm_outlines.specs.ModelLeaves.{IsTouchedLeaf}

-- The outline of solids beside a tree, on the way to a model of theirs: their box and the leaves that they touch.

-- these are the leaves that solids touch, by their places in the tree, in any order and as often as you like
abbrev pub AreTouchedLeaves : Tree → List Solid → List ℕ → Type 0
AreTouchedLeaves tree solids touched = (k : ℕ) → Contains touched k ↔ IsTouchedLeaf tree solids k

-- the outline of solids of which one is full
pub record IsOutline (tree : Tree) (solids : List Solid) (box : Cuboid) (touched : List ℕ) : Type 0 where
  pub full : HasFull solids
  pub box_is : IsModelBox solids box
  pub touched_are : AreTouchedLeaves tree solids touched

-- a number of one of some leaves, which they have by their places in the tree
abbrev pub IsNumberAmong : Tree → List ℕ → ℕ → Type 0
IsNumberAmong tree leaves n = (leaf : ℕ) × IsNumberOf tree n leaf × Contains leaves leaf

-- these are the numbers of those of the leaves that are numbered, in any order
abbrev pub AreFoundNumbers : Tree → List ℕ → List ℕ → Type 0
AreFoundNumbers tree leaves numbers = (n : ℕ) → Contains numbers n ↔ IsNumberAmong tree leaves n

-- the same in ascending order
pub record AreSortedNumbers (tree : Tree) (leaves numbers : List ℕ) : Type 0 where
  pub ascending : IsStrictlyIncreasing numbers
  pub are : AreFoundNumbers tree leaves numbers
