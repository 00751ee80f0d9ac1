use Rattle.std.specs.Prelude.{◌≡◌, ℕ, ◌+◌, Bool, true, Option, Some, None, List, [], ◌∷◌, ◌++◌, length, slice_get, ◌↔◌}
use Rattle.qm_space.specs.Plane.{Plane}
use Rattle.qm_convex.specs.Winding.{Winding}
use Rattle.qm_convex.specs.inner.Facets.{Facet}
use Rattle.qm_partition.specs.declared.node.Child.{Child}
use Rattle.qm_partition.specs.Partition.{Partition}
use Rattle.qm_partition.specs.Tree.{Tree}
use Rattle.qm_partition.specs.Counting.{leaf_count}
use Rattle.qm_partition.specs.Numbering.{child_of}
use Rattle.qm_partition.specs.Ways.{Way, ways}
use Rattle.qm_partition.specs.inner.PlacedPart.{IsPart}
use Rattle.qm_contacts.specs.Meeting.{leaves_below, meetings_below}
use Rattle.qm_contacts.specs.Touching.{Touching, AreTouchings}
use Rattle.qm_contacts.specs.Outside.{TouchesOutside}
use Rattle.qm_contacts.specs.inner.Pieces.{LeafPiece, ArePieces}
use Rattle.qm_contacts.specs.inner.Descent.{HasPointsBelow, AreBounds, AreWallFacets}

-- a child stands for a part of a partition
pub record StandsFor (whole : Partition) (child : Child) (part : Partition) (n k : ℕ) : Type 0 where
  pub is_part : IsPart whole part n k
  pub child_is : child ≡ child_of part n k

-- What is due where a polygon is pushed down numbered nodes: polygons, each with the child to which it came.

pub record DuePolygon : Type 0 where
  pub child : Child
  pub winding : Winding

-- the same, with the part of the tree for which the child stands: its nodes are numbered from n on, its leaves from k on
pub record DueBelow : Type 0 where
  pub due : DuePolygon
  pub part : Partition
  pub n : ℕ
  pub k : ℕ

abbrev pub due_of : DueBelow → DuePolygon
due_of entry = entry.due

-- what it comes to: the pieces of its polygon in the leaves of its part
abbrev pub ComesToPieces : List Plane → DueBelow → List LeafPiece → Type 0
ComesToPieces planes entry pieces = ArePieces planes entry.due.winding (leaves_below entry.part entry.k) pieces

-- what is due of one half of a polygon, if there is one
abbrev pub half_due : Option Winding → Child → Partition → ℕ → ℕ → List DueBelow
half_due None child part n k = []
half_due (Some winding) child part n k = record { due = record { child = child; winding = winding }; part = part; n = n; k = k } ∷ []

-- What is due where all cells of numbered nodes are gone through: children, each with planes that bound its cell, and with
-- the facets of the cell on walls of the cube.

pub record DueCell : Type 0 where
  pub child : Child
  pub bounds : List Plane
  pub on_walls : List Facet

-- the same, with the part of the tree for which the child stands, and the way that leads to it
pub record DueCellBelow : Type 0 where
  pub due : DueCell
  pub part : Partition
  pub n : ℕ
  pub k : ℕ
  pub above : Way

abbrev pub cell_due_of : DueCellBelow → DueCell
cell_due_of entry = entry.due

-- what is known of a cell that is due
pub record IsDueCell (tree : Tree) (entry : DueCellBelow) : Type 0 where
  pub stands : StandsFor tree.shape entry.due.child entry.part entry.n entry.k
  pub bounds : AreBounds tree.planes entry.above entry.due.bounds
  pub facets : AreWallFacets tree.planes entry.above entry.due.on_walls
  pub points : HasPointsBelow tree.planes entry.above entry.part
  pub ways_below : (i : ℕ) (way : Way) → slice_get (ways entry.part) i ≡ Some way → slice_get (ways tree.shape) (entry.k + i) ≡ Some (entry.above ++ way)

-- what it comes to: the touching pairs of its part
abbrev pub ComesToTouchings : List Plane → DueCellBelow → List Touching → Type 0
ComesToTouchings planes entry touchings = AreTouchings planes (meetings_below entry.part entry.n entry.k entry.above) touchings

-- for leaves from k on, whether each touches the outside
abbrev pub AreOutside : Tree → ℕ → List Bool → Type 0
AreOutside tree k [] = Unit {0}
AreOutside tree k (outside ∷ row) = ((outside ≡ true) ↔ TouchesOutside tree k) × AreOutside tree (k + 1) row

-- and which leaves of its part touch the outside
pub record ComesToOutside (tree : Tree) (entry : DueCellBelow) (row : List Bool) : Type 0 where
  pub one_each : length row ≡ leaf_count entry.part
  pub are : AreOutside tree entry.k row
