-- A polygon is pushed down a tree from a child.
use Rattle.std.specs.Prelude.{◌≡◌, ◌≤◌, ◌+◌, ◌^◌, ℕ, Option, Some, None, List, [], ◌∷◌, ◌++◌, sum_by}
use Rattle.qm_lists.specs.inner.Stack.{Leaves, IsTakenOff, StandsForKnown, IsUnderWay}
use Rattle.qm_convex.specs.Winding.{Winding, IsConvex}
use Rattle.qm_partition.specs.declared.node.Child.{Child}
use Rattle.qm_partition.specs.Partition.{Partition}
use Rattle.qm_partition.specs.Tree.{Tree}
use Rattle.qm_partition.specs.Counting.{node_count}
use Rattle.qm_partition.specs.inner.PlacedPart.{nodes_from}
use Rattle.qm_contacts.specs.Meeting.{leaves_below}
use Rattle.qm_contacts.specs.inner.Pieces.{LeafPiece, ArePieces}
use Rattle.qm_contacts.specs.inner.Due.{StandsFor, DuePolygon, DueBelow, due_of, ComesToPieces}

-- the child stands for some part of the tree
pub record IsChildOf (tree : Tree) (child : Child) : Type 0 where
  pub part : Partition
  pub n : ℕ
  pub k : ℕ
  pub stands : StandsFor tree.shape child part n k

-- what the leaves below a child have of a polygon
abbrev pub HasPieces : Tree → Child → Winding → List LeafPiece → Type 0
HasPieces tree child winding pieces =
    (part : Partition) (n k : ℕ) → StandsFor tree.shape child part n k → ArePieces tree.planes winding (leaves_below part k) pieces

-- what is known of a polygon that is due
pub record IsDueBelow (tree : Tree) (entry : DueBelow) : Type 0 where
  pub stands : StandsFor tree.shape entry.due.child entry.part entry.n entry.k
  pub convex : IsConvex entry.due.winding

abbrev pub polygon_at : Winding → Child → DuePolygon
polygon_at winding child = record { child = child; winding = winding }

-- more than both children of a node have there is to do at the node
abbrev pub weight_at : Tree → Child → ℕ
weight_at tree child = 3 ^ nodes_from (node_count tree.shape) child

abbrev pub polygon_weight : Tree → DuePolygon → ℕ
polygon_weight tree polygon = weight_at tree polygon.child

-- the pieces of a polygon are some pieces, and those of others that are due
abbrev pub LeavesPolygons : Tree → DuePolygon → List DuePolygon → List LeafPiece → Type 0
LeavesPolygons tree = Leaves due_of (IsDueBelow tree) (ComesToPieces tree.planes)

-- a polygon is taken off those that are due
abbrev pub IsPushed : Tree → DuePolygon → List DuePolygon → List DuePolygon → List LeafPiece → List LeafPiece → Type 0
IsPushed tree = IsTakenOff due_of (IsDueBelow tree) (ComesToPieces tree.planes) (polygon_weight tree)

-- it can be due: its child is one of the tree
abbrev pub MayBeDue : Tree → DuePolygon → Type 0
MayBeDue tree = StandsForKnown due_of (IsDueBelow tree) (ComesToPieces tree.planes)

-- what is due and done on the way to all its pieces
abbrev pub IsPushing : Tree → DuePolygon → List DuePolygon → List LeafPiece → Type 0
IsPushing tree = IsUnderWay due_of (IsDueBelow tree) (ComesToPieces tree.planes)

-- what is left of a polygon, at the child to which it came, if anything is
abbrev pub rest_at : Option Child → Winding → List DuePolygon
rest_at None winding = []
rest_at (Some child) winding = polygon_at winding child ∷ []

abbrev pub rest_weight : Tree → Option Child → ℕ
rest_weight tree None = 1
rest_weight tree (Some child) = weight_at tree child

-- a polygon goes down from a child to another: what is cut off is due, and this and what is left have its pieces
pub record GoesDown (tree : Tree) (old : Winding) (from : Child) (new : Winding) (to : Option Child) (old_due new_due : List DuePolygon) : Type 0 where
  pub others : List DuePolygon
  pub stack_is : new_due ≡ old_due ++ others
  pub leaves : LeavesPolygons tree (polygon_at old from) (others ++ rest_at to new) []
  pub lighter : sum_by (polygon_weight tree) others + rest_weight tree to ≤ weight_at tree from

-- what is left of a polygon, as the piece of a leaf, if it came to one
abbrev pub piece_in : Option ℕ → Winding → List LeafPiece
piece_in None winding = []
piece_in (Some leaf) winding = record { leaf = leaf; winding = winding } ∷ []

-- a half, if there is one, at its child
abbrev pub half_at : Option Winding → Child → List DuePolygon
half_at None child = []
half_at (Some winding) child = polygon_at winding child ∷ []
