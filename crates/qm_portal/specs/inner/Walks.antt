-- All cells of a tree are gone through, with what is found at each.
use Rattle.std.specs.Prelude.{◌≡◌, ℕ, Bool, true, false, List, [], ◌∷◌, ◌++◌, map}
use Rattle.qm_lists.specs.inner.Stack.{IsTakenOff, StandsForKnown, IsUnderWay}
use Rattle.qm_convex.specs.Winding.{Winding}
use Rattle.qm_convex.specs.inner.Facets.{Facet}
use Rattle.qm_partition.specs.declared.node.Node.{Node}
use Rattle.qm_partition.specs.declared.node.Child.{Child}
use Rattle.qm_partition.specs.Partition.{Partition}
use Rattle.qm_partition.specs.Tree.{Tree}
use Rattle.qm_partition.specs.Numbering.{child_of}
use Rattle.qm_contacts.specs.Meeting.{leaves_below}
use Rattle.qm_contacts.specs.Touching.{Touching}
use Rattle.qm_contacts.specs.inner.Descent.{AreBounds, AreWallFacets}
use Rattle.qm_contacts.specs.inner.Pieces.{LeafPiece, touching_at, ArePiecesOfEach}
use Rattle.qm_contacts.specs.inner.Due.{StandsFor, DueCell, IsDueCell, cell_due_of, ComesToTouchings, ComesToOutside}
use Rattle.qm_portal.specs.declared.piece.Buffers.{Buffers}
use Rattle.qm_portal.specs.inner.Pushes.{HasPieces, weight_at}

-- whether there is a facet
abbrev pub has_facets : List Facet → Bool
has_facets [] = false
has_facets (first ∷ facets) = true

abbrev pub cell_weight : Tree → DueCell → ℕ
cell_weight tree cell = weight_at tree cell.child

-- the cell can be due: its child is one of the tree, and its facets are those of the way there
abbrev pub MayBeDueCell : Tree → DueCell → Type 0
MayBeDueCell tree = StandsForKnown cell_due_of (IsDueCell tree) (ComesToTouchings tree.planes)

-- the cell with which the tree begins
pub record IsCubeCell (tree : Tree) (cell : DueCell) : Type 0 where
  pub child_is : cell.child ≡ child_of tree.shape 0 0
  pub bounds : AreBounds tree.planes [] cell.bounds
  pub facets : AreWallFacets tree.planes [] cell.on_walls

-- a cell is taken off those that are due: its touching pairs, and its leaves that touch the outside
pub record IsVisited (tree : Tree) (cell : DueCell) (old new : List DueCell) (old_pairs new_pairs : List Touching) (old_outside new_outside : List Bool) : Type 0 where
  pub touchings : IsTakenOff cell_due_of (IsDueCell tree) (ComesToTouchings tree.planes) (cell_weight tree) cell old new old_pairs new_pairs
  pub outside : IsTakenOff cell_due_of (IsDueCell tree) (ComesToOutside tree) (cell_weight tree) cell old new old_outside new_outside

-- what is due and found on the way through all cells below one
pub record IsWalking (tree : Tree) (first : DueCell) (due : List DueCell) (pairs : List Touching) (row : List Bool) : Type 0 where
  pub touchings : IsUnderWay cell_due_of (IsDueCell tree) (ComesToTouchings tree.planes) first due pairs
  pub outside : IsUnderWay cell_due_of (IsDueCell tree) (ComesToOutside tree) first due row

-- nothing is in the lists that are used again
abbrev pub AreEmpty : Buffers → Type 0
AreEmpty buffers = (buffers.due.items ≡ []) × (buffers.fronts.items ≡ []) × (buffers.pieces.items ≡ [])

-- ---- the touching pairs at a node

-- of the pieces of one leaf in front, what the leaves behind have of it
pub record IsRowAdded (tree : Tree) (n : ℕ) (back : Child) (front : LeafPiece) (old new : List Touching) : Type 0 where
  pub pieces : List LeafPiece
  pub added : new ≡ old ++ map (touching_at n front.leaf) pieces
  pub have : HasPieces tree back front.winding pieces

-- of pieces of several leaves in front
pub record AreRowsAdded (tree : Tree) (n : ℕ) (back : Child) (fronts : List LeafPiece) (old new : List Touching) : Type 0 where
  pub own : List Touching
  pub added : new ≡ old ++ own
  pub rows : (part : Partition) (m k : ℕ) → StandsFor tree.shape back part m k → ArePiecesOfEach tree.planes n (leaves_below part k) fronts own

-- of the section of the node
pub record ArePairsAdded (tree : Tree) (n : ℕ) (here : Node) (section : Winding) (old new : List Touching) : Type 0 where
  pub fronts : List LeafPiece
  pub have : HasPieces tree here.front section fronts
  pub rows : AreRowsAdded tree n here.back fronts old new
