-- Worked row: the tree of one cube, and the leaf of a point in it.
use Rattle.std.proofs.Common.{◌≡◌, ◌<◌, pos, neg_ℤ, false, true, [], ◌∷◌, refl, arith}
use Rattle.std.proofs.lemmas.Int.{ints}
use Rattle.std.proofs.lemmas.List.Elements.{All-from_recursion}
use Rattle.qm_space.specs.Point.{Point, IsWithinExtent}
use Rattle.qm_space.specs.Plane.{plane_of, value, IsInFront}
use Rattle.qm_space.specs.Cell.{IsInCell}
use Rattle.qm_contents.specs.declared.contents.Contents.TheVariants.{Empty, Solid}
use Rattle.qm_partition.specs.declared.node.Leaf.{Leaf as LeafRecord}
use Rattle.qm_partition.specs.declared.node.Child.TheVariants.{Node, Leaf}
use Rattle.qm_partition.specs.Partition.{leaf, node}
use Rattle.qm_partition.specs.Tree.{Tree, NamesItsPlanes}
use Rattle.qm_partition.specs.Joining.{joined}
use Rattle.qm_partition.specs.Counting.{leaf_count, node_count, leaves_of, node_planes}
use Rattle.qm_partition.specs.Numbering.{nodes_of, AreNumbered}
use Rattle.qm_partition.specs.LeafOfPoint.{node_value, leaf_record_at, leaf_at, IsOffNodePlanes}
use Rattle.qm_partition.specs.Ways.{Way, cell_of_way, LeadsTo, IsInLeaf}

abbrev empty : LeafRecord
empty = record { contents = Empty; filled = false }

abbrev stone : LeafRecord
stone = record { contents = Solid; filled = false }

-- the cube of the points whose coordinates lie between 0 and 64: the planes x = 0, x = 64 and so on, each with an empty
-- leaf outside it
abbrev pub cube_tree : Tree
cube_tree = record {
  planes =
      plane_of (pos 1) (pos 0) (pos 0) (pos 0) ∷ plane_of (pos 1) (pos 0) (pos 0) (pos 64) ∷ plane_of (pos 0) (pos 1) (pos 0) (pos 0)
      ∷ plane_of (pos 0) (pos 1) (pos 0) (pos 64) ∷ plane_of (pos 0) (pos 0) (pos 1) (pos 0) ∷ plane_of (pos 0) (pos 0) (pos 1) (pos 64) ∷ [];
  shape =
      node 0 (node 1 (leaf empty) (node 2 (node 3 (leaf empty) (node 4 (node 5 (leaf empty) (leaf stone)) (leaf empty))) (leaf empty))) (leaf empty);
}

counts_row : (node_count cube_tree.shape ≡ 6) × (leaf_count cube_tree.shape ≡ 7)
counts_row = (refl, refl)

nodes_row : nodes_of cube_tree.shape 0 0 ≡
    record { plane = 0; front = Node 1; back = Leaf 6 } ∷ record { plane = 1; front = Leaf 0; back = Node 2 }
    ∷ record { plane = 2; front = Node 3; back = Leaf 5 } ∷ record { plane = 3; front = Leaf 1; back = Node 4 }
    ∷ record { plane = 4; front = Node 5; back = Leaf 4 } ∷ record { plane = 5; front = Leaf 2; back = Leaf 3 } ∷ []
nodes_row = refl

leaves_row : leaves_of cube_tree.shape ≡ empty ∷ empty ∷ empty ∷ stone ∷ empty ∷ empty ∷ empty ∷ []
leaves_row = refl

numbered_row : AreNumbered cube_tree.shape (nodes_of cube_tree.shape 0 0) (leaves_of cube_tree.shape)
numbered_row = record { nodes_are = refl; leaves_are = refl }

-- the middle of the cube
abbrev pub middle : Point
middle = record { x = pos 32; y = pos 32; z = pos 32; w = pos 1 }

leaf_row : (leaf_record_at cube_tree.planes cube_tree.shape middle ≡ stone) × (leaf_at cube_tree.planes cube_tree.shape middle ≡ 3)
unfolding node_value value
leaf_row = (refl, refl)

middle_is_off : IsOffNodePlanes cube_tree.planes cube_tree.shape middle
unfolding node_value value
middle_is_off = grind (arith, ints)

-- a point on the plane x = 64 is on a node plane
border_is_on : IsOffNodePlanes cube_tree.planes cube_tree.shape (record { x = pos 64; y = pos 32; z = pos 32; w = pos 1 }) → ⊥
unfolding node_value value
border_is_on off = off.1.0 refl

names_row : NamesItsPlanes cube_tree
names_row = All-from_recursion (λ n. n < 6) (node_planes cube_tree.shape) (grind arith)

-- a point on the plane x = 64 goes to the front, to the leaf outside
front_row : leaf_at cube_tree.planes cube_tree.shape (record { x = pos 64; y = pos 32; z = pos 32; w = pos 1 }) ≡ 0
unfolding node_value value
front_row = refl

-- the way to the leaf of the middle
abbrev pub way_in : Way
way_in =
    record { plane = 0; front = true } ∷ record { plane = 1; front = false } ∷ record { plane = 2; front = true }
    ∷ record { plane = 3; front = false } ∷ record { plane = 4; front = true } ∷ record { plane = 5; front = false } ∷ []

way_row : LeadsTo cube_tree.shape 3 way_in stone
way_row = record { way_is = refl; leaf_is = refl }

-- its cell is the inside of the cube: two of its planes are turned
cell_row : cell_of_way cube_tree.planes way_in ≡
    plane_of (pos 1) (pos 0) (pos 0) (pos 0) ∷ plane_of (neg_ℤ (pos 1)) (pos 0) (pos 0) (neg_ℤ (pos 64)) ∷ plane_of (pos 0) (pos 1) (pos 0) (pos 0)
    ∷ plane_of (pos 0) (neg_ℤ (pos 1)) (pos 0) (neg_ℤ (pos 64)) ∷ plane_of (pos 0) (pos 0) (pos 1) (pos 0) ∷ plane_of (pos 0) (pos 0) (neg_ℤ (pos 1)) (neg_ℤ (pos 64)) ∷ []
cell_row = refl

-- and has the middle
in_cell_row : IsInCell (cell_of_way cube_tree.planes way_in) middle
unfolding value
in_cell_row = All-from_recursion (λ h. IsInFront h middle) (cell_of_way cube_tree.planes way_in) (grind (arith, ints))

-- so that the leaf has a point
in_leaf_row : IsInLeaf cube_tree.planes way_in middle
in_leaf_row =
    let side : IsWithinExtent (pos 32) (pos 1) = record { above = omega (arith, ints); below = omega (arith, ints) } in
    record { in_cube = record { weight = omega (arith, ints); x = side; y = side; z = side }; in_cell = in_cell_row }

-- ---- joining

-- two empty leaves under a node become one; the node above them has leaves of different contents and stays
joined_row : joined (node 0 (node 1 (leaf empty) (leaf empty)) (leaf stone)) ≡ node 0 (leaf empty) (leaf stone)
joined_row = refl

-- the tree of the cube has nothing to join
cube_is_joined : joined cube_tree.shape ≡ cube_tree.shape
cube_is_joined = refl
