-- A leaf that has a point of a full solid of stone, be it on its border, is solid: near the point the leaf has points
-- strictly inside the solid, and some of them are on no node plane.
use Rattle.std.proofs.Common.{◌≡◌, ℕ, ◌+◌, suc, pos, List, ◌++◌, Contains, Some, sym, ap, ◌∙◌, subst, arith}
use Rattle.std.specs.Prelude.{slice_get}
use Rattle.std.proofs.lemmas.Int.{ints}
use Rattle.std.proofs.lemmas.List.Elements.{All-append}
use Rattle.qm_lists.proofs.Elements.{All-first_part, All-last_part}
use Rattle.qm_contents.specs.declared.contents.Contents.{Contents}
use Rattle.qm_contents.specs.declared.contents.Contents.TheVariants as contents
use Rattle.qm_contents.specs.Precedence.{IsAtMost}
use Rattle.qm_contents.proofs.Strengths.{only_solid}
use Rattle.qm_space.specs.Point.{Point}
use Rattle.qm_space.specs.Plane.{Plane, IsInFront}
use Rattle.qm_space.specs.Cell.{IsInCell}
use Rattle.qm_space.specs.Cube.{cube_walls}
use Rattle.qm_space.proofs.Openness.{moved, reach, moved_in_cell, moved_in_cube}
use Rattle.qm_solids.specs.Solid.{Solid, inward}
use Rattle.qm_solids.specs.Holding.{Holds}
use Rattle.qm_solids.specs.Contents.{HasContents}
use Rattle.qm_solids.proofs.HeldPoints.{inside_near}
use Rattle.qm_solids.proofs.Insides.{inside_in_front_of_none}
use Rattle.qm_partition.specs.declared.node.Leaf.{Leaf}
use Rattle.qm_partition.specs.Tree.{Tree}
use Rattle.qm_partition.specs.Counting.{leaves_of, node_planes}
use Rattle.qm_partition.specs.LeafOfPoint.{leaf_record_at}
use Rattle.qm_partition.specs.Ways.{Way, cell_of_way, LeadsTo, IsInLeaf}
use Rattle.qm_partition.proofs.Cells.{number_of_cell}
use Rattle.qm_partition.proofs.LeafNumbers.{leaf_of_number}
use Rattle.qm_partition.proofs.NodePlanes.{off_node_planes}
use Rattle.qm_solid_tree.specs.GivesContents.{GivesContents}
use Rattle.qm_partition.proofs.OffPlanes.{IsOffPlace, off_place, node_normals}

module _ (tree : Tree) (solids : List Solid) (gives : GivesContents tree solids) (k : ℕ) (way : Way) (found : Leaf) (leads : LeadsTo tree.shape k way found) where
  -- a point in the cell of the way has this leaf
  leaf_there : (x : Point) → IsInCell (cell_of_way tree.planes way) x → leaf_record_at tree.planes tree.shape x ≡ found
  leaf_there x inside =
      let number = number_of_cell tree.planes tree.shape x k way leads.way_is inside in
      let e : Some (leaf_record_at tree.planes tree.shape x) ≡ Some found =
      sym (leaf_of_number tree.planes tree.shape x) ∙ ap (slice_get (leaves_of tree.shape)) number ∙ leads.leaf_is in
      cc

  -- where a cell and the leaf have a point in common, the leaf's contents are what the solids define at some such point
  pub record HasCommonPoint (cell : List Plane) : Type 0 where
    pub point : Point
    pub in_cell : IsInCell cell point
    pub has : HasContents solids point found.contents

  pub common_point : (cell : List Plane) (x : Point) → IsInLeaf tree.planes way x → IsInCell cell x → HasCommonPoint cell
  common_point cell x inside in_cell =
      let steps = cell_of_way tree.planes way in
      let place : IsOffPlace tree.planes (node_planes tree.shape) (cell ++ steps) =
      off_place tree.planes (node_planes tree.shape) (cell ++ steps) x (node_normals tree gives.named gives.normals) inside.in_cube
      (All-append (λ h. IsInFront h x) cell steps in_cell inside.in_cell) in
      let y = place.point in
      let off = (off_node_planes tree.planes y tree.shape).1 place.off in
      let same = leaf_there y (All-last_part (λ h. IsInFront h y) cell steps place.in_cell) in
      record {
        point = y;
        in_cell = All-first_part (λ h. IsInFront h y) cell steps place.in_cell;
        has = subst (λ (l : Leaf). HasContents solids y l.contents) same (gives.gives y place.in_cube off);
      }

  pub solid_leaf : (solid : Solid) (x : Point) → Contains solids solid → solid.contents ≡ contents.Solid → Holds solid x → IsInLeaf tree.planes way x → found.contents ≡ contents.Solid
  solid_leaf solid x listed of_stone holds inside =
      let steps = cell_of_way tree.planes way in
      let v = holds.full.within in
      let n : ℕ = suc (reach steps v + reach cube_walls v) in
      let y = moved (pos n) x v in
      let y_inside = inside_near solid x v (pos n) (omega (arith, ints)) holds.not_in_front holds.full.inside in
      let y_in_leaf : IsInLeaf tree.planes way y = record {
        in_cube = moved_in_cube x v (pos n) (omega (arith, ints)) inside.in_cube;
        in_cell = moved_in_cell steps x v (pos n) (omega (arith, ints)) inside.in_cell;
      } in
      let common = common_point (inward solid) y y_in_leaf y_inside in
      let held : Holds solid common.point = record { full = holds.full; not_in_front = inside_in_front_of_none solid common.point common.in_cell } in
      let most = common.has.strongest solid (record { listed = listed; has = held }) in
      only_solid found.contents (subst (λ (c : Contents). IsAtMost c found.contents) of_stone most)
