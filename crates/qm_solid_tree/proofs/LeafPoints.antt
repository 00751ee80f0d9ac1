-- Each leaf of a cell that solids divide has a point, and so has each leaf of the tree: a candidate parts a cell in two
-- cells with points.
use Rattle.std.proofs.Common.{◌≡◌, ℕ, pos, Bool, true, false, List, [], ◌∷◌, All, Some, map, sym, subst, arith}
use Rattle.std.specs.Prelude.{slice_get}
use Rattle.std.proofs.lemmas.Int.{ints}
use Rattle.std.proofs.lemmas.List.Elements.{All-nil, All-cons, All-head, All-append, All-weaker, All-contains}
use Rattle.qm_lists.proofs.Elements.{All-first_part, All-last_part}
use Rattle.qm_space.specs.Point.{Point, IsInCube}
use Rattle.qm_space.specs.Plane.{Plane, IsInFront}
use Rattle.qm_space.specs.Turned.{turned}
use Rattle.qm_space.specs.Cell.{IsInCell, HasPoint}
use Rattle.qm_space.specs.Book.{AreBookPlanes}
use Rattle.qm_space.proofs.Books.{plane_at_from}
use Rattle.qm_solids.specs.Solid.{Solid}
use Rattle.qm_solids.specs.Least.{IsLeastCandidate}
use Rattle.qm_partition.specs.Partition.{Partition}
use Rattle.qm_partition.specs.Tree.{Tree}
use Rattle.qm_partition.specs.Ways.{Way, after_step, ways, IsInLeaf, HasPoints}
use Rattle.qm_partition.proofs.JoinedCells.{HasPointWith, HasBehindStep, steps_on, joined_have_points}
use Rattle.qm_solid_tree.specs.Division.{Divides, undivided, divided}
use Rattle.qm_solid_tree.specs.TreeOf.{IsTreeOf}
use Rattle.qm_solid_tree.proofs.PartedCells.{side_of, both_sides}

-- a point of the cube and of the cell
abbrev pub IsPointOf : List Plane → Point → Type 0
IsPointOf cell x = IsInCube x × IsInCell cell x

-- the origin is a point of the whole cube
pub whole_has_point : HasPoint []
whole_has_point =
    let origin : Point = record { x = pos 0; y = pos 0; z = pos 0; w = pos 1 } in
    record {
      point = origin;
      in_cube = record {
        weight = omega (arith, ints);
        x = record { above = omega (arith, ints); below = omega (arith, ints) };
        y = record { above = omega (arith, ints); below = omega (arith, ints) };
        z = record { above = omega (arith, ints); below = omega (arith, ints) };
      };
      in_cell = All-nil (λ h. IsInFront h origin);
    }

module _ (solids : List Solid) (book : List Plane) (planes : AreBookPlanes book) where
  -- both sides of a cell that its least candidate parts have points
  pub least_parts : (cell : List Plane) (n : ℕ) (h : Plane) (side : Bool) → IsLeastCandidate solids book cell n h → HasPoint (side_of cell h side)
  least_parts cell n h side least =
      let on = least.is_one.candidate.on_face in
      both_sides cell h least.is_one.candidate.point side (planes.reduced n h least.is_one.numbered).normal on.in_cube on.in_cell on.on

  -- a point of one side is a point of the cell, on that side
  on_side : (cell : List Plane) (n : ℕ) (h : Plane) (side : Bool) → slice_get book n ≡ Some h → (x : Point) → IsPointOf (side_of cell h side) x → HasBehindStep book (IsPointOf cell) n side x
  on_side cell n h side numbered x at =
      let one = turned side h ∷ [] in
      let ahead = All-head (λ g. IsInFront g x) (turned side h) [] (All-last_part (λ g. IsInFront g x) cell one at.1) in
      ((at.0, All-first_part (λ g. IsInFront g x) cell one at.1), subst (λ (g : Plane). IsInFront (turned side g) x) (sym (plane_at_from book n h numbered)) ahead)

  ways_on_side : (cell : List Plane) (n : ℕ) (h : Plane) (side : Bool) (below : List Way) → slice_get book n ≡ Some h → All (HasPointWith book (IsPointOf (side_of cell h side))) below → All (HasPointWith book (IsPointOf cell)) (map (after_step n side) below)
  ways_on_side cell n h side below numbered each =
      steps_on book (IsPointOf cell) n side below
      (All-weaker (HasPointWith book (IsPointOf (side_of cell h side))) (HasPointWith book (HasBehindStep book (IsPointOf cell) n side))
      (λ way at. record { point = at.point; has = on_side cell n h side numbered at.point at.has; in_cell = at.in_cell }) below each)

  pub division_has_points : {cell : List Plane} {shape : Partition} → Divides solids book cell shape → HasPoint cell → All (HasPointWith book (IsPointOf cell)) (ways shape)
  division_has_points (undivided {cell = cell} {found = found} none has unfilled) some =
      let at : HasPointWith book (IsPointOf cell) [] = record { point = some.point; has = (some.in_cube, some.in_cell); in_cell = All-nil (λ h. IsInFront h some.point) } in
      All-cons (HasPointWith book (IsPointOf cell)) [] [] at (All-nil (HasPointWith book (IsPointOf cell)))
  division_has_points (divided {cell = cell} {n = n} {h = h} {front = front} {back = back} least in_front behind) some =
      let fronts = ways_on_side cell n h true (ways front) least.is_one.numbered (division_has_points in_front (least_parts cell n h true least)) in
      let backs = ways_on_side cell n h false (ways back) least.is_one.numbered (division_has_points behind (least_parts cell n h false least)) in
      All-append (HasPointWith book (IsPointOf cell)) (map (after_step n true) (ways front)) (map (after_step n false) (ways back)) fronts backs

  -- each leaf of the tree that solids define has a point
  pub tree_has_points : (tree : Tree) → IsTreeOf solids book tree → HasPoints tree
  tree_has_points tree is =
      let each = joined_have_points book (IsPointOf []) is.whole (division_has_points is.divides whole_has_point) in
      let its = subst (λ (s : Partition). All (HasPointWith book (IsPointOf [])) (ways s)) (sym is.is_joined) each in
      λ way among.
      let at = All-contains (HasPointWith book (IsPointOf [])) (ways tree.shape) way its among in
      (at.point, subst (λ (planes : List Plane). IsInLeaf planes way at.point) (sym is.planes) (record { in_cube = at.has.0; in_cell = at.in_cell }))
