-- Worked row: what lies in front of the plane x = 0 reaches the leaf in front of it alone, though it touches the one behind.
use Rattle.std.proofs.Common.{pos, [], ◌∷◌, arith}
use Rattle.std.proofs.lemmas.Int.{ints}
use Rattle.std.proofs.lemmas.List.Elements.{All-from_recursion}
use Rattle.qm_numbers.proofs.IntegerProducts.{linear}
use Rattle.qm_space.specs.Point.{Point, IsInCube}
use Rattle.qm_space.specs.Plane.{Plane, plane_of, value, IsInFront, flipped}
use Rattle.qm_space.specs.Cell.{HasPoint}
use Rattle.qm_space.proofs.Planes.{value_flipped}
use Rattle.qm_partition.specs.declared.node.Leaf.{Leaf}
use Rattle.qm_partition.specs.Partition.{leaf, node}
use Rattle.qm_contacts.specs.Meeting.{leaves_below}
use Rattle.qm_reach.specs.ReachedLeaves.{AreReached, no_leaves, reached, missed}

abbrev half : Plane
half = plane_of (pos 1) (pos 0) (pos 0) (pos 0)

abbrev at_one : Point
at_one = record { x = pos 1; y = pos 0; z = pos 0; w = pos 1 }

in_cube : IsInCube at_one
in_cube = record {
  weight = omega (arith, ints);
  x = record { above = omega (arith, ints); below = omega (arith, ints) };
  y = record { above = omega (arith, ints); below = omega (arith, ints) };
  z = record { above = omega (arith, ints); below = omega (arith, ints) };
}

front_point : HasPoint (half ∷ half ∷ [])
unfolding value
front_point = record {
  point = at_one;
  in_cube = in_cube;
  in_cell = All-from_recursion (λ h. IsInFront h at_one) (half ∷ half ∷ []) (omega (arith, ints), (omega (arith, ints), tt));
}

none_behind : HasPoint (half ∷ flipped half ∷ []) → ⊥
none_behind some =
    let front = some.in_cell 0 half (omega arith) in
    let back = some.in_cell 1 half (omega arith) in
    let e = value_flipped half some.point in
    absurd (omega (arith, linear, front, back, e))

pub touching_row : (first second : Leaf) → AreReached (half ∷ []) (half ∷ []) (leaves_below (node 0 (leaf first) (leaf second)) 0) (0 ∷ [])
touching_row first second = reached front_point (missed none_behind no_leaves)
