-- To which child of a node a point is led, by its side of the node's plane.
use Rattle.std.proofs.Common.{◌≡◌, ℕ, ℤ, pos, Bool, true, false, if◌then◌else◌, List, Some, Less, Greater, Equal, int_cmp, refl, sym, ap, ◌∙◌}
use Rattle.std.specs.Prelude.{slice_get, int_lt}
use Rattle.std.specs.Ordering.{is_lt}
use Rattle.qm_space.specs.Point.{Point}
use Rattle.qm_space.specs.Plane.{Plane, value}
use Rattle.qm_space.proofs.Books.{plane_at_from}
use Rattle.qm_partition.specs.declared.node.Node.{Node}
use Rattle.qm_partition.specs.LeafOfPoint.{node_value}
use Rattle.qm_partition.specs.inner.ChildTowards.{child_towards}

by_tests : (less greater : Bool) → is_lt (if less then Less else (if greater then Greater else Equal)) ≡ less
by_tests true greater = refl
by_tests false true = refl
by_tests false false = refl

compared : (v : ℤ) → is_lt (int_cmp v (pos 0)) ≡ int_lt v (pos 0)
compared v = by_tests (int_lt v (pos 0)) (int_lt (pos 0) v)

node_value_is : (planes : List Plane) (n : ℕ) (x : Point) (h : Plane) → slice_get planes n ≡ Some h → node_value planes n x ≡ value h x
unfolding node_value
node_value_is planes n x h at = ap (λ (h : Plane). value h x) (plane_at_from planes n h at)

-- the child that a comparison of the plane's value chooses
pub towards_side : (planes : List Plane) (here : Node) (x : Point) (h : Plane) → slice_get planes here.plane ≡ Some h → (if is_lt (int_cmp (value h x) (pos 0)) then here.back else here.front) ≡ child_towards planes here x
towards_side planes here x h at =
    ap (λ (less : Bool). if less then here.back else here.front) (compared (value h x) ∙ ap (λ (v : ℤ). int_lt v (pos 0)) (sym (node_value_is planes here.plane x h at)))
