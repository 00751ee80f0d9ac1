-- A point is behind no plane of the way to its leaf, also where it is on a node plane: it is led to the front there.
use Rattle.std.proofs.Common.{◌≡◌, ℕ, ◌+◌, true, false, Bool, inl, inr, List, [], ◌++◌, map, Some, refl, sym, ap, ◌∙◌, arith}
use Rattle.std.specs.Prelude.{slice_get, option_map}
use Rattle.std.proofs.lemmas.Int.{ints}
use Rattle.std.proofs.lemmas.List.Elements.{All-nil, All-cons}
use Rattle.std.proofs.lemmas.Option.{slice_get-map}
use Rattle.qm_lists.proofs.Places.{slice_get-append_old, slice_get-append_past}
use Rattle.qm_numbers.proofs.Signs.{side_test}
use Rattle.qm_space.specs.Point.{Point}
use Rattle.qm_space.specs.Plane.{Plane, IsNotBehind}
use Rattle.qm_space.specs.Turned.{turned}
use Rattle.qm_space.specs.Book.{plane_at}
use Rattle.qm_space.proofs.Planes.{flipped_in_front}
use Rattle.qm_space.proofs.ClosedCells.{IsInClosedCell}
use Rattle.qm_partition.specs.Partition.{Partition, leaf, node}
use Rattle.qm_partition.specs.Counting.{leaf_count}
use Rattle.qm_partition.specs.LeafOfPoint.{node_value, leaf_at}
use Rattle.qm_partition.specs.Ways.{Way, after_step, ways, cell_of_way}
use Rattle.qm_partition.proofs.Cells.{to_front-count}

-- the way to the leaf of a point
pub record IsLedTo (planes : List Plane) (shape : Partition) (x : Point) : Type 0 where
  pub way : Way
  pub way_is : slice_get (ways shape) (leaf_at planes shape x) ≡ Some way
  pub closed : IsInClosedCell (cell_of_way planes way) x

module _ (planes : List Plane) (n : ℕ) (front back : Partition) (x : Point) where
  one_step_more : (to_front : Bool) (way : Way) → IsNotBehind (turned to_front (plane_at planes n)) x → IsInClosedCell (cell_of_way planes way) x → IsInClosedCell (cell_of_way planes (after_step n to_front way)) x
  one_step_more to_front way ahead inside = All-cons (λ h. IsNotBehind h x) (turned to_front (plane_at planes n)) (cell_of_way planes way) ahead inside

  back_way : (led : IsLedTo planes back x) → slice_get (ways (node n front back)) (leaf_count front + leaf_at planes back x) ≡ Some (after_step n false led.way)
  back_way led =
      let to_front = map (after_step n true) (ways front) in
      let to_back = map (after_step n false) (ways back) in
      let k = leaf_at planes back x in
      ap (λ (c : ℕ). slice_get (to_front ++ to_back) (c + k)) (sym (to_front-count n front))
      ∙ slice_get-append_past to_front to_back k
      ∙ slice_get-map (after_step n false) (ways back) k
      ∙ ap (option_map (after_step n false)) led.way_is

  front_way : (led : IsLedTo planes front x) → slice_get (ways (node n front back)) (leaf_at planes front x) ≡ Some (after_step n true led.way)
  front_way led =
      let to_front = map (after_step n true) (ways front) in
      let to_back = map (after_step n false) (ways back) in
      let k = leaf_at planes front x in
      slice_get-append_old to_front to_back (after_step n true led.way) k
      (slice_get-map (after_step n true) (ways front) k ∙ ap (option_map (after_step n true)) led.way_is)

pub led_to : (planes : List Plane) (shape : Partition) (x : Point) → IsLedTo planes shape x
unfolding node_value
led_to planes (leaf found) x = record { way = []; way_is = refl; closed = All-nil (λ h. IsNotBehind h x) }
led_to planes (node n front back) x = elim (side_test (node_value planes n x)) [
  | inl behind ↦
      let led = led_to planes back x in
      let ahead = (flipped_in_front (plane_at planes n) x).1 behind.1 in
      record {
        way = after_step n false led.way;
        way_is = rw behind.0 (back_way planes n front back x led);
        closed = one_step_more planes n front back x false led.way (omega (arith, ints, ahead)) led.closed;
      }
  | inr ahead ↦
      let led = led_to planes front x in
      record {
        way = after_step n true led.way;
        way_is = rw ahead.0 (front_way planes n front back x led);
        closed = one_step_more planes n front back x true led.way ahead.1 led.closed;
      }
]
