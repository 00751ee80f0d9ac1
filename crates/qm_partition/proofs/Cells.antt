-- A point that is on no node plane lies in the cell of the way to its leaf, and in no other cell.
use Rattle.std.proofs.Common.{◌≡◌, ℕ, zero, suc, ◌+◌, Bool, true, false, inl, inr, List, [], ◌++◌, length, map, Some, refl, sym, ap, ◌∙◌, subst, arith}
use Rattle.std.specs.Prelude.{slice_get, option_map}
use Rattle.std.proofs.lemmas.Int.{ints}
use Rattle.std.proofs.lemmas.List.{length-append, length-map}
use Rattle.std.proofs.lemmas.List.Elements.{All-nil, All-cons, All-head, All-tail}
use Rattle.std.proofs.lemmas.Option.{slice_get-map}
use Rattle.qm_space.specs.Point.{Point}
use Rattle.qm_space.specs.Plane.{Plane, IsInFront, IsBehind}
use Rattle.qm_space.specs.Turned.{turned}
use Rattle.qm_space.specs.Cell.{IsInCell}
use Rattle.qm_space.proofs.Planes.{flipped_in_front}
use Rattle.qm_partition.specs.Partition.{Partition, leaf, node}
use Rattle.qm_space.specs.Book.{plane_at}
use Rattle.qm_partition.specs.Counting.{leaf_count}
use Rattle.qm_partition.specs.LeafOfPoint.{node_value, leaf_record_at, leaf_at, IsOffNodePlanes}
use Rattle.qm_partition.specs.Ways.{Way, after_step, ways, cell_of_way, LeadsTo}
use Rattle.qm_partition.proofs.Counts.{leaf_count-node}
use Rattle.qm_lists.proofs.Places.{slice_get-append_old, slice_get-append_past, slice_get-append_cases, slice_get-map_from}
use Rattle.qm_numbers.proofs.Signs.{side_test, above_zero}
use Rattle.qm_partition.proofs.LeafNumbers.{leaf_of_number}

-- there is a way to each leaf
pub length-ways : (shape : Partition) → length (ways shape) ≡ leaf_count shape
length-ways (leaf found) = refl
length-ways (node n front back) =
    let to_front = map (after_step n true) (ways front) in
    let to_back = map (after_step n false) (ways back) in
    omega (arith, length-append to_front to_back, length-map (ways front) (after_step n true), length-map (ways back) (after_step n false), length-ways front, length-ways back, leaf_count-node n front back)

-- how many ways lead to the front
pub to_front-count : (n : ℕ) (front : Partition) → length (map (after_step n true) (ways front)) ≡ leaf_count front
to_front-count n front = length-map (ways front) (after_step n true) ∙ length-ways front

-- the way to the leaf of a point, in whose cell the point lies
record IsLed (planes : List Plane) (shape : Partition) (x : Point) : Type 0 where
  way : Way
  way_is : slice_get (ways shape) (leaf_at planes shape x) ≡ Some way
  in_cell : IsInCell (cell_of_way planes way) x

one_step_more : (planes : List Plane) (n : ℕ) (to_front : Bool) (way : Way) (x : Point) → IsInFront (turned to_front (plane_at planes n)) x → IsInCell (cell_of_way planes way) x → IsInCell (cell_of_way planes (after_step n to_front way)) x
one_step_more planes n to_front way x ahead inside =
    All-cons (λ h. IsInFront h x) (turned to_front (plane_at planes n)) (cell_of_way planes way) ahead inside

module _ (planes : List Plane) (n : ℕ) (front back : Partition) (x : Point) where
  abbrev h : Plane
  h = plane_at planes n

  abbrev all_ways : List Way
  all_ways = ways (node n front back)

  led_back : IsBehind h x → (led : IsLed planes back x) → (slice_get all_ways (leaf_count front + leaf_at planes back x) ≡ Some (after_step n false led.way)) × IsInCell (cell_of_way planes (after_step n false led.way)) x
  led_back behind led =
      let to_front = map (after_step n true) (ways front) in
      let to_back = map (after_step n false) (ways back) in
      let k = leaf_at planes back x in
      let place = ap (λ (c : ℕ). slice_get (to_front ++ to_back) (c + k)) (sym (to_front-count n front)) in
      let its = slice_get-append_past to_front to_back k ∙ slice_get-map (after_step n false) (ways back) k ∙ ap (option_map (after_step n false)) led.way_is in
      (place ∙ its, one_step_more planes n false led.way x ((flipped_in_front h x).1 behind) led.in_cell)

  led_front : IsInFront h x → (led : IsLed planes front x) → (slice_get all_ways (leaf_at planes front x) ≡ Some (after_step n true led.way)) × IsInCell (cell_of_way planes (after_step n true led.way)) x
  led_front ahead led =
      let to_front = map (after_step n true) (ways front) in
      let to_back = map (after_step n false) (ways back) in
      let k = leaf_at planes front x in
      let its = slice_get-map (after_step n true) (ways front) k ∙ ap (option_map (after_step n true)) led.way_is in
      (slice_get-append_old to_front to_back (after_step n true led.way) k its, one_step_more planes n true led.way x ahead led.in_cell)

is_led : (planes : List Plane) (shape : Partition) (x : Point) → IsOffNodePlanes planes shape x → IsLed planes shape x
unfolding node_value
is_led planes (leaf found) x off = record { way = []; way_is = refl; in_cell = All-nil (λ h. IsInFront h x) }
is_led planes (node n front back) x off = elim (side_test (node_value planes n x)) [
  | inl behind ↦
      let led = is_led planes back x off.2 in
      let both = led_back planes n front back x behind.1 led in
      record { way = after_step n false led.way; way_is = rw behind.0 both.0; in_cell = both.1 }
  | inr ahead ↦
      let led = is_led planes front x off.1 in
      let both = led_front planes n front back x (above_zero (node_value planes n x) ahead.1 off.0) led in
      record { way = after_step n true led.way; way_is = rw ahead.0 both.0; in_cell = both.1 }
]

-- the leaf of a point that is on no node plane is at the end of a way in whose cell the point lies
pub leaf_of_point : (planes : List Plane) (shape : Partition) (x : Point) → IsOffNodePlanes planes shape x → (way : Way) × LeadsTo shape (leaf_at planes shape x) way (leaf_record_at planes shape x) × IsInCell (cell_of_way planes way) x
leaf_of_point planes shape x off =
    let led = is_led planes shape x off in
    (led.way, record { way_is = led.way_is; leaf_is = leaf_of_number planes shape x }, led.in_cell)

-- ---- no other cell has the point

-- the first step of a way in whose cell the point lies, and the rest of the way
first_step : (planes : List Plane) (n : ℕ) (to_front : Bool) (rest way : Way) (x : Point) → after_step n to_front rest ≡ way → IsInCell (cell_of_way planes way) x → IsInFront (turned to_front (plane_at planes n)) x × IsInCell (cell_of_way planes rest) x
first_step planes n to_front rest way x is inside =
    let here = subst (λ (w : Way). IsInCell (cell_of_way planes w) x) (sym is) inside in
    let h = turned to_front (plane_at planes n) in
    (All-head (λ h. IsInFront h x) h (cell_of_way planes rest) here, All-tail (λ h. IsInFront h x) h (cell_of_way planes rest) here)

-- a point in the cell of the way of number k has the leaf of number k
pub number_of_cell : (planes : List Plane) (shape : Partition) (x : Point) (k : ℕ) (way : Way) → slice_get (ways shape) k ≡ Some way → IsInCell (cell_of_way planes way) x → leaf_at planes shape x ≡ k
unfolding node_value
number_of_cell planes (leaf found) x zero way at inside = refl
number_of_cell planes (leaf found) x (suc k) way at inside = absurd cc
number_of_cell planes (node n front back) x k way at inside =
    elim (slice_get-append_cases (map (after_step n true) (ways front)) (map (after_step n false) (ways back)) way k at) [
      | inl here ↦
          let of = slice_get-map_from (after_step n true) (ways front) k way here in
          let step = first_step planes n true of.0 way x of.2 inside in
          let below = number_of_cell planes front x k of.0 of.1 step.1 in
          elim (side_test (node_value planes n x)) [
            | inl behind ↦ absurd (omega (arith, ints, behind.1, step.0))
            | inr ahead ↦ rw ahead.0 below
          ]
      | inr there ↦
          let of = slice_get-map_from (after_step n false) (ways back) there.0 way there.2 in
          let step = first_step planes n false of.0 way x of.2 inside in
          let below = number_of_cell planes back x there.0 of.0 of.1 step.1 in
          let is_behind = (flipped_in_front (plane_at planes n) x).0 step.0 in
          let count = to_front-count n front in
          elim (side_test (node_value planes n x)) [
            | inl behind ↦ rw behind.0 (omega (arith, below, count, there.1))
            | inr ahead ↦ absurd (omega (arith, ints, ahead.1, is_behind))
          ]
    ]

-- the cells of two different ways have no point in common
pub cells_are_apart : (planes : List Plane) (shape : Partition) (x : Point) (j k : ℕ) (one other : Way) → slice_get (ways shape) j ≡ Some one → slice_get (ways shape) k ≡ Some other → IsInCell (cell_of_way planes one) x → IsInCell (cell_of_way planes other) x → j ≡ k
cells_are_apart planes shape x j k one other at_j at_k in_one in_other =
    sym (number_of_cell planes shape x j one at_j in_one) ∙ number_of_cell planes shape x k other at_k in_other
