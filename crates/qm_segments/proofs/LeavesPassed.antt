-- Between two points that no node plane has both, one passes leaves in order.
use Rattle.std.proofs.Common.{◌≡◌, ◌≢◌, ℕ, ◌+◌, ◌<◌, ◌≤◌, ℤ, pos, neg_ℤ, ◌+ℤ◌, ◌*ℤ◌, Bool, true, false, not, List, [], ◌∷◌, ◌++◌, Contains, slice_get, Some, refl, sym, ap, ◌∙◌, subst, arith, ⊎_elim}
use Rattle.std.proofs.lemmas.Int.{ints}
use Rattle.std.proofs.lemmas.List.{append-nil, map-append}
use Rattle.std.proofs.lemmas.List.Elements.{All-nil, All-cons, All-append, Contains-append_left, Contains-append_right, Contains-append_cases}
use Rattle.qm_lists.proofs.Elements.{Contains-first, Contains-later, Contains-cons_cases}
use Rattle.qm_space.specs.Point.{Point, point_sum, point_times}
use Rattle.qm_space.specs.Plane.{Plane, value, IsOn, IsInFront, IsBehind, flipped}
use Rattle.qm_space.specs.Line.{IsBetween}
use Rattle.qm_space.specs.Turned.{turned}
use Rattle.qm_space.specs.Cell.{IsInCell}
use Rattle.qm_space.specs.Book.{plane_at}
use Rattle.qm_numbers.proofs.IntegerProducts.{linear, one_*ℤ}
use Rattle.qm_numbers.proofs.Signs.{by_sign}
use Rattle.qm_space.proofs.Planes.{same_point, value_flipped}
use Rattle.qm_space.proofs.TurnedPlanes.{turned_on, turned_other_in_front}
use Rattle.qm_space.proofs.Crossings.{through, crossing_on}
use Rattle.qm_partition.specs.Partition.{Partition, leaf, node}
use Rattle.qm_partition.specs.Tree.{Tree}
use Rattle.qm_partition.specs.Counting.{node_planes}
use Rattle.qm_partition.specs.Numbering.{leaves_after}
use Rattle.qm_partition.specs.Ways.{Way, ways, turned_to, cell_of_way}
use Rattle.qm_partition.proofs.Counts.{leaves_after-count}
use Rattle.qm_contacts.specs.Meeting.{then_step}
use Rattle.qm_contacts.proofs.WaysBelow.{ways_in_front, ways_behind}
use Rattle.qm_segments.specs.Passes.{Passes, within, onward}
use Rattle.qm_segments.proofs.Betweenness.{between_turned, nearer_between, later_between, farther_between, between_in_front, between_in_front_first, on_after}

-- ---- one part of the way after another

-- leaves up to a point between, and then others from there on
pub passes_on : (tree : Tree) (p m q : Point) (first n : ℕ) (rest others : List ℕ) → IsBetween m p q → Passes tree p m (first ∷ rest) → ((k : ℕ) → Contains (first ∷ rest) k → k ≢ n) → Passes tree m q (n ∷ others) → Passes tree p q ((first ∷ rest) ++ n ∷ others)
passes_on tree p m q first n [] others at (within inside) other after = onward at inside (other first (Contains-first first [])) after
passes_on tree p m q first n (second ∷ rest) others at (onward {m = l} before inside apart more) other after =
    onward (nearer_between p q m l at before) inside apart
    (passes_on tree l m q second n rest others (later_between p q m l at before) more (λ k there. other k (Contains-later first k (second ∷ rest) there)) after)

-- ---- where one crosses a plane

-- from the front of a plane to its back one crosses it
pub crossing_between : (g : Plane) (p q : Point) → IsInFront g p → IsBehind g q → IsBetween (through g p q) p q
crossing_between g p q front behind = record {
  times_p = pos 1;
  times_q = neg_ℤ (value g q);
  times_r = value g p;
  some_p = omega (arith, ints);
  some_q = omega (arith, linear);
  some_r = front;
  sum = same_point (point_times (pos 1) (through g p q)) (point_sum (point_times (neg_ℤ (value g q)) p) (point_times (value g p) q))
      (one (value g p *ℤ q.x) (neg_ℤ (value g q) *ℤ p.x)) (one (value g p *ℤ q.y) (neg_ℤ (value g q) *ℤ p.y)) (one (value g p *ℤ q.z) (neg_ℤ (value g q) *ℤ p.z)) (one (value g p *ℤ q.w) (neg_ℤ (value g q) *ℤ p.w));
}
  where
    one : (a b : ℤ) → pos 1 *ℤ (a +ℤ b) ≡ b +ℤ a
    one a b = let e = one_*ℤ (a +ℤ b) in omega (arith, linear)

-- ---- leaves with a property

pub record PassesSome (tree : Tree) (p q : Point) (Has : ℕ → Type 0) : Type 0 where
  pub first : ℕ
  pub rest : List ℕ
  pub passes : Passes tree p q (first ∷ rest)
  pub each : (k : ℕ) → Contains (first ∷ rest) k → Has k

-- numbers from one on, up to another, on the two sides of a number in the middle
abbrev IsOnSide : ℕ → ℕ → ℕ → Bool → ℕ → Type 0
IsOnSide low middle high true k = (low ≤ k) × (k < middle)
IsOnSide low middle high false k = (middle ≤ k) × (k < high)

sides_differ : (low middle high : ℕ) (side : Bool) (i k : ℕ) → IsOnSide low middle high side i → IsOnSide low middle high (not side) k → i ≢ k
sides_differ low middle high true i k here there same = let a = here.1 in let b = there.0 in absurd (omega (arith, same))
sides_differ low middle high false i k here there same = let a = here.0 in let b = there.1 in absurd (omega (arith, same))

on_some_side : (low middle high : ℕ) (side : Bool) (k : ℕ) → low ≤ middle → middle ≤ high → IsOnSide low middle high side k → (low ≤ k) × (k < high)
on_some_side low middle high true k first second here = let a = here.0 in let b = here.1 in (a, omega arith)
on_some_side low middle high false k first second here = let a = here.0 in let b = here.1 in (omega arith, b)

module _ (tree : Tree) where
  -- no plane of these numbers has both points
  abbrev pub NoneHasBoth : List ℕ → Point → Point → Type 0
  NoneHasBoth numbers p q = (n : ℕ) → Contains numbers n → IsOn (plane_at tree.planes n) p → IsOn (plane_at tree.planes n) q → ⊥

  pub none_up_to : (numbers : List ℕ) (p m q : Point) → IsBetween m p q → NoneHasBoth numbers p q → NoneHasBoth numbers p m
  none_up_to numbers p m q at none n there on_p on_m = none n there on_p (on_after (plane_at tree.planes n) m p q at on_p on_m)

  pub none_from : (numbers : List ℕ) (p m q : Point) → IsBetween m p q → NoneHasBoth numbers p q → NoneHasBoth numbers m q
  none_from numbers p m q at none n there on_m on_q = none n there (on_after (plane_at tree.planes n) m q p (between_turned m p q at) on_q on_m) on_q

  -- all points between are in the cell of a way
  abbrev pub AreInCell : Way → Point → Point → Type 0
  AreInCell above p q = (x : Point) → IsBetween x p q → IsInCell (cell_of_way tree.planes above) x

  -- ---- at one node

  module _ (n low middle high : ℕ) (above : Way) (numbers : List ℕ) (ordered : low ≤ middle) (ordered_too : middle ≤ high) (part : (side : Bool) (p q : Point) → NoneHasBoth numbers p q → AreInCell (then_step above n side) p q → PassesSome tree p q (IsOnSide low middle high side)) where
    abbrev h : Plane
    h = plane_at tree.planes n

    abbrev Whole : Point → Point → Type 0
    Whole p q = PassesSome tree p q (λ k. (low ≤ k) × (k < high))

    in_both : (side : Bool) (p q : Point) → AreInCell above p q → ((x : Point) → IsBetween x p q → IsInFront (turned side h) x) → AreInCell (then_step above n side) p q
    in_both side p q inside front x b =
        subst (λ (cell : List Plane). IsInCell cell x) (sym (map-append (turned_to tree.planes) above (record { plane = n; front = side } ∷ [])))
        (All-append (λ g. IsInFront g x) (cell_of_way tree.planes above) (turned side h ∷ []) (inside x b) (All-cons (λ g. IsInFront g x) (turned side h) [] (front x b) (All-nil (λ g. IsInFront g x))))

    -- all on one side
    one_side : (side : Bool) (p q : Point) → NoneHasBoth numbers p q → AreInCell above p q → ((x : Point) → IsBetween x p q → IsInFront (turned side h) x) → Whole p q
    one_side side p q none inside front =
        let found = part side p q none (in_both side p q inside front) in
        record { first = found.first; rest = found.rest; passes = found.passes; each = λ k there. on_some_side low middle high side k ordered ordered_too (found.each k there) }

    -- first on one side, then on the other
    both_sides : (side : Bool) (p q : Point) → NoneHasBoth numbers p q → AreInCell above p q → IsInFront (turned side h) p → IsBehind (turned side h) q → Whole p q
    both_sides side p q none inside front behind = record {
      first = near.first;
      rest = near.rest ++ far.first ∷ far.rest;
      passes = passes_on tree p m q near.first far.first near.rest far.rest at near.passes
          (λ k there. sides_differ low middle high side k far.first (near.each k there) (far.each far.first (Contains-first far.first far.rest)))
          far.passes;
      each = λ k there. ⊎_elim
          (λ here. on_some_side low middle high side k ordered ordered_too (near.each k here))
          (λ later. on_some_side low middle high (not side) k ordered ordered_too (far.each k later))
          (Contains-append_cases (near.first ∷ near.rest) (far.first ∷ far.rest) k there);
    }
      where
        g : Plane
        g = turned side h

        m : Point
        m = through (turned side h) p q

        at : IsBetween (through (turned side h) p q) p q
        at = crossing_between (turned side h) p q front behind

        on : IsOn (turned side h) (through (turned side h) p q)
        on = crossing_on (turned side h) p q front (omega (arith, linear, behind))

        on_other : IsOn (turned (not side) h) (through (turned side h) p q)
        on_other = (turned_on (not side) h (through (turned side h) p q)).1 ((turned_on side h (through (turned side h) p q)).0 on)

        near : PassesSome tree p (through (turned side h) p q) (IsOnSide low middle high side)
        near = part side p (through (turned side h) p q) (none_up_to numbers p (through (turned side h) p q) q at none)
            (in_both side p (through (turned side h) p q) (λ x b. inside x (nearer_between p q (through (turned side h) p q) x at b))
            (λ x b. between_in_front_first (turned side h) x p (through (turned side h) p q) b front (omega (arith, linear, on))))

        far : PassesSome tree (through (turned side h) p q) q (IsOnSide low middle high (not side))
        far = part (not side) (through (turned side h) p q) q (none_from numbers p (through (turned side h) p q) q at none)
            (in_both (not side) (through (turned side h) p q) q (λ x b. inside x (farther_between p q (through (turned side h) p q) x at b))
            (λ x b. between_in_front (turned (not side) h) x (through (turned side h) p q) q b (omega (arith, linear, on_other)) ((turned_other_in_front side h q).1 behind)))

    at_node : (p q : Point) → NoneHasBoth numbers p q → (IsOn h p → IsOn h q → ⊥) → AreInCell above p q → Whole p q
    at_node p q none not_both inside = by_sign (value h p)
        (λ p_behind. by_sign (value h q)
        (λ q_behind. one_side false p q none inside (λ x b. between_in_front (flipped h) x p q b (omega (arith, linear, e)) (omega (arith, linear, f))))
        (λ q_on. one_side false p q none inside (λ x b. between_in_front_first (flipped h) x p q b (omega (arith, linear, e)) (omega (arith, linear, f))))
        (λ q_front. both_sides false p q none inside (omega (arith, linear, e)) (omega (arith, linear, f))))
        (λ p_on. by_sign (value h q)
        (λ q_behind. one_side false p q none inside (λ x b. between_in_front (flipped h) x p q b (omega (arith, linear, e)) (omega (arith, linear, f))))
        (λ q_on. absurd (not_both p_on q_on))
        (λ q_front. one_side true p q none inside (λ x b. between_in_front h x p q b (omega (arith, linear)) q_front)))
        (λ p_front. by_sign (value h q)
        (λ q_behind. both_sides true p q none inside p_front q_behind)
        (λ q_on. one_side true p q none inside (λ x b. between_in_front_first h x p q b p_front (omega (arith, linear))))
        (λ q_front. one_side true p q none inside (λ x b. between_in_front h x p q b (omega (arith, linear)) q_front)))
      where
        e : value (flipped h) p ≡ neg_ℤ (value h p)
        e = value_flipped h p

        f : value (flipped h) q ≡ neg_ℤ (value h q)
        f = value_flipped h q

  -- ---- at all nodes

  abbrev AreBelow : Partition → ℕ → Way → Type 0
  AreBelow shape k above = (i : ℕ) (way : Way) → slice_get (ways shape) i ≡ Some way → slice_get (ways tree.shape) (k + i) ≡ Some (above ++ way)

  passes_below : (shape : Partition) (k : ℕ) (above : Way) (p q : Point) → AreBelow shape k above → NoneHasBoth (node_planes shape) p q → AreInCell above p q → PassesSome tree p q (λ j. (k ≤ j) × (j < leaves_after shape k))
  passes_below (leaf found) k above p q have none inside = record {
    first = k;
    rest = [];
    passes = within (record { way = above; way_is = ap (slice_get (ways tree.shape)) {x = k} {y = k + 0} (omega arith) ∙ have 0 [] refl ∙ ap Some (append-nil above); inside = inside });
    each = λ j there. ⊎_elim (λ same. (omega (arith, same), omega (arith, same))) (λ more. absurd (let within = more.1 in omega arith)) (Contains-cons_cases k j [] there);
  }
  passes_below (node n front back) k above p q have none inside =
      at_node n k middle (leaves_after back middle) above (node_planes (node n front back)) (omega (arith, leaves_after-count front k)) (omega (arith, leaves_after-count back middle))
      (by_side
      (λ a b none inside. passes_below front k (then_step above n true) a b (ways_in_front tree.shape above n front back k have) (λ m there. none m (Contains-later n m below (Contains-append_left (node_planes front) (node_planes back) m there))) inside)
      (λ a b none inside. passes_below back middle (then_step above n false) a b (ways_behind tree.shape above n front back k have) (λ m there. none m (Contains-later n m below (Contains-append_right (node_planes front) (node_planes back) m there))) inside))
      p q none (none n (Contains-first n below)) inside
    where
      middle : ℕ
      middle = leaves_after front k

      below : List ℕ
      below = node_planes front ++ node_planes back

      Part : Bool → Type 0
      Part side = (a b : Point) → NoneHasBoth (node_planes (node n front back)) a b → AreInCell (then_step above n side) a b → PassesSome tree a b (IsOnSide k middle (leaves_after back middle) side)

      by_side : Part true → Part false → (side : Bool) → Part side
      by_side first second true = first
      by_side first second false = second

  -- between two points that no node plane has both, one passes leaves in order
  pub passes_leaves : (p q : Point) → NoneHasBoth (node_planes tree.shape) p q → (first : ℕ) × (rest : List ℕ) × Passes tree p q (first ∷ rest)
  passes_leaves p q none =
      let found = passes_below tree.shape 0 [] p q (λ i way at. ap (slice_get (ways tree.shape)) {x = 0 + i} {y = i} (omega arith) ∙ at) none (λ x b. All-nil (λ g. IsInFront g x)) in
      (found.first, found.rest, found.passes)
