-- The spans that are worked out through the parts of a tree are the spans of the segment.
use Rattle.std.proofs.Common.{◌≡◌, ◌≢◌, ℕ, ◌+◌, ◌<◌, ◌≤◌, ℤ, pos, Bool, true, false, if◌then◌else◌, List, [], ◌∷◌, ◌++◌, refl, ap, sym, subst, ◌∙◌, arith}
use Rattle.std.specs.Prelude.{int_lt}
use Rattle.std.specs.List.{AllByRecursion}
use Rattle.std.proofs.lemmas.List.Elements.{All-from_recursion}
use Rattle.qm_lists.proofs.Cases.{by_cases, by_cases_of}
use Rattle.qm_lists.proofs.Elements.{AllByRecursion-append}
use Rattle.qm_space.specs.Point.{Point}
use Rattle.qm_space.specs.Plane.{Plane}
use Rattle.qm_space.specs.Book.{plane_at}
use Rattle.qm_partition.specs.declared.node.Leaf.{Leaf}
use Rattle.qm_partition.specs.Partition.{Partition, leaf, node}
use Rattle.qm_partition.specs.Tree.{Tree}
use Rattle.qm_partition.specs.Counting.{leaf_count}
use Rattle.qm_partition.specs.Numbering.{leaves_after}
use Rattle.qm_partition.specs.LeafOfPoint.{node_value, leaf_at}
use Rattle.qm_partition.proofs.Counts.{leaf_count-node, leaves_after-count}
use Rattle.qm_spans.specs.declared.span.Span.{Span}
use Rattle.qm_spans.specs.declared.parting.Parting.{Parting}
use Rattle.qm_spans.specs.Place.{PlaceOnSegment, end_place, point_on}
use Rattle.qm_spans.specs.Spans.{AreSpans, AreLeavesThere}
use Rattle.qm_spans.specs.SegmentTrace.{IsSegmentTrace}
use Rattle.qm_spans.specs.Partings.{start_parting, end_parting, crossing_at, crosses_between, is_behind_after, lowest_place}
use Rattle.qm_spans.specs.ComputedSpans.{spans_between, spans_from, trace_of}
use Rattle.qm_spans.proofs.PartingOrder.{parts, IsEarlier, parts_behind, parts_before, earlier_then_earlier}
use Rattle.qm_spans.proofs.PlaneEnds.{value_at, value_on, sides_differ}
use Rattle.qm_spans.proofs.PlaneSides.{crossed, one_side, side_before, side_after}
use Rattle.qm_spans.proofs.LowestPlaces.{lowest_start, lowest_end, lowest_is_lowest, parts_after_lowest, parts_before_lowest, lowest_in_order}
use Rattle.qm_spans.proofs.JoinedSpans.{AreApart, joined_spans}

module _ (planes : List Plane) (a b : Point) where
  -- ---- one node

  -- the spans on one side of a node whose leaves are numbered from k on
  abbrev pub spans_on : (front back : Partition) (k : ℕ) → Bool → (from to : Parting) → List Span
  spans_on front back k behind from to = if behind then spans_between planes a b back (leaves_after front k) from to else spans_between planes a b front k from to

  module _ (n : ℕ) (front back : Partition) (k : ℕ) (from to : Parting) where
    abbrev u : ℤ
    u = node_value planes n a

    abbrev v : ℤ
    v = node_value planes n b

    pub spans_crossed : crosses_between u v from to ≡ true → spans_between planes a b (node n front back) k from to ≡ spans_on front back k (int_lt u (pos 0)) from (crossing_at u v) ++ spans_on front back k (int_lt v (pos 0)) (crossing_at u v) to
    unfolding spans_between
    spans_crossed test = ap (λ (c : Bool).
        if c then spans_on front back k (int_lt u (pos 0)) from (crossing_at u v) ++ spans_on front back k (int_lt v (pos 0)) (crossing_at u v) to
        else spans_on front back k (is_behind_after u v from) from to) test

    pub spans_not_crossed : crosses_between u v from to ≡ false → spans_between planes a b (node n front back) k from to ≡ spans_on front back k (is_behind_after u v from) from to
    unfolding spans_between
    spans_not_crossed test = ap (λ (c : Bool).
        if c then spans_on front back k (int_lt u (pos 0)) from (crossing_at u v) ++ spans_on front back k (int_lt v (pos 0)) (crossing_at u v) to
        else spans_on front back k (is_behind_after u v from) from to) test

  -- ---- the leaves of a part

  -- the leaf is one of so many from a number on
  abbrev pub IsNumberedFrom : ℕ → ℕ → Span → Type 0
  IsNumberedFrom k count span = (k ≤ span.leaf) × (span.leaf < k + count)

  wider : (k count j more : ℕ) (spans : List Span) → j ≤ k → k + count ≤ j + more → AllByRecursion (IsNumberedFrom k count) spans → AllByRecursion (IsNumberedFrom j more) spans
  wider k count j more [] low high all = tt
  wider k count j more (span ∷ spans) low high all =
      let first = all.0 in ((omega (arith, low, first.0), omega (arith, high, first.1)), wider k count j more spans low high all.1)

  -- what holds of each part of a node
  OnSides : (front back : Partition) (k : ℕ) → (from to : Parting) → Type 0
  OnSides front back k from to = (behind : Bool) → AllByRecursion (IsNumberedFrom k (leaf_count (node 0 front back))) (spans_on front back k behind from to)

  pub leaves_of_part : (part : Partition) (k : ℕ) (from to : Parting) → AllByRecursion (IsNumberedFrom k (leaf_count part)) (spans_between planes a b part k from to)
  unfolding spans_between
  leaves_of_part (leaf found) k from to = ((omega arith, omega arith), tt)
  leaves_of_part (node n front back) k from to =
      by_cases_of (λ (c : Bool). AllByRecursion (IsNumberedFrom k (leaf_count (node n front back)))
      (if c then spans_on front back k (int_lt (node_value planes n a) (pos 0)) from (crossing_at (node_value planes n a) (node_value planes n b)) ++ spans_on front back k (int_lt (node_value planes n b) (pos 0)) (crossing_at (node_value planes n a) (node_value planes n b)) to
      else spans_on front back k (is_behind_after (node_value planes n a) (node_value planes n b) from) from to))
      (crosses_between (node_value planes n a) (node_value planes n b) from to)
      (λ test. AllByRecursion-append (IsNumberedFrom k (leaf_count (node n front back)))
      (spans_on front back k (int_lt (node_value planes n a) (pos 0)) from (crossing_at (node_value planes n a) (node_value planes n b)))
      (spans_on front back k (int_lt (node_value planes n b) (pos 0)) (crossing_at (node_value planes n a) (node_value planes n b)) to)
      (on (int_lt (node_value planes n a) (pos 0)) from (crossing_at (node_value planes n a) (node_value planes n b)) (leaves_of_part front) (leaves_of_part back))
      (on (int_lt (node_value planes n b) (pos 0)) (crossing_at (node_value planes n a) (node_value planes n b)) to (leaves_of_part front) (leaves_of_part back)))
      (λ test. on (is_behind_after (node_value planes n a) (node_value planes n b) from) from to (leaves_of_part front) (leaves_of_part back))
    where
      on : (behind : Bool) (from to : Parting) → ((k : ℕ) (from to : Parting) → AllByRecursion (IsNumberedFrom k (leaf_count front)) (spans_between planes a b front k from to)) → ((k : ℕ) (from to : Parting) → AllByRecursion (IsNumberedFrom k (leaf_count back)) (spans_between planes a b back k from to)) → AllByRecursion (IsNumberedFrom k (leaf_count (node n front back))) (spans_on front back k behind from to)
      on true from to in_front in_back =
          let count = leaf_count-node n front back in let after = leaves_after-count front k in
          wider (leaves_after front k) (leaf_count back) k (leaf_count (node n front back)) (spans_between planes a b back (leaves_after front k) from to) (omega (arith, after)) (omega (arith, after, count)) (in_back (leaves_after front k) from to)
      on false from to in_front in_back =
          let count = leaf_count-node n front back in
          wider k (leaf_count front) k (leaf_count (node n front back)) (spans_between planes a b front k from to) (omega arith) (omega (arith, count)) (in_front k from to)

  -- leaves of parts that are numbered one after the other are different
  apart_from : (k count more number : ℕ) (ys : List Span) → number < k + count → AllByRecursion (IsNumberedFrom (k + count) more) ys → AllByRecursion (λ y. number ≢ y.leaf) ys
  apart_from k count more number [] less all = tt
  apart_from k count more number (y ∷ ys) less all = let first = all.0 in ((λ same. absurd (omega (arith, same, less, first.0))), apart_from k count more number ys less all.1)

  pub low_apart : (k count more : ℕ) (xs ys : List Span) → AllByRecursion (IsNumberedFrom k count) xs → AllByRecursion (IsNumberedFrom (k + count) more) ys → AreApart xs ys
  low_apart k count more [] ys low high = tt
  low_apart k count more (x ∷ xs) ys low high = (apart_from k count more x.leaf ys low.0.1 high, low_apart k count more xs ys low.1 high)

  apart_below : (k count number : ℕ) (ys : List Span) → k + count ≤ number → AllByRecursion (IsNumberedFrom k count) ys → AllByRecursion (λ y. number ≢ y.leaf) ys
  apart_below k count number [] more all = tt
  apart_below k count number (y ∷ ys) more all = let first = all.0 in ((λ same. absurd (omega (arith, same, more, first.1))), apart_below k count number ys more all.1)

  pub high_apart : (k count more : ℕ) (xs ys : List Span) → AllByRecursion (IsNumberedFrom (k + count) more) xs → AllByRecursion (IsNumberedFrom k count) ys → AreApart xs ys
  high_apart k count more [] ys high low = tt
  high_apart k count more (x ∷ xs) ys high low = (apart_below k count x.leaf ys high.0.0 low, high_apart k count more xs ys high.1 low)

  sides_apart : (front back : Partition) (k : ℕ) (first second : Bool) (from mid to : Parting) → first ≢ second → AreApart (spans_on front back k first from mid) (spans_on front back k second mid to)
  sides_apart front back k true true from mid to other = absurd (other refl)
  sides_apart front back k true false from mid to other =
      let after = leaves_after-count front k in
      high_apart k (leaf_count front) (leaf_count back) (spans_between planes a b back (leaves_after front k) from mid) (spans_between planes a b front k mid to)
      (subst (λ (m : ℕ). AllByRecursion (IsNumberedFrom m (leaf_count back)) (spans_between planes a b back (leaves_after front k) from mid)) after (leaves_of_part back (leaves_after front k) from mid)) (leaves_of_part front k mid to)
  sides_apart front back k false true from mid to other =
      let after = leaves_after-count front k in
      low_apart k (leaf_count front) (leaf_count back) (spans_between planes a b front k from mid) (spans_between planes a b back (leaves_after front k) mid to)
      (leaves_of_part front k from mid) (subst (λ (m : ℕ). AllByRecursion (IsNumberedFrom m (leaf_count back)) (spans_between planes a b back (leaves_after front k) mid to)) after (leaves_of_part back (leaves_after front k) mid to))
  sides_apart front back k false false from mid to other = absurd (other refl)

  -- ---- the spans

  -- between two partings the leaves of points are those of a part
  abbrev pub HasLeavesOf : (Point → ℕ) → Partition → ℕ → (from to : Parting) → Type 0
  HasLeavesOf leaf_of part k from to = (i j : ℕ) → IsEarlier from (parts i j) → IsEarlier (parts i j) to → leaf_of (point_on a b i j) ≡ k + leaf_at planes part (point_on a b i j)

  abbrev pub GivesSpans : Partition → Type 0
  GivesSpans part = (leaf_of : Point → ℕ) (k : ℕ) (from to : Parting) → IsEarlier from to → HasLeavesOf leaf_of part k from to → AreSpans leaf_of a b (lowest_place from) (lowest_place to) (spans_between planes a b part k from to)

  leaf_gives : (found : Leaf) → GivesSpans (leaf found)
  unfolding spans_between
  leaf_gives found leaf_of k from to less has =
      let behind = parts_behind from to less in let before = parts_before from to less in (
        record {
          rises = lowest_in_order from to less;
          place = lowest_is_lowest to (omega (arith, before));
          leaf_is = λ i j after until.
              has i j ((parts_after_lowest from i j (omega (arith, behind))).1 after) ((parts_before_lowest to i j (omega (arith, before))).1 until) ∙ omega arith;
        },
        tt,
        refl,
      )

  module _ (n : ℕ) (front back : Partition) (in_front : GivesSpans front) (in_back : GivesSpans back) where
    -- the points between two partings are on one side
    abbrev pub AreOnSide : Bool → (from to : Parting) → Type 0
    AreOnSide behind from to = (i j : ℕ) → IsEarlier from (parts i j) → IsEarlier (parts i j) to → int_lt (node_value planes n (point_on a b i j)) (pos 0) ≡ behind

    side_gives : (behind : Bool) (leaf_of : Point → ℕ) (k : ℕ) (from to : Parting) → IsEarlier from to → AreOnSide behind from to → HasLeavesOf leaf_of (node n front back) k from to → AreSpans leaf_of a b (lowest_place from) (lowest_place to) (spans_on front back k behind from to)
    side_gives true leaf_of k from to less on has =
        in_back leaf_of (leaves_after front k) from to less
        (λ i j after until.
        let x = point_on a b i j in
        has i j after until ∙ ap (λ (c : Bool). k + (if c then leaf_count front + leaf_at planes back x else leaf_at planes front x)) (on i j after until) ∙ omega (arith, leaves_after-count front k))
    side_gives false leaf_of k from to less on has =
        in_front leaf_of k from to less
        (λ i j after until.
        let x = point_on a b i j in
        has i j after until ∙ ap (λ (c : Bool). k + (if c then leaf_count front + leaf_at planes back x else leaf_at planes front x)) (on i j after until))

    -- the value between the ends
    value_between : (i j : ℕ) → int_lt (node_value planes n (point_on a b i j)) (pos 0) ≡ int_lt (value_at (node_value planes n a) (node_value planes n b) (parts i j)) (pos 0)
    unfolding node_value
    value_between i j = ap (λ z. int_lt z (pos 0)) (value_on (plane_at planes n) a b i j)

    abbrev u' : ℤ
    u' = node_value planes n a

    abbrev v' : ℤ
    v' = node_value planes n b

    abbrev x : Parting
    x = crossing_at u' v'

    node_gives : GivesSpans (node n front back)
    node_gives leaf_of k from to less has = by_cases (crosses_between u' v' from to)
        (λ test.
        let crosses = crossed u' v' from to test in
        subst (λ (spans : List Span). AreSpans leaf_of a b (lowest_place from) (lowest_place to) spans) (sym (spans_crossed n front back k from to test))
        (joined_spans leaf_of a b (lowest_place from) (lowest_place x) (lowest_place to)
        (spans_on front back k (int_lt u' (pos 0)) from x) (spans_on front back k (int_lt v' (pos 0)) x to)
        (sides_apart front back k (int_lt u' (pos 0)) (int_lt v' (pos 0)) from x to (sides_differ u' v' crosses.opposed))
        (side_gives (int_lt u' (pos 0)) leaf_of k from x crosses.after
        (λ i j after until. value_between i j ∙ side_before u' v' from to (parts i j) crosses until)
        (λ i j after until. has i j after (earlier_then_earlier (parts i j) x to until crosses.before)))
        (side_gives (int_lt v' (pos 0)) leaf_of k x to crosses.before
        (λ i j after until. value_between i j ∙ side_after u' v' from to (parts i j) crosses after)
        (λ i j after until. has i j (earlier_then_earlier from x (parts i j) crosses.after after) until))))
        (λ test. subst (λ (spans : List Span). AreSpans leaf_of a b (lowest_place from) (lowest_place to) spans) (sym (spans_not_crossed n front back k from to test))
        (side_gives (is_behind_after u' v' from) leaf_of k from to less
        (λ i j after until. value_between i j ∙ one_side u' v' from to (parts i j) test after until) has))

  pub part_gives : (part : Partition) → GivesSpans part
  part_gives (leaf found) = leaf_gives found
  part_gives (node n front back) = node_gives n front back (part_gives front) (part_gives back)

-- ---- the trace

pub computed_trace : (tree : Tree) (a b : Point) → IsSegmentTrace tree a b (trace_of tree a b)
unfolding spans_from
computed_trace tree a b =
    let spans = spans_between tree.planes a b tree.shape 0 start_parting end_parting in
    let leaf_of = leaf_at tree.planes tree.shape in
    subst (λ (p : PlaceOnSegment). AreSpans leaf_of a b p end_place spans) lowest_start
    (subst (λ (p : PlaceOnSegment). AreSpans leaf_of a b (lowest_place start_parting) p spans) lowest_end
    (part_gives tree.planes a b tree.shape leaf_of 0 start_parting end_parting (omega arith) (λ i j after until. omega arith)))

-- so a segment has a trace
pub some_trace : (tree : Tree) (a b : Point) → (spans : List Span) × IsSegmentTrace tree a b spans
some_trace tree a b = (trace_of tree a b, computed_trace tree a b)

leaves_there : (count : ℕ) (spans : List Span) → AllByRecursion (λ span. (0 ≤ span.leaf) × (span.leaf < 0 + count)) spans → AllByRecursion (λ span. span.leaf < count) spans
leaves_there count [] all = tt
leaves_there count (span ∷ spans) all = let first = all.0 in (omega (arith, first.1), leaves_there count spans all.1)

-- its leaves are leaves of the tree
pub leaves_of_trace : (tree : Tree) (a b : Point) → AreLeavesThere (leaf_count tree.shape) (trace_of tree a b)
unfolding spans_from
leaves_of_trace tree a b =
    let spans = spans_between tree.planes a b tree.shape 0 start_parting end_parting in
    All-from_recursion (λ span. span.leaf < leaf_count tree.shape) spans (leaves_there (leaf_count tree.shape) spans (leaves_of_part tree.planes a b tree.shape 0 start_parting end_parting))
