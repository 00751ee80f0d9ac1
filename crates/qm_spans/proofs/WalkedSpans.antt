-- A walk from the root to the leaf just after a parting, and what it finds: the first of the spans that are still to come.
use Rattle.std.proofs.Common.{◌≡◌, ℕ, zero, suc, ◌+◌, ◌<◌, ℤ, pos, Bool, true, false, if◌then◌else◌, List, [], ◌∷◌, ◌++◌, Some, refl, ap, sym, subst, ◌∙◌, arith}
use Rattle.std.specs.Prelude.{int_lt, slice_get}
use Rattle.std.proofs.lemmas.List.{append_assoc, append-nil}
use Rattle.qm_lists.proofs.Cases.{by_cases_of}
use Rattle.qm_space.specs.Point.{Point}
use Rattle.qm_partition.specs.declared.node.Node.{Node as NodeRecord}
use Rattle.qm_partition.specs.declared.node.Child.{Child}
use Rattle.qm_partition.specs.declared.node.Child.TheVariants.{Node, Leaf}
use Rattle.qm_partition.specs.Partition.{Partition, leaf, node}
use Rattle.qm_partition.specs.Tree.{Tree}
use Rattle.qm_partition.specs.Counting.{node_count}
use Rattle.qm_partition.specs.Numbering.{nodes_after, leaves_after, child_of, nodes_of}
use Rattle.qm_partition.specs.LeafOfPoint.{node_value}
use Rattle.qm_partition.specs.inner.PlacedPart.{IsPart, nodes_from}
use Rattle.qm_partition.proofs.PlacedParts.{top_node, whole_part, part_node, part_front, part_back, sides_come_later}
use Rattle.qm_spans.specs.declared.span.Span.{Span}
use Rattle.qm_spans.specs.declared.parting.Parting.{Parting}
use Rattle.qm_spans.specs.Partings.{end_parting, crossing_at, crosses_between, is_behind_after, lowest_place}
use Rattle.qm_spans.specs.ComputedSpans.{spans_between, spans_while_left, spans_from}
use Rattle.qm_spans.specs.inner.NextChild.{child_on, next_child}
use Rattle.qm_spans.proofs.PartingOrder.{IsEarlier, IsNotLater, parts_behind, earlier_then_earlier}
use Rattle.qm_spans.proofs.PlaneSides.{Crosses, crossed, crosses_from, not_crossed_later, side_at_crossing}
use Rattle.qm_spans.proofs.ComputedSpans.{spans_on, spans_crossed, spans_not_crossed}

-- the next child, where it is known whether the plane is crossed
abbrev chosen_child : NodeRecord → ℤ → ℤ → (at leave : Parting) → Bool → Child × Parting
chosen_child here u v at leave crosses = if crosses then (child_on here (int_lt u (pos 0)), crossing_at u v) else (child_on here (is_behind_after u v at), leave)

module _ (tree : Tree) (a b : Point) where
  -- from each parting from one up to another the segment goes through the part first, and then on
  abbrev GoesThroughPart : Partition → ℕ → (at leave : Parting) → Type 0
  GoesThroughPart part k at leave = (from : Parting) → IsNotLater at from → IsEarlier from leave → spans_from tree a b from ≡ spans_between tree.planes a b part k from leave ++ spans_from tree a b leave

  -- the child is a part of the tree in which the segment is just after a parting, and which it leaves at the other or sooner
  pub record LeadsAfter (at : Parting) (child : Child) (leave : Parting) : Type 0 where
    pub part : Partition
    pub n : ℕ
    pub k : ℕ
    pub is_part : IsPart tree.shape part n k
    pub child_is : child ≡ child_of part n k
    pub later : IsEarlier at leave
    pub spans_are : GoesThroughPart part k at leave

  -- ---- the root

  while_left : (from : Parting) (left : ℕ) → 0 < left → spans_while_left tree a b from left ≡ spans_between tree.planes a b tree.shape 0 from end_parting
  while_left from zero some = absurd (omega (arith, some))
  while_left from (suc left) some = refl

  pub leads_to_root : (at : Parting) → 0 < at.behind → LeadsAfter at (child_of tree.shape 0 0) end_parting
  unfolding spans_from
  leads_to_root at some = record {
    part = tree.shape;
    n = 0;
    k = 0;
    is_part = whole_part tree.shape;
    child_is = refl;
    later = omega (arith, some);
    spans_are = λ from after until. while_left from from.behind (parts_behind from end_parting until) ∙ sym (append-nil (spans_between tree.planes a b tree.shape 0 from end_parting));
  }

  -- ---- one node further

  module _ (p : ℕ) (front back : Partition) (n k : ℕ) (at leave : Parting) (is_part : IsPart tree.shape (node p front back) n k) (later : IsEarlier at leave) (through : GoesThroughPart (node p front back) k at leave) where
    abbrev u : ℤ
    u = node_value tree.planes p a

    abbrev v : ℤ
    v = node_value tree.planes p b

    abbrev top : NodeRecord
    top = top_node p front back n k

    -- through the child on one side
    on_side : (behind : Bool) (until : Parting) → IsEarlier at until → ((from : Parting) → IsNotLater at from → IsEarlier from until → spans_from tree a b from ≡ spans_on tree.planes a b front back k behind from until ++ spans_from tree a b until) → LeadsAfter at (child_on top behind) until
    on_side true until less are = record {
      part = back;
      n = nodes_after front (n + 1);
      k = leaves_after front k;
      is_part = part_back tree.shape p front back n k is_part;
      child_is = refl;
      later = less;
      spans_are = are;
    }
    on_side false until less are = record {
      part = front;
      n = n + 1;
      k = k;
      is_part = part_front tree.shape p front back n k is_part;
      child_is = refl;
      later = less;
      spans_are = are;
    }

    -- the rest of the part after the crossing comes with what comes after the part
    up_to_crossing : Crosses u v at leave → (from : Parting) → IsNotLater at from → IsEarlier from (crossing_at u v) → spans_from tree a b from ≡ spans_on tree.planes a b front back k (int_lt u (pos 0)) from (crossing_at u v) ++ spans_from tree a b (crossing_at u v)
    up_to_crossing crosses from after until =
        let x = crossing_at u v in
        let first = spans_on tree.planes a b front back k (int_lt u (pos 0)) from x in
        let second = spans_on tree.planes a b front back k (int_lt v (pos 0)) x leave in
        let rest = spans_from tree a b leave in
        let whole = through from after (earlier_then_earlier from x leave until crosses.before) in
        let parted = spans_crossed tree.planes a b p front back k from leave (crosses_from u v from leave crosses.opposed until crosses.before) in
        let at_crossing = side_at_crossing u v at leave crosses in
        let there = through x (omega (arith, crosses.after)) crosses.before in
        let one = spans_not_crossed tree.planes a b p front back k x leave at_crossing.0 ∙ ap (λ (behind : Bool). spans_on tree.planes a b front back k behind x leave) at_crossing.1 in
        whole ∙ ap (λ (spans : List Span). spans ++ rest) parted ∙ append_assoc first second rest
        ∙ ap (λ (spans : List Span). first ++ spans) (sym (there ∙ ap (λ (spans : List Span). spans ++ rest) one))

    on_one_side : crosses_between u v at leave ≡ false → (from : Parting) → IsNotLater at from → IsEarlier from leave → spans_from tree a b from ≡ spans_on tree.planes a b front back k (is_behind_after u v at) from leave ++ spans_from tree a b leave
    on_one_side not from after until =
        let still = not_crossed_later u v at leave from (parts_behind at leave later) not after until in
        through from after until
        ∙ ap (λ (spans : List Span). spans ++ spans_from tree a b leave)
        (spans_not_crossed tree.planes a b p front back k from leave still.0 ∙ ap (λ (behind : Bool). spans_on tree.planes a b front back k behind from leave) still.1)

    leads_to_child : LeadsAfter at (next_child top u v at leave).0 (next_child top u v at leave).1
    leads_to_child = by_cases_of (λ (c : Bool).
        LeadsAfter at (chosen_child top u v at leave c).0 (chosen_child top u v at leave c).1)
        (crosses_between u v at leave)
        (λ test. let crosses = crossed u v at leave test in on_side (int_lt u (pos 0)) (crossing_at u v) crosses.after (up_to_crossing crosses))
        (λ test. on_side (is_behind_after u v at) leave later (on_one_side test))

  next_of_part : (part : Partition) (n k j : ℕ) (here : NodeRecord) (at leave : Parting) → IsPart tree.shape part n k → Node j ≡ child_of part n k → IsEarlier at leave → GoesThroughPart part k at leave → slice_get (nodes_of tree.shape 0 0) j ≡ Some here →
      LeadsAfter at (next_child here (node_value tree.planes here.plane a) (node_value tree.planes here.plane b) at leave).0 (next_child here (node_value tree.planes here.plane a) (node_value tree.planes here.plane b) at leave).1
  next_of_part (leaf found) n k j here at leave part child later through stands = absurd cc
  next_of_part (node p front back) n k j here at leave part child later through stands =
      let same : j ≡ n = cc in
      let its : top_node p front back n k ≡ here = let e : Some (top_node p front back n k) ≡ Some here = sym (part_node tree.shape p front back n k part) ∙ ap (slice_get (nodes_of tree.shape 0 0)) (sym same) ∙ stands in cc in
      subst (λ (m : NodeRecord). LeadsAfter at (next_child m (node_value tree.planes m.plane a) (node_value tree.planes m.plane b) at leave).0 (next_child m (node_value tree.planes m.plane a) (node_value tree.planes m.plane b) at leave).1) its
      (leads_to_child p front back n k at leave part later through)

  pub leads_further : (j : ℕ) (here : NodeRecord) (at leave : Parting) → LeadsAfter at (Node j) leave → slice_get (nodes_of tree.shape 0 0) j ≡ Some here →
      LeadsAfter at (next_child here (node_value tree.planes here.plane a) (node_value tree.planes here.plane b) at leave).0 (next_child here (node_value tree.planes here.plane a) (node_value tree.planes here.plane b) at leave).1
  leads_further j here at leave led stands = next_of_part led.part led.n led.k j here at leave led.is_part led.child_is led.later led.spans_are stands

  there_of_part : (part : Partition) (n k j : ℕ) → IsPart tree.shape part n k → Node j ≡ child_of part n k → j < node_count tree.shape
  there_of_part (leaf found) n k j part child = absurd cc
  there_of_part (node p front back) n k j part child = let same : j ≡ n = cc in let within = part.nodes_in in omega (arith, same, within)

  pub node_is_there : (j : ℕ) (at leave : Parting) → LeadsAfter at (Node j) leave → j < node_count tree.shape
  node_is_there j at leave led = there_of_part led.part led.n led.k j led.is_part led.child_is

  -- ---- the leaf

  first_of_part : (part : Partition) (n k found : ℕ) (at leave : Parting) → Leaf found ≡ child_of part n k → IsEarlier at leave → GoesThroughPart part k at leave → spans_from tree a b at ≡ record { leaf = found; to = lowest_place leave } ∷ spans_from tree a b leave
  unfolding spans_between
  first_of_part (leaf record_of) n k found at leave child later through =
      let same : found ≡ k = cc in
      through at (omega arith) later ∙ ap (λ (m : ℕ). record { leaf = m; to = lowest_place leave } ∷ spans_from tree a b leave) (sym same)
  first_of_part (node p front back) n k found at leave child later through = absurd cc

  pub first_span : (found : ℕ) (at leave : Parting) → LeadsAfter at (Leaf found) leave → spans_from tree a b at ≡ record { leaf = found; to = lowest_place leave } ∷ spans_from tree a b leave
  first_span found at leave led = first_of_part led.part led.n led.k found at leave led.child_is led.later led.spans_are

-- at the end nothing is to come
pub none_left : (tree : Tree) (a b : Point) (at : Parting) → at.behind ≡ 0 → spans_from tree a b at ≡ []
unfolding spans_from
none_left tree a b at none = ap (spans_while_left tree a b at) none

-- both children of a node come after it
pub next_child_later : (tree : Tree) (j : ℕ) (here : NodeRecord) (s t : ℤ) (at leave : Parting) → slice_get (nodes_of tree.shape 0 0) j ≡ Some here → nodes_from (node_count tree.shape) (next_child here s t at leave).0 < nodes_from (node_count tree.shape) (Node j)
next_child_later tree j here s t at leave stands =
    let later = sides_come_later tree.shape j here stands in
    by_cases_of (λ (c : Bool). nodes_from (node_count tree.shape) (chosen_child here s t at leave c).0 < nodes_from (node_count tree.shape) (Node j))
    (crosses_between s t at leave) (λ test. either (int_lt s (pos 0)) later) (λ test. either (is_behind_after s t at) later)
  where
    either : (behind : Bool) → (nodes_from (node_count tree.shape) here.front < nodes_from (node_count tree.shape) (Node j)) × (nodes_from (node_count tree.shape) here.back < nodes_from (node_count tree.shape) (Node j)) → nodes_from (node_count tree.shape) (child_on here behind) < nodes_from (node_count tree.shape) (Node j)
    either true later = later.1
    either false later = later.0
