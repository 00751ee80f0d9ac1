-- Where a part of a partition stands among its numbered nodes, and what is below a child of it.
use Rattle.std.proofs.Common.{◌≡◌, ◌<◌, ℕ, zero, suc, ◌+◌, pos, Bool, true, false, if◌then◌else◌, List, ◌++◌, length, Some, All, inl, inr, refl, sym, ap, ap₂, subst, ◌∙◌, arith, add_assoc, add-zero, zero-add, one-add}
use Rattle.std.specs.Prelude.{slice_get, int_lt}
use Rattle.std.proofs.lemmas.List.Elements.{All-head, All-tail}
use Rattle.std.proofs.lemmas.Option.{slice_get_within}
use Rattle.qm_lists.proofs.Elements.{All-first_part, All-last_part}
use Rattle.qm_lists.proofs.Places.{slice_get-append_old, slice_get-append_past, slice_get-append_cases}
use Rattle.qm_space.specs.Point.{Point}
use Rattle.qm_space.specs.Plane.{Plane}
use Rattle.qm_partition.specs.declared.node.Node.{Node as NodeRecord}
use Rattle.qm_partition.specs.declared.node.Child.{Child}
use Rattle.qm_partition.specs.declared.node.Child.TheVariants.{Node}
use Rattle.qm_partition.specs.Partition.{Partition, leaf, node}
use Rattle.qm_partition.specs.Counting.{node_count, node_planes}
use Rattle.qm_partition.specs.Numbering.{nodes_after, leaves_after, child_of, nodes_of}
use Rattle.qm_partition.specs.LeafOfPoint.{node_value, leaf_at}
use Rattle.qm_partition.specs.inner.PlacedPart.{IsPart, nodes_from}
use Rattle.qm_partition.specs.inner.ChildTowards.{child_towards}
use Rattle.qm_numbers.proofs.Signs.{side_test}
use Rattle.qm_partition.proofs.Counts.{leaf_count-node, nodes_after-count, leaves_after-count, length-nodes_of}

-- the node of a partition that is not a leaf, numbered n, where its leaves are numbered from k on
abbrev pub top_node : ℕ → Partition → Partition → ℕ → ℕ → NodeRecord
top_node p front back n k = record { plane = p; front = child_of front (n + 1) k; back = child_of back (nodes_after front (n + 1)) (leaves_after front k) }

pub top_node_is : (here : NodeRecord) (front back : Partition) (n k : ℕ) → here.front ≡ child_of front (n + 1) k → here.back ≡ child_of back (nodes_after front (n + 1)) (leaves_after front k) → here ≡ top_node here.plane front back n k
top_node_is here front back n k in_front behind = ap₂ (λ (a : Child) (b : Child). record { plane = here.plane; front = a; back = b }) in_front behind

pub whole_part : (whole : Partition) → IsPart whole whole 0 0
whole_part whole = record { nodes_at = λ i m at. rw zero-add at; nodes_in = omega arith; leaves_in = omega arith }

module _ (whole : Partition) (p : ℕ) (front back : Partition) (n k : ℕ) where
  abbrev n_back : ℕ
  n_back = nodes_after front (n + 1)

  abbrev k_back : ℕ
  k_back = leaves_after front k

  pub part_node : IsPart whole (node p front back) n k → slice_get (nodes_of whole 0 0) n ≡ Some (top_node p front back n k)
  part_node part = rw add-zero at (part.nodes_at 0 _ refl)

  pub part_front : IsPart whole (node p front back) n k → IsPart whole front (n + 1) k
  part_front part =
      let below = nodes_of front (n + 1) k in
      record {
        nodes_at = λ i m at. rw add_assoc (part.nodes_at (1 + i) m (rw one-add (slice_get-append_old below (nodes_of back n_back k_back) m i at)));
        nodes_in = omega (arith, part.nodes_in);
        leaves_in = omega (arith, part.leaves_in, leaf_count-node p front back);
      }

  pub part_back : IsPart whole (node p front back) n k → IsPart whole back n_back k_back
  part_back part =
      let below = nodes_of front (n + 1) k in
      let count = length-nodes_of front (n + 1) k in
      record {
        nodes_at = λ i m at.
            let place : n_back + i ≡ n + suc (length below + i) = omega (arith, count, nodes_after-count front (n + 1)) in
            rw place (part.nodes_at (suc (length below + i)) m (slice_get-append_past below (nodes_of back n_back k_back) i ∙ at));
        nodes_in = omega (arith, part.nodes_in, nodes_after-count front (n + 1));
        leaves_in = omega (arith, part.leaves_in, leaf_count-node p front back, leaves_after-count front k);
      }

-- what holds of the planes of the nodes holds of the plane of each numbered node
pub each_node_plane : (P : ℕ → Type 0) (shape : Partition) (n k i : ℕ) (m : NodeRecord) → All P (node_planes shape) → slice_get (nodes_of shape n k) i ≡ Some m → P m.plane
each_node_plane P (leaf found) n k i m each at = absurd cc
each_node_plane P (node p front back) n k zero m each at =
    let same : top_node p front back n k ≡ m = cc in
    subst (λ (m : NodeRecord). P m.plane) same (All-head P p (node_planes front ++ node_planes back) each)
each_node_plane P (node p front back) n k (suc i) m each at =
    let below = All-tail P p (node_planes front ++ node_planes back) each in
    let n_back = nodes_after front (n + 1) in
    let k_back = leaves_after front k in
    elim (slice_get-append_cases (nodes_of front (n + 1) k) (nodes_of back n_back k_back) m i at) [
      | inl here ↦ each_node_plane P front (n + 1) k i m (All-first_part P (node_planes front) (node_planes back) below) here
      | inr there ↦ each_node_plane P back n_back k_back there.0 m (All-last_part P (node_planes front) (node_planes back) below) there.2
    ]

child_comes_later : (shape : Partition) (n k j count : ℕ) → j < n → j < suc count → nodes_from count (child_of shape n k) < nodes_from count (Node j)
child_comes_later (leaf found) n k j count later within = omega arith
child_comes_later (node p front back) n k j count later within = omega arith

-- each child of the node of number n + i comes behind it
pub children_come_later : (shape : Partition) (n k i count : ℕ) (m : NodeRecord) → slice_get (nodes_of shape n k) i ≡ Some m → n + i < suc count → (nodes_from count m.front < nodes_from count (Node (n + i))) × (nodes_from count m.back < nodes_from count (Node (n + i)))
children_come_later (leaf found) n k i count m at within = absurd cc
children_come_later (node p front back) n k zero count m at within =
    let top = top_node p front back n k in
    let same : top ≡ m = cc in
    let n_back = nodes_after front (n + 1) in
    let k_back = leaves_after front k in
    let later : (nodes_from count top.front < nodes_from count (Node (n + 0))) × (nodes_from count top.back < nodes_from count (Node (n + 0))) =
    (child_comes_later front (n + 1) k (n + 0) count (omega arith) within, child_comes_later back n_back k_back (n + 0) count (omega (arith, nodes_after-count front (n + 1))) within) in
    subst (λ (m : NodeRecord). (nodes_from count m.front < nodes_from count (Node (n + 0))) × (nodes_from count m.back < nodes_from count (Node (n + 0)))) same later
children_come_later (node p front back) n k (suc i) count m at within =
    let n_back = nodes_after front (n + 1) in
    let k_back = leaves_after front k in
    elim (slice_get-append_cases (nodes_of front (n + 1) k) (nodes_of back n_back k_back) m i at) [
      | inl here ↦
          let place : n + suc i ≡ (n + 1) + i = omega arith in
          rw place (children_come_later front (n + 1) k i count m here (omega arith))
      | inr there ↦
          let place : n + suc i ≡ n_back + there.0 = omega (arith, there.1, nodes_after-count front (n + 1), length-nodes_of front (n + 1) k) in
          rw place (children_come_later back n_back k_back there.0 count m there.2 (omega (arith, place)))
    ]

-- both children of a numbered node come behind it
pub sides_come_later : (whole : Partition) (j : ℕ) (here : NodeRecord) → slice_get (nodes_of whole 0 0) j ≡ Some here → (nodes_from (node_count whole) here.front < nodes_from (node_count whole) (Node j)) × (nodes_from (node_count whole) here.back < nodes_from (node_count whole) (Node j))
sides_come_later whole j here at =
    let within = slice_get_within (nodes_of whole 0 0) j here at in
    rw zero-add at (children_come_later whole 0 0 j (node_count whole) here at (omega (arith, within, length-nodes_of whole 0 0)))

-- ---- the way of a point

-- the child is the part of the whole to which the point is led
pub record LeadsOn (planes : List Plane) (whole : Partition) (x : Point) (child : Child) : Type 0 where
  pub part : Partition
  pub n : ℕ
  pub k : ℕ
  pub is_part : IsPart whole part n k
  pub child_is : child ≡ child_of part n k
  pub number_is : leaf_at planes whole x ≡ k + leaf_at planes part x

module _ (planes : List Plane) (whole : Partition) (x : Point) where
  next_of_part : (part : Partition) (n k j : ℕ) (here : NodeRecord) → IsPart whole part n k → Node j ≡ child_of part n k → leaf_at planes whole x ≡ k + leaf_at planes part x → slice_get (nodes_of whole 0 0) j ≡ Some here → LeadsOn planes whole x (child_towards planes here x)
  next_of_part (leaf found) n k j here part child number at = absurd cc
  next_of_part (node p front back) n k j here part child number at =
      let same : j ≡ n = cc in
      let top = top_node p front back n k in
      let its : top ≡ here = let e : Some top ≡ Some here = sym (part_node whole p front back n k part) ∙ ap (slice_get (nodes_of whole 0 0)) (sym same) ∙ at in cc in
      let next : LeadsOn planes whole x (child_towards planes top x) =
      elim (side_test (node_value planes p x)) [
        | inl behind ↦
            let number = rw behind.0 at number in
            rw behind.0 (record {
              part = back;
              n = nodes_after front (n + 1);
              k = leaves_after front k;
              is_part = part_back whole p front back n k part;
              child_is = refl;
              number_is = omega (arith, number, leaves_after-count front k);
            })
        | inr ahead ↦
            rw ahead.0 (record { part = front; n = n + 1; k = k; is_part = part_front whole p front back n k part; child_is = refl; number_is = rw ahead.0 at number })
      ] in
      subst (λ (m : NodeRecord). LeadsOn planes whole x (child_towards planes m x)) its next

  pub leads_on_next : (j : ℕ) (here : NodeRecord) → LeadsOn planes whole x (Node j) → slice_get (nodes_of whole 0 0) j ≡ Some here → LeadsOn planes whole x (child_towards planes here x)
  leads_on_next j here led at = next_of_part led.part led.n led.k j here led.is_part led.child_is led.number_is at

-- the child of a node on the point's side comes behind it
pub child_towards_later : (planes : List Plane) (whole : Partition) (x : Point) (j : ℕ) (here : NodeRecord) → slice_get (nodes_of whole 0 0) j ≡ Some here → nodes_from (node_count whole) (child_towards planes here x) < nodes_from (node_count whole) (Node j)
child_towards_later planes whole x j here at =
    either (int_lt (node_value planes here.plane x) (pos 0)) (sides_come_later whole j here at)
  where
    either : (b : Bool) → (nodes_from (node_count whole) here.front < nodes_from (node_count whole) (Node j)) × (nodes_from (node_count whole) here.back < nodes_from (node_count whole) (Node j)) → nodes_from (node_count whole) (if b then here.back else here.front) < nodes_from (node_count whole) (Node j)
    either true later = later.1
    either false later = later.0
