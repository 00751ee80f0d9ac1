-- Finding the way to a leaf of a number: from the root down, to the side that has it.
use Rattle.std.proofs.Common.{◌≡◌, ◌<◌, ◌≤◌, ℕ, zero, suc, ◌+◌, ◌-◌, Bool, true, false, [], ◌∷◌, ◌++◌, map, Some, refl, sym, ap, subst, ◌∙◌, arith, zero-add}
use Rattle.std.specs.Prelude.{slice_get, option_map}
use Rattle.std.proofs.lemmas.List.{append_assoc, append-nil}
use Rattle.std.proofs.lemmas.Option.{slice_get-map}
use Rattle.qm_lists.proofs.Places.{slice_get-append_old, slice_get-append_past}
use Rattle.qm_partition.specs.declared.node.Node.{Node as NodeRecord}
use Rattle.qm_partition.specs.declared.node.Child.{Child}
use Rattle.qm_partition.specs.declared.node.Child.TheVariants.{Node, Leaf}
use Rattle.qm_partition.specs.declared.step.Step.{Step}
use Rattle.qm_partition.specs.Partition.{Partition, leaf, node}
use Rattle.qm_partition.specs.Counting.{leaf_count}
use Rattle.qm_partition.specs.Numbering.{nodes_after, leaves_after, child_of, nodes_of}
use Rattle.qm_partition.specs.Ways.{Way, after_step, ways}
use Rattle.qm_partition.specs.inner.LeavesInFront.{leaves_in_front, ComesBehind}
use Rattle.qm_partition.proofs.Counts.{leaf_count-node, nodes_after-count, leaves_after-count, one_leaf_more}
use Rattle.qm_partition.proofs.Cells.{to_front-count}
use Rattle.qm_partition.specs.inner.PlacedPart.{IsPart}
use Rattle.qm_partition.proofs.PlacedParts.{top_node, whole_part, part_node, part_front, part_back}

leaves_in_front-part : (front back : Partition) (n k : ℕ) → leaves_in_front (child_of back (nodes_after front (n + 1)) (leaves_after front k)) n k ≡ leaf_count front
leaves_in_front-part front (leaf found) n k = omega (arith, leaves_after-count front k)
leaves_in_front-part front (node p f b) n k = omega (arith, nodes_after-count front (n + 1), one_leaf_more front)

comes_behind : (front back : Partition) (n k : ℕ) → ComesBehind (child_of back (nodes_after front (n + 1)) (leaves_after front k)) n k
comes_behind front (leaf found) n k = omega (arith, leaves_after-count front k)
comes_behind front (node p f b) n k = omega (arith, nodes_after-count front (n + 1))

module _ (whole : Partition) (target : ℕ) where
  -- these steps lead to a child, of whose leaves the first has the number k, and the leaf that is sought is one of them
  pub record IsOnTheWay (child : Child) (k : ℕ) (steps : Way) : Type 0 where
    pub part : Partition
    pub n : ℕ
    pub place : ℕ
    pub is_part : IsPart whole part n k
    pub child_is : child ≡ child_of part n k
    pub target_is : target ≡ k + place
    pub within : place < leaf_count part
    pub way_is : (way : Way) → slice_get (ways part) place ≡ Some way → slice_get (ways whole) target ≡ Some (steps ++ way)

  pub on_way_begins : target < leaf_count whole → IsOnTheWay (child_of whole 0 0) 0 []
  on_way_begins within =
      record {
        part = whole;
        n = 0;
        place = target;
        is_part = whole_part whole;
        child_is = refl;
        target_is = sym (zero-add target);
        within = within;
        way_is = λ way at. at;
      }

  -- ---- at a leaf the way is found

  at_leaf : (part : Partition) (n k j place : ℕ) (steps : Way) → Leaf j ≡ child_of part n k → place < leaf_count part → ((way : Way) → slice_get (ways part) place ≡ Some way → slice_get (ways whole) target ≡ Some (steps ++ way)) → slice_get (ways whole) target ≡ Some steps
  at_leaf (leaf found) n k j zero steps child within way_is = way_is [] refl ∙ ap Some (append-nil steps)
  at_leaf (leaf found) n k j (suc place) steps child within way_is = absurd (omega arith)
  at_leaf (node p front back) n k j place steps child within way_is = absurd cc

  pub on_way_ends : (child : Child) (j k : ℕ) (steps : Way) → IsOnTheWay child k steps → child ≡ Leaf j → slice_get (ways whole) target ≡ Some steps
  on_way_ends child j k steps on is = at_leaf on.part on.n k j on.place steps (sym is ∙ on.child_is) on.within on.way_is

  -- ---- at a node it goes on

  module _ (k : ℕ) (steps : Way) where
    -- a node to which the way leads, with both its sides
    pub record IsAtNode (n : ℕ) (here : NodeRecord) : Type 0 where
      pub front : Partition
      pub back : Partition
      pub place : ℕ
      pub is_part : IsPart whole (node here.plane front back) n k
      pub here_is : here ≡ top_node here.plane front back n k
      pub target_is : target ≡ k + place
      pub within : place < leaf_count (node here.plane front back)
      pub way_is : (way : Way) → slice_get (ways (node here.plane front back)) place ≡ Some way → slice_get (ways whole) target ≡ Some (steps ++ way)

    at_node : (part : Partition) (n j place : ℕ) (here : NodeRecord) → IsPart whole part n k → Node j ≡ child_of part n k → target ≡ k + place → place < leaf_count part → ((way : Way) → slice_get (ways part) place ≡ Some way → slice_get (ways whole) target ≡ Some (steps ++ way)) → slice_get (nodes_of whole 0 0) j ≡ Some here → IsAtNode j here
    at_node (leaf found) n j place here part child target_is within way_is at = absurd cc
    at_node (node p front back) n j place here part child target_is within way_is at =
        let same : n ≡ j = cc in
        let top = top_node p front back n k in
        let its : top ≡ here = let e : Some top ≡ Some here = sym (part_node whole p front back n k part) ∙ ap (slice_get (nodes_of whole 0 0)) same ∙ at in cc in
        let found : IsAtNode n top = record { front = front; back = back; place = place; is_part = part; here_is = refl; target_is = target_is; within = within; way_is = way_is } in
        subst (λ (m : NodeRecord). IsAtNode j m) its (subst (λ (i : ℕ). IsAtNode i top) same found)

    pub is_at_node : (child : Child) (j : ℕ) (here : NodeRecord) → IsOnTheWay child k steps → child ≡ Node j → slice_get (nodes_of whole 0 0) j ≡ Some here → IsAtNode j here
    is_at_node child j here on is at = at_node on.part on.n j on.place here on.is_part (sym is ∙ on.child_is) on.target_is on.within on.way_is at

    module _ (n : ℕ) (here : NodeRecord) where
      abbrev step_to : Bool → Step
      step_to to_front = record { plane = here.plane; front = to_front }

      in_front : (found : IsAtNode n here) → leaves_in_front here.back n k ≡ leaf_count found.front
      in_front found = ap (λ (m : NodeRecord). leaves_in_front m.back n k) found.here_is ∙ leaves_in_front-part found.front found.back n k

      pub back_comes_behind : IsAtNode n here → ComesBehind here.back n k
      back_comes_behind found = subst (λ (m : NodeRecord). ComesBehind m.back n k) (sym found.here_is) (comes_behind found.front found.back n k)

      one_step_more : (way : Way) (to_front : Bool) → slice_get (ways whole) target ≡ Some (steps ++ after_step here.plane to_front way) → slice_get (ways whole) target ≡ Some ((steps ++ step_to to_front ∷ []) ++ way)
      one_step_more way to_front at = at ∙ ap Some (sym (append_assoc steps (step_to to_front ∷ []) way))

      pub goes_front : IsAtNode n here → target - k < leaves_in_front here.back n k → IsOnTheWay here.front k (steps ++ step_to true ∷ [])
      goes_front found before =
          let front = found.front in
          let to_front = map (after_step here.plane true) (ways front) in
          let to_back = map (after_step here.plane false) (ways found.back) in
          record {
            part = front;
            n = n + 1;
            place = found.place;
            is_part = part_front whole here.plane front found.back n k found.is_part;
            child_is = ap (λ (m : NodeRecord). m.front) found.here_is;
            target_is = found.target_is;
            within = omega (arith, in_front found, found.target_is);
            way_is = λ way at.
                let its = slice_get-map (after_step here.plane true) (ways front) found.place ∙ ap (option_map (after_step here.plane true)) at in
                one_step_more way true (found.way_is (after_step here.plane true way) (slice_get-append_old to_front to_back (after_step here.plane true way) found.place its));
          }

      pub goes_back : IsAtNode n here → leaves_in_front here.back n k ≤ target - k → IsOnTheWay here.back (k + leaves_in_front here.back n k) (steps ++ step_to false ∷ [])
      goes_back found behind =
          let front = found.front in
          let back = found.back in
          let to_front = map (after_step here.plane true) (ways front) in
          let to_back = map (after_step here.plane false) (ways back) in
          let n_back = nodes_after front (n + 1) in
          let k_back = leaves_after front k in
          let begins = in_front found in
          let same : k_back ≡ k + leaves_in_front here.back n k = leaves_after-count front k ∙ ap (λ (count : ℕ). k + count) (sym begins) in
          let place = found.place - leaf_count front in
          let place_is : found.place ≡ leaf_count front + place = omega (arith, begins, found.target_is) in
          record {
            part = back;
            n = n_back;
            place = place;
            is_part = subst (λ (j : ℕ). IsPart whole back n_back j) same (part_back whole here.plane front back n k found.is_part);
            child_is = ap (λ (m : NodeRecord). m.back) found.here_is ∙ ap (child_of back n_back) same;
            target_is = omega (arith, begins, found.target_is, place_is);
            within = omega (arith, found.within, place_is, leaf_count-node here.plane front back);
            way_is = λ way at.
                let its = slice_get-append_past to_front to_back place ∙ slice_get-map (after_step here.plane false) (ways back) place ∙ ap (option_map (after_step here.plane false)) at in
                let there : slice_get (to_front ++ to_back) found.place ≡ Some (after_step here.plane false way) =
                ap (λ (i : ℕ). slice_get (to_front ++ to_back) i) (place_is ∙ ap (λ (i : ℕ). i + place) (sym (to_front-count here.plane front))) ∙ its in
                one_step_more way false (found.way_is (after_step here.plane false way) there);
          }
