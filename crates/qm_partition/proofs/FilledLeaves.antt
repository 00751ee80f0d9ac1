-- Which leaves of a marked tree are filled, and that marking changes no node plane.
use Rattle.std.proofs.Common.{◌≡◌, ℕ, ◌<◌, Bool, true, false, List, get_or, slice_get, Some, None, refl, sym, ap, ◌∙◌}
use Rattle.std.specs.Prelude.{option_map}
use Rattle.std.specs.List.{All}
use Rattle.std.proofs.lemmas.Option.{slice_get-get_or}
use Rattle.std.proofs.lemmas.List.Elements.{All-contains}
use Rattle.qm_lists.proofs.Cases.{by_cases, by_option}
use Rattle.qm_lists.proofs.Elements.{Contains-at}
use Rattle.qm_space.specs.Point.{Point}
use Rattle.qm_space.specs.Plane.{Plane}
use Rattle.qm_partition.specs.declared.node.Leaf.{Leaf}
use Rattle.qm_partition.specs.Partition.{Partition, leaf, node}
use Rattle.qm_partition.specs.Tree.{Tree}
use Rattle.qm_partition.specs.Counting.{leaves_of, leaf_count}
use Rattle.qm_partition.specs.Numbering.{leaves_after}
use Rattle.qm_partition.specs.LeafOfPoint.{IsOffNodePlanes}
use Rattle.qm_partition.specs.Marked.{filled_leaf, marked_leaf, marked, marked_tree, IsFilledLeaf}
use Rattle.qm_partition.proofs.MarkedLeaves.{marked_leaf_at_place}

module _ (row : List Bool) where
  -- a point that is off the node planes of the marked partition is off those of the partition
  pub off_unmarked : (planes : List Plane) (shape : Partition) (k : ℕ) (x : Point) → IsOffNodePlanes planes (marked row shape k) x → IsOffNodePlanes planes shape x
  off_unmarked planes (leaf found) k x off = tt
  off_unmarked planes (node plane front back) k x off =
      (off.0, off_unmarked planes front k x off.1, off_unmarked planes back (leaves_after front k) x off.2)

  module _ (tree : Tree) (unfilled : All (λ found. found.filled ≡ false) (leaves_of tree.shape)) where
    place : (k : ℕ) → slice_get (leaves_of (marked row tree.shape 0)) k ≡ option_map (marked_leaf (get_or row k false)) (slice_get (leaves_of tree.shape) k)
    place k = marked_leaf_at_place row tree.shape k

    is_marked : (k : ℕ) (own found : Leaf) → slice_get (leaves_of tree.shape) k ≡ Some own → slice_get (leaves_of (marked row tree.shape 0)) k ≡ Some found → found ≡ marked_leaf (get_or row k false) own
    is_marked k own found own_at at =
        let e : Some found ≡ Some (marked_leaf (get_or row k false) own) = sym at ∙ place k ∙ ap (option_map (marked_leaf (get_or row k false))) own_at in
        cc

    -- a filled leaf of the marked tree is one of the row
    pub filled_in_row : (k : ℕ) → IsFilledLeaf (marked_tree row tree) k → get_or row k false ≡ true
    filled_in_row k is = by_option (slice_get (leaves_of tree.shape) k)
        (λ none_there. absurd (let e : Some is.found ≡ None = sym is.leaf_is ∙ place k ∙ ap (option_map (marked_leaf (get_or row k false))) none_there in cc))
        (λ own own_at. by_cases (get_or row k false) (λ set. set) (λ clear. absurd (never own own_at clear)))
      where
        never : (own : Leaf) → slice_get (leaves_of tree.shape) k ≡ Some own → get_or row k false ≡ false → ⊥
        never own own_at clear =
            let same : is.found ≡ own = is_marked k own is.found own_at is.leaf_is ∙ ap (λ (b : Bool). marked_leaf b own) clear in
            let no_fill : own.filled ≡ false = All-contains (λ found. found.filled ≡ false) (leaves_of tree.shape) own unfilled (Contains-at (leaves_of tree.shape) k own own_at) in
            let e : true ≡ false = sym is.filled ∙ ap (λ (l : Leaf). l.filled) same ∙ no_fill in
            cc

    -- and each leaf of the row is filled there
    pub row_is_filled : (k : ℕ) → k < leaf_count tree.shape → get_or row k false ≡ true → IsFilledLeaf (marked_tree row tree) k
    row_is_filled k within set = record {
      found = filled_leaf;
      leaf_is = place k ∙ ap (option_map (marked_leaf (get_or row k false))) (slice_get-get_or (leaves_of tree.shape) k filled_leaf within) ∙ ap (λ (b : Bool). Some (marked_leaf b (get_or (leaves_of tree.shape) k filled_leaf))) set;
      filled = refl;
    }
