-- Segments of a tree whose leaves are marked: what is generic stays so, and what is clear for the contents of a map, and
-- begins in a leaf that is not filled, is clear for those of the marked leaves.
use Rattle.std.proofs.Common.{◌≡◌, ◌≢◌, ℕ, ◌+◌, Bool, true, false, List, get_or, Contains, sym, ap, ◌∙◌, subst, arith, ⊎_elim, ◌↔◌}
use Rattle.std.specs.Prelude.{All}
use Rattle.qm_lists.specs.WorkList.{IsIn}
use Rattle.qm_lists.proofs.Cases.{by_cases}
use Rattle.qm_space.specs.Point.{Point, IsInCube}
use Rattle.qm_contents.specs.declared.contents.Contents.{Contents}
use Rattle.qm_contents.specs.declared.contents.Contents.TheVariants.{Solid}
use Rattle.qm_partition.specs.declared.node.Leaf.{Leaf}
use Rattle.qm_partition.specs.Tree.{Tree}
use Rattle.qm_partition.specs.Counting.{node_planes}
use Rattle.qm_partition.specs.LeafOfPoint.{leaf_at, leaf_record_at, IsOffNodePlanes}
use Rattle.qm_partition.specs.Marked.{marked_leaf, filled_leaf, marked_tree}
use Rattle.qm_partition.specs.Ways.{Way, HasPoints}
use Rattle.qm_partition.proofs.MarkedLeaves.{marked_planes, marked_ways, marked_leaf_of_point}
use Rattle.qm_partition.proofs.NodePlanes.{IsOff, off_node_planes}
use Rattle.qm_contacts.specs.Meeting.{Meeting, meetings}
use Rattle.qm_contacts.specs.Touching.{Touching, AreTouchings}
use Rattle.qm_contacts.specs.PortalChain.{IsPortalBetween}
use Rattle.qm_contacts.proofs.MarkedTrees.{marked_meetings}
use Rattle.qm_segments.specs.Segment.{Segment, IsOnSegment}
use Rattle.qm_segments.specs.Generic.{IsGeneric}
use Rattle.qm_segments.specs.Clear.{IsClear, LeafHas}
use Rattle.qm_segments.proofs.Betweenness.{between_in_cube}
use Rattle.qm_segments.proofs.UnfilledLeaves.{none_marked_on}

module _ (row : List Bool) (tree : Tree) where
  pub marked_points : HasPoints tree → HasPoints (marked_tree row tree)
  marked_points have way there = have way (subst (λ (all : List Way). Contains all way) (marked_ways row tree.shape 0) there)

  pub marked_touchings : (touchings : List Touching) → AreTouchings tree.planes (meetings tree) touchings → AreTouchings tree.planes (meetings (marked_tree row tree)) touchings
  marked_touchings touchings are = subst (λ (all : List Meeting). AreTouchings tree.planes all touchings) (sym (marked_meetings row tree)) are

  pub off_marked : (x : Point) → IsOffNodePlanes tree.planes (marked_tree row tree).shape x ↔ IsOffNodePlanes tree.planes tree.shape x
  off_marked x = (
    (λ off. (off_node_planes tree.planes x tree.shape).1 (subst (All (IsOff tree.planes x)) (marked_planes row tree.shape 0) ((off_node_planes tree.planes x (marked_tree row tree).shape).0 off))),
    (λ off. (off_node_planes tree.planes x (marked_tree row tree).shape).1 (subst (All (IsOff tree.planes x)) (sym (marked_planes row tree.shape 0)) ((off_node_planes tree.planes x tree.shape).0 off))),
  )

  pub generic_unmarked : (s : Segment) → IsGeneric (marked_tree row tree) s → IsGeneric tree s
  generic_unmarked s generic = record {
    from_in_cube = generic.from_in_cube;
    to_in_cube = generic.to_in_cube;
    from_off = (off_marked s.from).0 generic.from_off;
    to_off = (off_marked s.to).0 generic.to_off;
    one_plane = λ x g h on g_plane h_plane. generic.one_plane x g h on (g_plane.0, there g_plane.0 g_plane.1, g_plane.2) (h_plane.0, there h_plane.0 h_plane.1, h_plane.2);
  }
    where
      there : (n : ℕ) → Contains (node_planes tree.shape) n → Contains (node_planes (marked_tree row tree).shape) n
      there n listed = subst (λ (all : List ℕ). Contains all n) (sym (marked_planes row tree.shape 0)) listed

  -- the leaf of a point, where it is not marked, and where it is not filled
  leaf_of : (x : Point) → leaf_record_at tree.planes (marked_tree row tree).shape x ≡ marked_leaf (get_or row (leaf_at tree.planes tree.shape x) false) (leaf_record_at tree.planes tree.shape x)
  leaf_of x = marked_leaf_of_point row tree.planes tree.shape 0 x ∙ ap (λ (k : ℕ). marked_leaf (get_or row k false) (leaf_record_at tree.planes tree.shape x)) {x = 0 + leaf_at tree.planes tree.shape x} {y = leaf_at tree.planes tree.shape x} (omega arith)

  same_leaf : (x : Point) → (IsIn row (leaf_at tree.planes tree.shape x) → ⊥) → leaf_record_at tree.planes (marked_tree row tree).shape x ≡ leaf_record_at tree.planes tree.shape x
  same_leaf x not_in = by_cases (get_or row (leaf_at tree.planes tree.shape x) false)
      (λ yes. absurd (not_in yes))
      (λ no. leaf_of x ∙ ap (λ (b : Bool). marked_leaf b (leaf_record_at tree.planes tree.shape x)) no)

  not_in_row : (x : Point) → (leaf_record_at tree.planes (marked_tree row tree).shape x).filled ≡ false → IsIn row (leaf_at tree.planes tree.shape x) → ⊥
  not_in_row x not_filled mark =
      let is : leaf_record_at tree.planes (marked_tree row tree).shape x ≡ filled_leaf = leaf_of x ∙ ap (λ (b : Bool). marked_leaf b (leaf_record_at tree.planes tree.shape x)) mark in
      absurd (let e : false ≡ true = sym not_filled ∙ ap (λ (found : Leaf). found.filled) is in cc)

  -- where portals lead from marked leaves to marked ones, the contents of a map along a segment are those of the marked
  -- leaves
  module _ (have : HasPoints tree) (closed : (a b : ℕ) → IsPortalBetween tree a b → IsIn row a → IsIn row b) (has : Point → Contents → Type 0) (gives : (x : Point) → IsInCube x → IsOffNodePlanes tree.planes tree.shape x → has x (leaf_record_at tree.planes tree.shape x).contents) (single : (x : Point) (c d : Contents) → has x c → has x d → c ≡ d) where
    in_cube : (s : Segment) (x : Point) → IsGeneric tree s → IsOnSegment s x → IsInCube x
    in_cube s x generic on = ⊎_elim
        (λ same. subst IsInCube (sym same) generic.from_in_cube)
        (λ more. ⊎_elim (λ same. subst IsInCube (sym same) generic.to_in_cube) (λ b. between_in_cube x s.from s.to b generic.from_in_cube generic.to_in_cube) more)
        on

    unmarked_clear : (s : Segment) (contents : Contents) → IsGeneric tree s → IsClear has (marked_tree row tree) s contents → IsClear (LeafHas tree) tree s contents
    unmarked_clear s contents generic clear x on off =
        single x (leaf_record_at tree.planes tree.shape x).contents contents (gives x (in_cube s x generic on) off) (clear x on ((off_marked x).1 off))

    pub marked_clear : (s : Segment) (contents : Contents) → contents ≢ Solid → IsGeneric (marked_tree row tree) s → IsClear has (marked_tree row tree) s contents → (leaf_record_at tree.planes (marked_tree row tree).shape s.from).filled ≡ false → IsClear (LeafHas (marked_tree row tree)) (marked_tree row tree) s contents
    marked_clear s contents not_solid generic clear not_filled x on off =
        let plain = generic_unmarked s generic in
        let in_tree = unmarked_clear s contents plain clear in
        let x_off = (off_marked x).0 off in
        ap (λ (found : Leaf). found.contents) (same_leaf x (none_marked_on tree have s plain contents not_solid in_tree (IsIn row) closed x on x_off (not_in_row s.from not_filled)))
        ∙ in_tree x on x_off
