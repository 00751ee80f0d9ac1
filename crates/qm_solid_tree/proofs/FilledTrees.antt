-- No leaf of the tree of solids is filled; and where leaves are marked, points keep their contents but in filled leaves.
use Rattle.std.proofs.Common.{◌≡◌, ◌<◌, ℕ, ◌+◌, length, Bool, true, false, List, [], ◌∷◌, get_or, ◌⊎◌, inl, inr, refl, sym, subst}
use Rattle.std.specs.Prelude.{IsTrue, if◌then◌else◌}
use Rattle.std.specs.List.{All}
use Rattle.std.proofs.lemmas.List.Elements.{All-nil, All-cons, All-append}
use Rattle.qm_lists.proofs.Cases.{by_cases_of}
use Rattle.qm_lists.proofs.Elements.{All-first_part, All-last_part}
use Rattle.qm_space.specs.Point.{Point}
use Rattle.qm_space.specs.Plane.{Plane}
use Rattle.qm_solids.specs.Solid.{Solid}
use Rattle.qm_solids.specs.Contents.{HasContents}
use Rattle.qm_partition.specs.declared.node.Leaf.{Leaf}
use Rattle.qm_partition.specs.Partition.{Partition, leaf, node}
use Rattle.qm_partition.specs.Tree.{Tree}
use Rattle.qm_partition.specs.Counting.{leaves_of}
use Rattle.qm_partition.specs.LeafOfPoint.{leaf_at, leaf_record_at}
use Rattle.qm_partition.specs.Joining.{have_same_contents, joined_node, joined}
use Rattle.qm_partition.specs.Marked.{marked_leaf, marked_tree}
use Rattle.qm_partition.proofs.MarkedLeaves.{marked_leaf_of_point, marked_planes}
use Rattle.qm_partition.proofs.FilledLeaves.{off_unmarked}
use Rattle.qm_solid_tree.specs.Division.{Divides, undivided, divided, front_of, back_of}
use Rattle.qm_solid_tree.specs.GivesContents.{GivesContents, GivesContentsOrIsFilled}
use Rattle.qm_solid_tree.specs.TreeOf.{IsTreeOf}

abbrev HasNoneFilled : Partition → Type 0
HasNoneFilled shape = All (λ found. found.filled ≡ false) (leaves_of shape)

-- a division has no filled leaf
division_unfilled : (solids : List Solid) (book cell : List Plane) (shape : Partition) → Divides solids book cell shape → HasNoneFilled shape
division_unfilled solids book cell shape (undivided {found = found} none has unfilled) = All-cons (λ (l : Leaf). l.filled ≡ false) found [] unfilled (All-nil (λ (l : Leaf). l.filled ≡ false))
division_unfilled solids book cell shape (divided {h = h} {front = front} {back = back} least in_front behind) =
    All-append (λ (l : Leaf). l.filled ≡ false) (leaves_of front) (leaves_of back) (division_unfilled solids book (front_of cell h) front in_front) (division_unfilled solids book (back_of cell h) back behind)

-- nor has one that is joined
node_unfilled : (n : ℕ) (front back : Partition) → HasNoneFilled front → HasNoneFilled back → HasNoneFilled (joined_node n front back)
node_unfilled n (leaf a) (leaf b) in_front behind =
    by_cases_of (λ (test : Bool). HasNoneFilled (if test then leaf a else node n (leaf a) (leaf b))) (have_same_contents a b)
    (λ equal. in_front) (λ apart. All-append (λ (l : Leaf). l.filled ≡ false) (a ∷ []) (b ∷ []) in_front behind)
node_unfilled n (leaf a) (node m front back) in_front behind = All-append (λ (l : Leaf). l.filled ≡ false) (a ∷ []) (leaves_of (node m front back)) in_front behind
node_unfilled n (node m front back) other in_front behind = All-append (λ (l : Leaf). l.filled ≡ false) (leaves_of (node m front back)) (leaves_of other) in_front behind

joined_unfilled : (shape : Partition) → HasNoneFilled shape → HasNoneFilled (joined shape)
joined_unfilled (leaf found) none = none
joined_unfilled (node n front back) none =
    node_unfilled n (joined front) (joined back)
    (joined_unfilled front (All-first_part (λ (l : Leaf). l.filled ≡ false) (leaves_of front) (leaves_of back) none))
    (joined_unfilled back (All-last_part (λ (l : Leaf). l.filled ≡ false) (leaves_of front) (leaves_of back) none))

pub tree_unfilled : (solids : List Solid) (book : List Plane) (tree : Tree) → IsTreeOf solids book tree → All (λ found. found.filled ≡ false) (leaves_of tree.shape)
tree_unfilled solids book tree is = subst HasNoneFilled (sym is.is_joined) (joined_unfilled is.whole (division_unfilled solids book [] is.whole is.divides))

-- ---- a tree whose leaves are marked

pub marked_gives : (row : List Bool) (tree : Tree) (solids : List Solid) → GivesContents tree solids → GivesContentsOrIsFilled (marked_tree row tree) solids
marked_gives row tree solids gives = record {
  named = subst (λ (numbers : List ℕ). All (λ n. n < length tree.planes) numbers) (sym (marked_planes row tree.shape 0)) gives.named;
  normals = gives.normals;
  gives = λ x in_cube off.
      let its = gives.gives x in_cube (off_unmarked row tree.planes tree.shape 0 x off) in
      subst (λ (l : Leaf). IsTrue l.filled ⊎ HasContents solids x l.contents) (sym (marked_leaf_of_point row tree.planes tree.shape 0 x))
      (either (get_or row (0 + leaf_at tree.planes tree.shape x) false) (leaf_record_at tree.planes tree.shape x) x its);
}
  where
    either : (mark : Bool) (found : Leaf) (x : Point) → HasContents solids x found.contents → IsTrue (marked_leaf mark found).filled ⊎ HasContents solids x (marked_leaf mark found).contents
    either true found x has = inl refl
    either false found x has = inr has
