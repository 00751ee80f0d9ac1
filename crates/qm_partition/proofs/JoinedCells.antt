-- Where joining leaves a node and where it leaves a leaf: a joined leaf stands for a part all of whose leaves have its
-- contents, and its cell has the cell of each of them.
use Rattle.std.proofs.Common.{◌≡◌, ℕ, Bool, true, false, if◌then◌else◌, inl, inr, ◌⊎◌, List, [], ◌++◌, All, map, refl, sym, ◌∙◌, subst}
use Rattle.std.proofs.lemmas.List.Elements.{All-nil, All-cons, All-head, All-tail, All-append, All-weaker, All-map, All-contains}
use Rattle.qm_lists.proofs.Pairs.{All-from_contains}
use Rattle.qm_lists.proofs.Elements.{All-first_part, All-last_part, All-from_map}
use Rattle.qm_space.specs.Point.{Point, IsInCube}
use Rattle.qm_space.specs.Plane.{Plane, IsInFront}
use Rattle.qm_space.specs.Cell.{IsInCell}
use Rattle.qm_space.specs.Turned.{turned}
use Rattle.qm_space.specs.Book.{plane_at}
use Rattle.qm_contents.specs.declared.contents.Contents.{Contents}
use Rattle.qm_partition.specs.declared.node.Leaf.{Leaf}
use Rattle.qm_partition.specs.Partition.{Partition, leaf, node}
use Rattle.qm_partition.specs.Counting.{leaves_of, node_planes}
use Rattle.qm_partition.specs.Ways.{Way, after_step, ways, cell_of_way, HasPoints}
use Rattle.qm_partition.specs.Joining.{have_same_contents, joined_node, joined}
use Rattle.qm_partition.proofs.JoinedLeaves.{same_contents_equal}

-- ---- one node

-- the two sides are leaves of equal contents, which become one leaf
pub record AreOneLeaf (front back whole : Partition) : Type 0 where
  pub a : Leaf
  pub b : Leaf
  pub front_is : front ≡ leaf a
  pub back_is : back ≡ leaf b
  pub equal : b.contents ≡ a.contents
  pub whole_is : whole ≡ leaf a

of_leaves : (n : ℕ) (a b : Leaf) (test : Bool) → have_same_contents a b ≡ test →
    let whole : Partition = if test then leaf a else node n (leaf a) (leaf b) in
    AreOneLeaf (leaf a) (leaf b) whole ⊎ (whole ≡ node n (leaf a) (leaf b))
of_leaves n a b true same = inl (record { a = a; b = b; front_is = refl; back_is = refl; equal = sym (same_contents_equal a b same); whole_is = refl })
of_leaves n a b false same = inr refl

-- a node becomes a leaf, where its sides are leaves of equal contents, or stays
pub joined_node_is : (n : ℕ) (front back : Partition) → AreOneLeaf front back (joined_node n front back) ⊎ (joined_node n front back ≡ node n front back)
joined_node_is n (leaf a) (leaf b) = of_leaves n a b (have_same_contents a b) refl
joined_node_is n (leaf a) (node m front back) = inr refl
joined_node_is n (node m front back) behind = inr refl

-- ---- contents

-- each leaf has these contents
abbrev pub HasOnly : Contents → Partition → Type 0
HasOnly contents shape = All (λ found. found.contents ≡ contents) (leaves_of shape)

-- a part that becomes a leaf has only the contents of that leaf
pub has_only : (shape : Partition) (a : Leaf) → joined shape ≡ leaf a → HasOnly a.contents shape
has_only (leaf found) a is =
    let same : found.contents ≡ a.contents = cc in
    All-cons (λ found. found.contents ≡ a.contents) found [] same (All-nil (λ found. found.contents ≡ a.contents))
has_only (node n front back) a is = elim (joined_node_is n (joined front) (joined back)) [
  | inl one ↦
      let whole : leaf one.a ≡ leaf a = sym one.whole_is ∙ is in
      let same : one.a ≡ a = cc in
      let its : HasOnly one.a.contents (node n front back) =
      All-append (λ found. found.contents ≡ one.a.contents) (leaves_of front) (leaves_of back) (has_only front one.a one.front_is)
      (subst (λ (c : Contents). HasOnly c back) one.equal (has_only back one.b one.back_is)) in
      subst (λ (b : Leaf). HasOnly b.contents (node n front back)) same its
  | inr stays ↦ absurd (let whole : node n (joined front) (joined back) ≡ leaf a = sym stays ∙ is in cc)
]

-- ---- points

-- a point with a property in the cell of a way
pub record HasPointWith (planes : List Plane) (Has : Point → Type 0) (way : Way) : Type 0 where
  pub point : Point
  pub has : Has point
  pub in_cell : IsInCell (cell_of_way planes way) point

-- of the ways of a partition there is one
pub some_way : (P : Way → Type 0) (shape : Partition) → All P (ways shape) → (way : Way) × P way
some_way P (leaf found) each = ([], All-head P [] [] each)
some_way P (node n front back) each =
    let below = some_way (λ way. P (after_step n true way)) front (All-from_map P (after_step n true) (ways front) (All-first_part P (map (after_step n true) (ways front)) (map (after_step n false) (ways back)) each)) in
    (after_step n true below.0, below.1)

module _ (planes : List Plane) (Has : Point → Type 0) (n : ℕ) (to_front : Bool) where
  -- the property, and to be on the step's side
  abbrev pub HasBehindStep : Point → Type 0
  HasBehindStep x = Has x × IsInFront (turned to_front (plane_at planes n)) x

  pub step_off : (way : Way) → HasPointWith planes Has (after_step n to_front way) → HasPointWith planes HasBehindStep way
  step_off way at =
      let h = turned to_front (plane_at planes n) in
      record {
        point = at.point;
        has = (at.has, All-head (λ h. IsInFront h at.point) h (cell_of_way planes way) at.in_cell);
        in_cell = All-tail (λ h. IsInFront h at.point) h (cell_of_way planes way) at.in_cell;
      }

  pub step_on : (way : Way) → HasPointWith planes HasBehindStep way → HasPointWith planes Has (after_step n to_front way)
  step_on way at = record {
    point = at.point;
    has = at.has.0;
    in_cell = All-cons (λ h. IsInFront h at.point) (turned to_front (plane_at planes n)) (cell_of_way planes way) at.has.1 at.in_cell;
  }

  pub steps_off : (below : List Way) → All (HasPointWith planes Has) (map (after_step n to_front) below) → All (HasPointWith planes HasBehindStep) below
  steps_off below each =
      All-weaker (λ way. HasPointWith planes Has (after_step n to_front way)) (HasPointWith planes HasBehindStep) step_off below (All-from_map (HasPointWith planes Has) (after_step n to_front) below each)

  pub steps_on : (below : List Way) → All (HasPointWith planes HasBehindStep) below → All (HasPointWith planes Has) (map (after_step n to_front) below)
  steps_on below each =
      All-map (HasPointWith planes Has) (after_step n to_front) below (All-weaker (HasPointWith planes HasBehindStep) (λ way. HasPointWith planes Has (after_step n to_front way)) step_on below each)

-- where the cell of each way has a point with the property, so has the cell of each way of the joined partition
pub joined_have_points : (planes : List Plane) (Has : Point → Type 0) (shape : Partition) → All (HasPointWith planes Has) (ways shape) → All (HasPointWith planes Has) (ways (joined shape))
joined_have_points planes Has (leaf found) each = each
joined_have_points planes Has (node n front back) each = elim (joined_node_is n (joined front) (joined back)) [
  | inl one ↦
      let some = some_way (HasPointWith planes Has) (node n front back) each in
      let at : HasPointWith planes Has [] = record { point = some.1.point; has = some.1.has; in_cell = All-nil (λ h. IsInFront h some.1.point) } in
      subst (λ (s : Partition). All (HasPointWith planes Has) (ways s)) (sym one.whole_is) (All-cons (HasPointWith planes Has) [] [] at (All-nil (HasPointWith planes Has)))
  | inr stays ↦
      let to_front = map (after_step n true) (ways front) in
      let to_back = map (after_step n false) (ways back) in
      let fronts = steps_on planes Has n true (ways (joined front)) (joined_have_points planes (HasBehindStep planes Has n true) front (steps_off planes Has n true (ways front) (All-first_part (HasPointWith planes Has) to_front to_back each))) in
      let backs = steps_on planes Has n false (ways (joined back)) (joined_have_points planes (HasBehindStep planes Has n false) back (steps_off planes Has n false (ways back) (All-last_part (HasPointWith planes Has) to_front to_back each))) in
      subst (λ (s : Partition). All (HasPointWith planes Has) (ways s)) (sym stays) (All-append (HasPointWith planes Has) (map (after_step n true) (ways (joined front))) (map (after_step n false) (ways (joined back))) fronts backs)
]

-- so each leaf of the joined partition has a point of the cube, where each leaf of the partition has
pub joined_has_points : (planes : List Plane) (shape : Partition) → HasPoints (record { planes = planes; shape = shape }) → HasPoints (record { planes = planes; shape = joined shape })
joined_has_points planes shape points = λ way among.
    let Has : Way → Type 0 = HasPointWith planes IsInCube in
    let each : All Has (ways shape) =
    All-from_contains Has (ways shape) (λ way among. let at = points way among in record { point = at.0; has = at.1.in_cube; in_cell = at.1.in_cell }) in
    let at : Has way = All-contains Has (ways (joined shape)) way (joined_have_points planes IsInCube shape each) among in
    (at.point, record { in_cube = at.has; in_cell = at.in_cell })

-- ---- the names of planes

-- what holds of the plane of each node holds of the plane of each that is left
pub joined_node_planes : (P : ℕ → Type 0) (shape : Partition) → All P (node_planes shape) → All P (node_planes (joined shape))
joined_node_planes P (leaf found) each = each
joined_node_planes P (node n front back) each = elim (joined_node_is n (joined front) (joined back)) [
  | inl one ↦ subst (λ (s : Partition). All P (node_planes s)) (sym one.whole_is) (All-nil P)
  | inr stays ↦
      let below = All-tail P n (node_planes front ++ node_planes back) each in
      let fronts = joined_node_planes P front (All-first_part P (node_planes front) (node_planes back) below) in
      let backs = joined_node_planes P back (All-last_part P (node_planes front) (node_planes back) below) in
      subst (λ (s : Partition). All P (node_planes s)) (sym stays)
      (All-cons P n (node_planes (joined front) ++ node_planes (joined back)) (All-head P n (node_planes front ++ node_planes back) each) (All-append P (node_planes (joined front)) (node_planes (joined back)) fronts backs))
]
