-- The leaves that a cell reaches, by their numbers.
use Rattle.std.proofs.Common.{◌≡◌, ◌+◌, ◌<◌, ℕ, List, ◌∷◌, All, Contains, sym, ap, ◌∙◌, subst, arith, ◌↔◌, ⊎_elim}
use Rattle.std.specs.Prelude.{slice_get}
use Rattle.std.specs.List.Sorted.{IsStrictlyIncreasing}
use Rattle.std.proofs.lemmas.List.Elements.{All-nil, All-cons, All-append, All-head, All-tail}
use Rattle.qm_lists.proofs.Elements.{Contains-nil, Contains-first, Contains-later, Contains-cons_cases}
use Rattle.qm_lists.proofs.EachPair.{EachPair, pairs_by_place}
use Rattle.qm_space.specs.Point.{Point, IsInCube}
use Rattle.qm_space.specs.Plane.{Plane, IsInFront}
use Rattle.qm_space.specs.Cell.{IsInCell}
use Rattle.qm_partition.specs.Tree.{Tree}
use Rattle.qm_partition.specs.Ways.{ways, cell_of_way}
use Rattle.qm_partition.specs.LeafOfPoint.{leaf_at, IsOffNodePlanes}
use Rattle.qm_partition.proofs.Cells.{leaf_of_point}
use Rattle.qm_contacts.specs.Meeting.{LeafBelow, leaves_below}
use Rattle.qm_contacts.proofs.LeavesBelow.{leaf_listed, leaf_from_list, leaves_ascend}
use Rattle.qm_reach.specs.ReachedLeaves.{ReachesWay, ReachesLeaf, AreReached, no_leaves, reached, missed}

-- ---- among some leaves

module _ (planes cell : List Plane) where
  -- each that was found is one that is reached
  is_reached : (leaves : List LeafBelow) (found : List ℕ) (k : ℕ) → AreReached planes cell leaves found → Contains found k → (below : LeafBelow) × Contains leaves below × (below.leaf ≡ k) × ReachesWay planes cell below.way
  is_reached leaves found k no_leaves listed = absurd (Contains-nil k listed)
  is_reached leaves found k (reached {below = below} {leaves = rest} {found = others} is have) listed = ⊎_elim
      (λ same. (below, Contains-first below rest, same, is))
      (λ later. let its = is_reached rest others k have later in (its.0, Contains-later below its.0 rest its.1, its.2, its.3))
      (Contains-cons_cases below.leaf k others listed)
  is_reached leaves found k (missed {below = below} {leaves = rest} never have) listed =
      let its = is_reached rest found k have listed in
      (its.0, Contains-later below its.0 rest its.1, its.2, its.3)

  -- each that is reached was found
  is_found : (leaves : List LeafBelow) (found : List ℕ) (here : LeafBelow) → AreReached planes cell leaves found → Contains leaves here → ReachesWay planes cell here.way → Contains found here.leaf
  is_found leaves found here no_leaves listed some = absurd (Contains-nil here listed)
  is_found leaves found here (reached {below = below} {leaves = rest} {found = others} is have) listed some = ⊎_elim
      (λ same. subst (λ (b : LeafBelow). Contains (below.leaf ∷ others) b.leaf) same (Contains-first below.leaf others))
      (λ later. Contains-later below.leaf here.leaf others (is_found rest others here have later some))
      (Contains-cons_cases below here rest listed)
  is_found leaves found here (missed {below = below} {leaves = rest} never have) listed some = ⊎_elim
      (λ same. absurd (never (subst (λ (b : LeafBelow). ReachesWay planes cell b.way) (sym same) some)))
      (λ later. is_found rest found here have later some)
      (Contains-cons_cases below here rest listed)

  -- they keep the leaves' order
  all_above : (n : ℕ) (leaves : List LeafBelow) (found : List ℕ) → AreReached planes cell leaves found → All (λ b. n < b.leaf) leaves → All (λ k. n < k) found
  all_above n leaves found no_leaves above = All-nil (λ k. n < k)
  all_above n leaves found (reached {below = below} {leaves = rest} {found = others} is have) above =
      All-cons (λ k. n < k) below.leaf others (All-head (λ b. n < b.leaf) below rest above) (all_above n rest others have (All-tail (λ b. n < b.leaf) below rest above))
  all_above n leaves found (missed {below = below} {leaves = rest} never have) above = all_above n rest found have (All-tail (λ b. n < b.leaf) below rest above)

  in_order : (leaves : List LeafBelow) (found : List ℕ) → AreReached planes cell leaves found → EachPair (λ b c. b.leaf < c.leaf) leaves → EachPair (λ j k. j < k) found
  in_order leaves found no_leaves each = tt
  in_order leaves found (reached {below = below} {leaves = rest} {found = others} is have) each = (all_above below.leaf rest others have each.0, in_order rest others have each.1)
  in_order leaves found (missed {leaves = rest} never have) each = in_order rest found have each.1

-- ---- among all leaves of a tree

module _ (tree : Tree) (cell : List Plane) (found : List ℕ) (are : AreReached tree.planes cell (leaves_below tree.shape 0) found) where
  pub found_are_reached : (k : ℕ) → Contains found k ↔ ReachesLeaf tree cell k
  found_are_reached k = (to_leaf, from_leaf)
    where
      to_leaf : Contains found k → ReachesLeaf tree cell k
      to_leaf listed =
          let its = is_reached tree.planes cell (leaves_below tree.shape 0) found k are listed in
          let place = leaf_from_list tree.shape 0 its.0 its.1 in
          let same : place.0 ≡ k = omega (arith, place.1, its.2) in
          record { way = its.0.way; way_is = ap (slice_get (ways tree.shape)) (sym same) ∙ place.2; reached = its.3 }

      from_leaf : ReachesLeaf tree cell k → Contains found k
      from_leaf is =
          let at_start : 0 + k ≡ k = omega arith in
          subst (Contains found) at_start (is_found tree.planes cell (leaves_below tree.shape 0) found (record { leaf = 0 + k; way = is.way }) are (leaf_listed tree.shape 0 k is.way is.way_is) is.reached)

  pub found_ascend : IsStrictlyIncreasing found
  found_ascend k within = pairs_by_place (λ a b. a < b) found (in_order tree.planes cell (leaves_below tree.shape 0) found are (leaves_ascend tree.shape 0)) k (k + 1) 0 (omega arith) within

-- the leaf of a point in the cell is reached
pub leaf_of_point_reached : (tree : Tree) (cell : List Plane) (x : Point) → IsInCube x → IsInCell cell x → IsOffNodePlanes tree.planes tree.shape x → ReachesLeaf tree cell (leaf_at tree.planes tree.shape x)
leaf_of_point_reached tree cell x in_cube in_cell off =
    let its = leaf_of_point tree.planes tree.shape x off in
    record {
      way = its.0;
      way_is = its.1.way_is;
      reached = record { point = x; in_cube = in_cube; in_cell = All-append (λ g. IsInFront g x) cell (cell_of_way tree.planes its.0) in_cell its.2 };
    }
