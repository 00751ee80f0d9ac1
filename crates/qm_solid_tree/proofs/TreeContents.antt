-- The tree that solids define leads each point that is on no node plane to a leaf of the contents that the solids define
-- there. Joining leaves no node plane through the point, while below a joined leaf there are cells that have the point on
-- their border. Each of these has the contents of the joined leaf, and whatever solid holds the point has points strictly
-- inside it near the point in one of them.
use Rattle.std.proofs.Common.{◌≡◌, ℕ, ◌+◌, ◌<◌, suc, pos, true, false, inl, inr, ◌⊎◌, List, [], Contains, refl, sym, subst, arith, unsigned_abs}
use Rattle.std.proofs.lemmas.Int.{ints}
use Rattle.qm_contents.proofs.Strengths.{stronger_or_not}
use Rattle.std.proofs.lemmas.List.Elements.{All-nil, All-push, All-head}
use Rattle.qm_lists.proofs.Elements.{All-first_part, All-last_part}
use Rattle.qm_numbers.proofs.Signs.{side_test, above_zero}
use Rattle.qm_space.specs.Point.{Point, IsInCube}
use Rattle.qm_space.specs.Plane.{Plane, value, IsInFront, IsNotBehind, IsBehind}
use Rattle.qm_space.specs.Turned.{turned}
use Rattle.qm_space.specs.Cell.{IsInCell, HasPoint}
use Rattle.qm_space.specs.Cube.{cube_walls}
use Rattle.qm_space.specs.Book.{AreBookPlanes}
use Rattle.qm_space.proofs.Books.{plane_at_from}
use Rattle.qm_space.proofs.Planes.{flipped_in_front}
use Rattle.qm_space.proofs.Openness.{moved, reach, moved_in_cell, moved_in_cube}
use Rattle.qm_space.proofs.ClosedCells.{IsInClosedCell, cell_is_closed, cell_from_closed, cube_from_cube}
use Rattle.qm_contents.specs.declared.contents.Contents.{Contents}
use Rattle.qm_contents.specs.Precedence.{strength, IsAtMost}
use Rattle.qm_solids.specs.Solid.{Solid, inward}
use Rattle.qm_solids.specs.Holding.{IsInside, IsFull, Holds}
use Rattle.qm_solids.specs.Strongest.{AreGiven}
use Rattle.qm_solids.specs.Contents.{HasContents}
use Rattle.qm_solids.specs.Cells.{ContainsCell, CellHasContents}
use Rattle.qm_solids.specs.Candidates.{IsOutdone}
use Rattle.qm_solids.proofs.Insides.{inside_in_front_of_none}
use Rattle.qm_solids.proofs.HeldPoints.{inside_near, in_limit}
use Rattle.qm_partition.specs.Partition.{Partition, leaf, node}
use Rattle.qm_partition.specs.Counting.{leaves_of}
use Rattle.qm_partition.specs.LeafOfPoint.{node_value, leaf_record_at, IsOffNodePlanes}
use Rattle.qm_partition.specs.Joining.{joined}
use Rattle.qm_partition.specs.Tree.{Tree}
use Rattle.qm_partition.proofs.JoinedCells.{joined_node_is, HasOnly, has_only}
use Rattle.qm_solid_tree.specs.Division.{HasPlanesOf, HasNoCandidate, Divides, undivided, divided}
use Rattle.qm_solid_tree.specs.TreeOf.{IsTreeOf}
use Rattle.qm_solid_tree.proofs.LeafPoints.{least_parts}
use Rattle.qm_solid_tree.proofs.UniformLeaves.{lies_outside}

-- a leaf's cell, which has a point, and which has this point inside it or on its border
pub record IsNearLeaf (solids : List Solid) (book : List Plane) (x : Point) (contents : Contents) : Type 0 where
  pub cell : List Plane
  pub none : HasNoCandidate solids book cell
  pub has : CellHasContents solids cell contents
  pub some : HasPoint cell
  pub closed : IsInClosedCell cell x

-- a divided cell that has the point strictly inside it, all of whose leaves have these contents
pub record IsInPart (solids : List Solid) (book : List Plane) (x : Point) (contents : Contents) : Type 0 where
  pub cell : List Plane
  pub shape : Partition
  pub divides : Divides solids book cell shape
  pub only : HasOnly contents shape
  pub inside : IsInCell cell x

module _ (solids : List Solid) (book : List Plane) (planes : AreBookPlanes book) where
  -- ---- the leaf beside a point

  -- from the point's side of a plane down, the front where it is on the plane
  pub near_leaf : (x : Point) (contents : Contents) {cell : List Plane} {shape : Partition} → Divides solids book cell shape → HasOnly contents shape → HasPoint cell → IsInClosedCell cell x → IsNearLeaf solids book x contents
  near_leaf x contents (undivided {cell = cell} {found = found} none has unfilled) only some closed =
      let same : found.contents ≡ contents = All-head (λ found. found.contents ≡ contents) found [] only in
      record { cell = cell; none = none; has = subst (λ (c : Contents). CellHasContents solids cell c) same has; some = some; closed = closed }
  near_leaf x contents (divided {cell = cell} {n = n} {h = h} {front = front} {back = back} least in_front behind) only some closed =
      elim (side_test (value h x)) [
        | inl is_behind ↦
            let ahead = (flipped_in_front h x).1 is_behind.1 in
            near_leaf x contents behind (All-last_part (λ found. found.contents ≡ contents) (leaves_of front) (leaves_of back) only) (least_parts solids book planes cell n h false least)
            (All-push (λ g. IsNotBehind g x) cell (turned false h) closed (omega (arith, ints, ahead)))
        | inr is_ahead ↦
            near_leaf x contents in_front (All-first_part (λ found. found.contents ≡ contents) (leaves_of front) (leaves_of back) only) (least_parts solids book planes cell n h true least)
            (All-push (λ g. IsNotBehind g x) cell h closed is_ahead.1)
      ]

  -- ---- the part of a point

  -- down the joined partition to the leaf of the point: below it all leaves have its contents
  pub in_part : (x : Point) {cell : List Plane} {shape : Partition} → Divides solids book cell shape → IsInCell cell x → IsOffNodePlanes book (joined shape) x → IsInPart solids book x (leaf_record_at book (joined shape) x).contents
  unfolding node_value
  in_part x (undivided {cell = cell} {found = found} none has unfilled) inside off =
      record { cell = cell; shape = leaf found; divides = undivided none has unfilled; only = has_only (leaf found) found refl; inside = inside }
  in_part x (divided {cell = cell} {n = n} {h = h} {front = front} {back = back} least in_front behind) inside off =
      elim (joined_node_is n (joined front) (joined back)) [
        | inl one ↦
            let whole : IsInPart solids book x one.a.contents = record {
              cell = cell;
              shape = node n front back;
              divides = divided least in_front behind;
              only = has_only (node n front back) one.a one.whole_is;
              inside = inside;
            } in
            subst (λ (s : Partition). IsInPart solids book x (leaf_record_at book s x).contents) (sym one.whole_is) whole
        | inr stays ↦
            let its = subst (λ (s : Partition). IsOffNodePlanes book s x) stays off in
            let same = plane_at_from book n h least.is_one.numbered in
            let sides : IsInPart solids book x (leaf_record_at book (node n (joined front) (joined back)) x).contents =
            elim (side_test (node_value book n x)) [
              | inl is_behind ↦
                  let below = subst (λ (g : Plane). IsBehind g x) same is_behind.1 in
                  let ahead = (flipped_in_front h x).1 below in
                  rw is_behind.0 (in_part x behind (All-push (λ g. IsInFront g x) cell (turned false h) inside ahead) its.2)
              | inr is_ahead ↦
                  let ahead = subst (λ (g : Plane). IsInFront g x) same (above_zero (node_value book n x) is_ahead.1 its.0) in
                  rw is_ahead.0 (in_part x in_front (All-push (λ g. IsInFront g x) cell h inside ahead) its.1)
            ] in
            subst (λ (s : Partition). IsInPart solids book x (leaf_record_at book s x).contents) (sym stays) sides
      ]

  -- ---- its contents

  -- the contents of a leaf beside a point are those of a solid that holds the point, or empty
  pub given_by_leaf : (x : Point) (contents : Contents) → IsInCube x → IsNearLeaf solids book x contents → AreGiven (λ solid. Holds solid x) solids contents
  given_by_leaf x contents in_cube near = by near.has.given
    where
      holds : (solid : Solid) → ContainsCell solid near.cell → Holds solid x
      holds solid contains =
          let q = near.some.point in
          record {
            full = contains.full;
            not_in_front = in_limit solid x q (λ least.
                let k = suc (unsigned_abs least) in
                (pos k, omega (arith, ints), contains.inside (moved (pos k) x q) (cube_from_cube x q (pos k) (omega (arith, ints)) in_cube near.some.in_cube) (cell_from_closed near.cell x q (pos k) (omega (arith, ints)) near.closed near.some.in_cell)));
          }

      by : AreGiven (λ solid. ContainsCell solid near.cell) solids contents → AreGiven (λ solid. Holds solid x) solids contents
      by (inl empty) = inl empty
      by (inr found) = inr (found.0, record { listed = found.1.listed; has = holds found.0 found.1.has }, found.2)

  module _ (has_planes : HasPlanesOf book solids) where
    -- a solid that has points strictly inside it in a leaf's cell is no stronger than the leaf
    pub at_most_leaf : (cell : List Plane) (contents : Contents) (solid : Solid) (y : Point) → HasNoCandidate solids book cell → CellHasContents solids cell contents → Contains solids solid → IsFull solid → IsInCube y → IsInCell cell y → IsInside solid y → IsAtMost solid.contents contents
    at_most_leaf cell contents solid y none has listed full in_cube in_cell inside = either (stronger_or_not contents solid.contents)
      where
        either : (strength contents < strength solid.contents) ⊎ IsAtMost solid.contents contents → IsAtMost solid.contents contents
        either (inr at_most) = at_most
        either (inl stronger) =
            let not_outdone : IsOutdone solids cell solid → ⊥ = λ outdone.
            let up = outdone.at_least in
            let bound = has.strongest outdone.stronger (record { listed = outdone.listed; has = outdone.contains }) in
            absurd (omega (arith, up, bound, stronger)) in
            absurd (lies_outside solids book cell has_planes none solid listed full not_outdone y in_cube in_cell (record { full = full; not_in_front = inside_in_front_of_none solid y inside }))

    -- a solid that holds a point is no stronger than the leaves of a part that has the point strictly inside it
    pub at_most_part : (x : Point) (contents : Contents) (solid : Solid) → IsInCube x → IsInPart solids book x contents → Contains solids solid → Holds solid x → IsAtMost solid.contents contents
    at_most_part x contents solid in_cube part listed holds =
        let p = holds.full.within in
        let n : ℕ = suc (reach part.cell p + reach cube_walls p) in
        let y = moved (pos n) x p in
        let y_in_cube = moved_in_cube x p (pos n) (omega (arith, ints)) in_cube in
        let y_in_part = moved_in_cell part.cell x p (pos n) (omega (arith, ints)) part.inside in
        let y_inside = inside_near solid x p (pos n) (omega (arith, ints)) holds.not_in_front holds.full.inside in
        let near = near_leaf y contents part.divides part.only (record { point = y; in_cube = y_in_cube; in_cell = y_in_part }) (cell_is_closed part.cell y y_in_part) in
        let q = near.some.point in
        let m : ℕ = suc (reach (inward solid) q) in
        let z = moved (pos m) y q in
        let z_in_cube = cube_from_cube y q (pos m) (omega (arith, ints)) y_in_cube near.some.in_cube in
        let z_in_cell = cell_from_closed near.cell y q (pos m) (omega (arith, ints)) near.closed near.some.in_cell in
        let z_inside = moved_in_cell (inward solid) y q (pos m) (omega (arith, ints)) y_inside in
        at_most_leaf near.cell contents solid z near.none near.has listed holds.full z_in_cube z_in_cell z_inside

    pub part_contents : (x : Point) (contents : Contents) → IsInCube x → IsInPart solids book x contents → HasContents solids x contents
    part_contents x contents in_cube part =
        let near = near_leaf x contents part.divides part.only (record { point = x; in_cube = in_cube; in_cell = part.inside }) (cell_is_closed part.cell x part.inside) in
        record {
          given = given_by_leaf x contents in_cube near;
          strongest = λ solid one. at_most_part x contents solid in_cube part one.listed one.has;
        }

    -- the leaf of a point that is on no node plane has the contents that the solids define there
    pub leaf_contents : (tree : Tree) (x : Point) → IsTreeOf solids book tree → IsInCube x → IsOffNodePlanes tree.planes tree.shape x → HasContents solids x (leaf_record_at tree.planes tree.shape x).contents
    leaf_contents tree x is in_cube off =
        let there = subst (λ (s : Partition). IsOffNodePlanes book s x) is.is_joined (subst (λ (all : List Plane). IsOffNodePlanes all tree.shape x) is.planes off) in
        let part = in_part x is.divides (All-nil (λ h. IsInFront h x)) there in
        let its = part_contents x (leaf_record_at book (joined is.whole) x).contents in_cube part in
        subst (λ (all : List Plane). HasContents solids x (leaf_record_at all tree.shape x).contents) (sym is.planes)
        (subst (λ (s : Partition). HasContents solids x (leaf_record_at book s x).contents) (sym is.is_joined) its)
