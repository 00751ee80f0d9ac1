-- Worked rows: the division of the whole cube and the tree that a half space of stone defines, and those that a box of
-- stone defines.
use Rattle.std.proofs.Common.{◌≡◌, ℕ, ◌<◌, ◌≤◌, zero, suc, ℤ, pos, neg_ℤ, unsigned_abs, Bool, true, false, not, inl, inr, List, [], ◌∷◌, ◌++◌, All, Contains, Some, refl, sym, ◌∙◌, subst, arith}
use Rattle.std.specs.Prelude.{slice_get}
use Rattle.std.proofs.lemmas.Int.{ints}
use Rattle.std.proofs.lemmas.Bool.{cases_eq}
use Rattle.std.proofs.lemmas.Option.{slice_get_within}
use Rattle.std.proofs.lemmas.List.Elements.{All-from_recursion, All-contains, All-nil, Contains-append_left, Contains-push}
use Rattle.qm_space.specs.Point.{Point, IsInCube}
use Rattle.qm_space.specs.Plane.{Plane, plane_of, value, IsBehind, IsInFront, IsOn}
use Rattle.qm_space.specs.Turned.{turned}
use Rattle.qm_space.specs.Cell.{IsInCell}
use Rattle.std.proofs.Math.Nat.{eq-one_of_dvd-one}
use Rattle.std.specs.Prelude.{IsTrue}
use Rattle.qm_space.specs.Reduced.{leads_positive, IsReduced}
use Rattle.qm_space.specs.Book.{plane_at, AreBookPlanes}
use Rattle.qm_partition.specs.Ways.{HasPoints}
use Rattle.qm_solid_tree.specs.GivesContents.{GivesContents}
use Rattle.qm_solid_tree.proofs.LeafPoints.{tree_has_points}
use Rattle.qm_solid_tree.proofs.TreeLaws.{gives_contents}
use Rattle.qm_space.proofs.Books.{plane_at_from}
use Rattle.qm_contents.specs.declared.contents.Contents.TheVariants.{Empty}
use Rattle.qm_contents.specs.declared.contents.Contents.TheVariants as contents
use Rattle.qm_contents.proofs.Strengths.{at_most_solid, less_or_not}
use Rattle.qm_solids.specs.Solid.{Solid, inward}
use Rattle.qm_solids.specs.Holding.{IsInside, IsFull}
use Rattle.qm_solids.specs.Cells.{ContainsCell, CellHasContents}
use Rattle.qm_solids.specs.Candidates.{IsSamePlane, IsOnFace, IsOutdone, IsCandidate}
use Rattle.qm_solids.specs.Least.{IsAxial, IsNumberedCandidate, IsLeastCandidate}
use Rattle.qm_solids.proofs.Insides.{behind_all}
use Rattle.qm_solids.proofs.ContentsLaws.{none_has}
use Rattle.qm_solids.proofs.PlanesInCommon.{lies_on_itself, turned_lies_on}
use Rattle.qm_solids.proofs.PassedPlanes.{passed_is_none, before_is_on_none}
use Rattle.qm_solids.proofs.Samples.{at, cube, cube_is_full, ground, ground_is_full}
use Rattle.qm_partition.specs.Partition.{node}
use Rattle.qm_partition.specs.Tree.{Tree}
use Rattle.qm_partition.proofs.Samples.{cube_tree}
use Rattle.qm_solid_tree.specs.Division.{HasPlanesOf, HasNoCandidate, Divides, divided}
use Rattle.qm_solid_tree.specs.TreeOf.{IsTreeOf}
use Rattle.qm_solid_tree.proofs.Building.{leaf_with, leaf_divides}

-- a point whose whole coordinates are at most 100 is in the cube
point_in_cube : (x y z : ℤ) → unsigned_abs x ≤ 100 → unsigned_abs y ≤ 100 → unsigned_abs z ≤ 100 → IsInCube (at x y z)
point_in_cube x y z small_x small_y small_z = record {
  weight = omega (arith, ints);
  x = record { above = omega (arith, ints, small_x); below = omega (arith, ints, small_x) };
  y = record { above = omega (arith, ints, small_y); below = omega (arith, ints, small_y) };
  z = record { above = omega (arith, ints, small_z); below = omega (arith, ints, small_z) };
}

-- ---- one solid

-- what holds of a solid holds of each of a list that has this one alone
of_one : (solid : Solid) (P : Solid → Type 0) → P solid → (other : Solid) → Contains (solid ∷ []) other → P other
of_one solid P is other among = All-contains P (solid ∷ []) other (All-from_recursion P (solid ∷ []) (is, tt)) among

module _ (solid : Solid) (cell : List Plane) (x : Point) (in_cube : IsInCube x) (in_cell : IsInCell cell x) (outside : IsInside solid x → ⊥) where
  -- a solid with a point of the cell outside it does not contain the cell
  not_contained : ContainsCell solid cell → ⊥
  not_contained contains = outside (contains.inside x in_cube in_cell)

  never_outdone : IsOutdone (solid ∷ []) cell solid → ⊥
  never_outdone outdone = of_one solid (λ s. ContainsCell s cell → ⊥) not_contained outdone.stronger outdone.listed outdone.contains

  is_empty : CellHasContents (solid ∷ []) cell Empty
  is_empty = none_has (λ s. ContainsCell s cell) (solid ∷ []) (λ other one. of_one solid (λ s. ContainsCell s cell → ⊥) not_contained other one.listed one.has)

-- what a solid of stone contains is stone
is_stone : (solid : Solid) (cell : List Plane) → solid.contents ≡ contents.Solid → ContainsCell solid cell → CellHasContents (solid ∷ []) cell contents.Solid
is_stone solid cell stone contains = record {
  given = inr (solid, record { listed = (0, omega arith, refl); has = contains }, stone);
  strongest = λ other one. at_most_solid other.contents;
}

-- no plane is a candidate in front of an outward plane of the only solid
none_before : (solid : Solid) (book cell : List Plane) (outward : Plane) → Contains solid.outward outward → Contains cell outward → HasNoCandidate (solid ∷ []) book cell
none_before solid book cell outward has among = λ n h is.
    let one = is.candidate in
    of_one solid (λ s. (x : Point) → IsOnFace s cell h x → ⊥) (λ x on. before_is_on_none solid cell outward h x has among on) one.solid one.listed one.point one.on_face

-- a plane is a candidate where a point is on the face, and another one is outside the solid
candidate_of_one : (solid : Solid) (cell : List Plane) (face h : Plane) (x y : Point) → IsFull solid → Contains solid.outward face → IsSamePlane face h → IsInCube x → IsInCell cell x → IsOn h x →
    All (λ other. (IsSamePlane other h → ⊥) → IsBehind other x) solid.outward → IsInCube y → IsInCell cell y → (IsInside solid y → ⊥) → IsCandidate (solid ∷ []) cell h
candidate_of_one solid cell face h x y full has lies x_in_cube x_in_cell on behind y_in_cube y_in_cell outside = record {
  solid = solid;
  listed = (0, omega arith, refl);
  full = full;
  face = face;
  has_face = has;
  lies_on = lies;
  point = x;
  on_face = record { in_cube = x_in_cube; in_cell = x_in_cell; on = on; behind_others = λ other among. All-contains (λ other. (IsSamePlane other h → ⊥) → IsBehind other x) solid.outward other behind among };
  not_outdone = never_outdone solid cell y y_in_cube y_in_cell outside;
}

-- ---- a half space of stone: all that is not in front of z = 0

abbrev floor : Plane
floor = plane_of (pos 0) (pos 0) (pos 1) (pos 0)

abbrev above : Point
above = at (pos 0) (pos 0) (pos 1)

above_in_cube : IsInCube above
above_in_cube = point_in_cube (pos 0) (pos 0) (pos 1) (omega arith) (omega arith) (omega arith)

above_outside : IsInside ground above → ⊥
unfolding value
above_outside inside = let behind = behind_all ground.outward above inside 0 floor (omega arith) in absurd (omega (arith, ints, behind))

floor_is_candidate : IsCandidate (ground ∷ []) [] floor
unfolding value
floor_is_candidate =
    let x = at (pos 0) (pos 0) (pos 0) in
    let behind = All-from_recursion (λ other. (IsSamePlane other floor → ⊥) → IsBehind other x) ground.outward ((λ apart. absurd (apart (lies_on_itself floor))), tt) in
    candidate_of_one ground [] floor floor x above ground_is_full (0, omega arith, refl) (lies_on_itself floor) (point_in_cube (pos 0) (pos 0) (pos 0) (omega arith) (omega arith) (omega arith)) (All-nil (λ h. IsInFront h x)) refl behind above_in_cube (All-nil (λ h. IsInFront h above)) above_outside

floor_is_least : IsLeastCandidate (ground ∷ []) (floor ∷ []) [] 0 floor
floor_is_least = record {
  is_one = record { numbered = refl; candidate = floor_is_candidate };
  first = λ m g is. record { axial_first = λ axial. inr (inr (refl, refl)); lesser_number = λ same. omega arith };
}

-- neither side has a candidate
no_other : (side : Bool) → HasNoCandidate (ground ∷ []) (floor ∷ []) (turned side floor ∷ [])
no_other side zero h is =
    let same : floor ≡ h = plane_at_from (floor ∷ []) 0 h is.numbered in
    passed_is_none (ground ∷ []) (turned side floor ∷ []) h side (subst (λ (g : Plane). Contains (turned side floor ∷ []) (turned side g)) same (0, omega arith, refl)) is.candidate
no_other side (suc n) h is = let none = is.numbered in absurd cc

empty_above : CellHasContents (ground ∷ []) (floor ∷ []) Empty
unfolding value
empty_above = is_empty ground (floor ∷ []) above above_in_cube (All-from_recursion (λ h. IsInFront h above) (floor ∷ []) (omega (arith, ints), tt)) above_outside

stone_below : CellHasContents (ground ∷ []) (turned false floor ∷ []) contents.Solid
stone_below = is_stone ground (turned false floor ∷ []) refl (record { full = ground_is_full; inside = λ x in_cube in_cell. in_cell })

-- a node on z = 0: empty in front, stone behind
abbrev ground_tree : Tree
ground_tree = record { planes = floor ∷ []; shape = node 0 (leaf_with Empty) (leaf_with contents.Solid) }

ground_row : IsTreeOf (ground ∷ []) (floor ∷ []) ground_tree
ground_row =
    let in_front = leaf_divides (ground ∷ []) (floor ∷ []) (floor ∷ []) Empty (no_other true) empty_above in
    let behind = leaf_divides (ground ∷ []) (floor ∷ []) (turned false floor ∷ []) contents.Solid (no_other false) stone_below in
    record { planes = refl; whole = ground_tree.shape; divides = divided floor_is_least in_front behind; is_joined = refl }

-- the laws say something of it: its leaves have points, and it gives the contents of the half space

floor_reduced : IsReduced floor
floor_reduced = record { normal = λ x y z. absurd (omega (arith, ints, z)); lowest = λ k x y z d. eq-one_of_dvd-one z; nx_small = omega arith; ny_small = omega arith; nz_small = omega arith; d_small = omega arith }

only_floor : (n : ℕ) (h : Plane) → slice_get (floor ∷ []) n ≡ Some h → (n ≡ 0) × (floor ≡ h)
only_floor zero h stands = (refl, plane_at_from (floor ∷ []) 0 h stands)
only_floor (suc n) h stands = absurd cc

floor_book : AreBookPlanes (floor ∷ [])
floor_book = record {
  reduced = λ n h stands. subst (λ (g : Plane). IsReduced g) (only_floor n h stands).1 floor_reduced;
  leads = λ n h stands. subst (λ (g : Plane). IsTrue (leads_positive g)) (only_floor n h stands).1 refl;
  distinct = λ m n h at_m at_n. (only_floor m h at_m).0 ∙ sym (only_floor n h at_n).0;
  short = omega arith;
}

floor_has : HasPlanesOf (floor ∷ []) (ground ∷ [])
floor_has solid face listed has =
    let same = All-contains (λ g. floor ≡ g) ground.outward face (All-from_recursion (λ g. floor ≡ g) ground.outward (refl, tt)) (of_one ground (λ s. Contains s.outward face → Contains ground.outward face) (λ has. has) solid listed has) in
    (0, floor, refl, subst (λ (g : Plane). IsSamePlane g floor) same (lies_on_itself floor))

ground_points_row : HasPoints ground_tree
ground_points_row = tree_has_points (ground ∷ []) (floor ∷ []) floor_book ground_tree ground_row

ground_contents_row : GivesContents ground_tree (ground ∷ [])
ground_contents_row = gives_contents (ground ∷ []) (floor ∷ []) ground_tree floor_book floor_has ground_row

-- ---- a box of stone, from 0 to 64 on each axis

abbrev planes : List Plane
planes = cube_tree.planes

-- whether the box is in front of the plane of a number
abbrev is_front : ℕ → Bool
is_front zero = true
is_front (suc n) = not (is_front n)

-- the cell on the box's side of the first planes
abbrev inner : ℕ → List Plane
inner zero = []
inner (suc n) = inner n ++ turned (is_front n) (plane_at planes n) ∷ []

has_passed : (k n : ℕ) → n < k → Contains (inner k) (turned (is_front n) (plane_at planes n))
has_passed zero n less = absurd (omega (arith, less))
has_passed (suc k) n less = elim (cases_eq n k) [
  | inl same ↦
      subst (λ (m : ℕ). Contains (inner (suc k)) (turned (is_front m) (plane_at planes m))) (sym same) (Contains-push (inner k) (turned (is_front k) (plane_at planes k)))
  | inr other ↦
      Contains-append_left (inner k) (turned (is_front k) (plane_at planes k) ∷ []) (turned (is_front n) (plane_at planes n)) (has_passed k n (omega (arith, less, other)))
]

-- none of the planes passed is a candidate
none_passed : (k n : ℕ) (h : Plane) → n < k → slice_get planes n ≡ Some h → IsCandidate (cube ∷ []) (inner k) h → ⊥
none_passed k n h less stands is =
    let among = subst (λ (g : Plane). Contains (inner k) (turned (is_front n) g)) (plane_at_from planes n h stands) (has_passed k n less) in
    passed_is_none (cube ∷ []) (inner k) h (is_front n) among is

-- so that the next plane is the least
next_is_least : (k : ℕ) (h : Plane) → slice_get planes k ≡ Some h → IsAxial h → IsCandidate (cube ∷ []) (inner k) h → IsLeastCandidate (cube ∷ []) planes (inner k) k h
next_is_least k h stands axial is = record {
  is_one = record { numbered = stands; candidate = is };
  first = λ m g other. record { axial_first = λ its. axial; lesser_number = λ same. not_less m g other };
}
  where
    not_less : (m : ℕ) (g : Plane) → IsNumberedCandidate (cube ∷ []) planes (inner k) m g → k ≤ m
    not_less m g other = elim (less_or_not m k) [
      | inl less ↦ absurd (none_passed k m g less other.numbered other.candidate)
      | inr not ↦ not
    ]

-- three points beyond the box
beyond_x : IsInside cube (at (pos 100) (pos 32) (pos 32)) → ⊥
unfolding value
beyond_x inside = let behind = behind_all cube.outward (at (pos 100) (pos 32) (pos 32)) inside 0 (plane_of (pos 1) (pos 0) (pos 0) (pos 64)) (omega arith) in absurd (omega (arith, ints, behind))

beyond_y : IsInside cube (at (pos 32) (pos 100) (pos 32)) → ⊥
unfolding value
beyond_y inside = let behind = behind_all cube.outward (at (pos 32) (pos 100) (pos 32)) inside 1 (plane_of (pos 0) (pos 1) (pos 0) (pos 64)) (omega arith) in absurd (omega (arith, ints, behind))

beyond_z : IsInside cube (at (pos 32) (pos 32) (pos 100)) → ⊥
unfolding value
beyond_z inside = let behind = behind_all cube.outward (at (pos 32) (pos 32) (pos 100)) inside 2 (plane_of (pos 0) (pos 0) (pos 1) (pos 64)) (omega arith) in absurd (omega (arith, ints, behind))

-- and three before it
before_x : IsInside cube (at (neg_ℤ (pos 32)) (pos 32) (pos 32)) → ⊥
unfolding value
before_x inside = let behind = behind_all cube.outward (at (neg_ℤ (pos 32)) (pos 32) (pos 32)) inside 3 (plane_of (neg_ℤ (pos 1)) (pos 0) (pos 0) (neg_ℤ (pos 0))) (omega arith) in absurd (omega (arith, ints, behind))

before_y : IsInside cube (at (pos 32) (neg_ℤ (pos 32)) (pos 32)) → ⊥
unfolding value
before_y inside = let behind = behind_all cube.outward (at (pos 32) (neg_ℤ (pos 32)) (pos 32)) inside 4 (plane_of (pos 0) (neg_ℤ (pos 1)) (pos 0) (neg_ℤ (pos 0))) (omega arith) in absurd (omega (arith, ints, behind))

before_z : IsInside cube (at (pos 32) (pos 32) (neg_ℤ (pos 32))) → ⊥
unfolding value
before_z inside = let behind = behind_all cube.outward (at (pos 32) (pos 32) (neg_ℤ (pos 32))) inside 5 (plane_of (pos 0) (pos 0) (neg_ℤ (pos 1)) (neg_ℤ (pos 0))) (omega arith) in absurd (omega (arith, ints, behind))

-- ---- each node of the box

least_0 : IsLeastCandidate (cube ∷ []) planes (inner 0) 0 (plane_of (pos 1) (pos 0) (pos 0) (pos 0))
unfolding value
least_0 =
    let h = plane_of (pos 1) (pos 0) (pos 0) (pos 0) in
    let x = at (pos 0) (pos 32) (pos 32) in
    let y = at (pos 100) (pos 32) (pos 32) in
    let behind = All-from_recursion (λ other. (IsSamePlane other h → ⊥) → IsBehind other x) cube.outward ((λ apart. omega (arith, ints)), ((λ apart. omega (arith, ints)), ((λ apart. omega (arith, ints)), ((λ apart. absurd (apart (turned_lies_on false h))), ((λ apart. omega (arith, ints)), ((λ apart. omega (arith, ints)), tt)))))) in
    let x_in = All-from_recursion (λ g. IsInFront g x) (inner 0) tt in
    let y_in = All-from_recursion (λ g. IsInFront g y) (inner 0) tt in
    next_is_least 0 h refl (inl (refl, refl))
    (candidate_of_one cube (inner 0) (plane_of (neg_ℤ (pos 1)) (pos 0) (pos 0) (neg_ℤ (pos 0))) h x y cube_is_full (3, omega arith, refl) (turned_lies_on false h) (point_in_cube (pos 0) (pos 32) (pos 32) (omega arith) (omega arith) (omega arith)) x_in refl behind (point_in_cube (pos 100) (pos 32) (pos 32) (omega arith) (omega arith) (omega arith)) y_in beyond_x)

least_1 : IsLeastCandidate (cube ∷ []) planes (inner 1) 1 (plane_of (pos 1) (pos 0) (pos 0) (pos 64))
unfolding value
least_1 =
    let h = plane_of (pos 1) (pos 0) (pos 0) (pos 64) in
    let x = at (pos 64) (pos 32) (pos 32) in
    let y = at (pos 100) (pos 32) (pos 32) in
    let behind = All-from_recursion (λ other. (IsSamePlane other h → ⊥) → IsBehind other x) cube.outward ((λ apart. absurd (apart (lies_on_itself h))), ((λ apart. omega (arith, ints)), ((λ apart. omega (arith, ints)), ((λ apart. omega (arith, ints)), ((λ apart. omega (arith, ints)), ((λ apart. omega (arith, ints)), tt)))))) in
    let x_in = All-from_recursion (λ g. IsInFront g x) (inner 1) (omega (arith, ints), tt) in
    let y_in = All-from_recursion (λ g. IsInFront g y) (inner 1) (omega (arith, ints), tt) in
    next_is_least 1 h refl (inl (refl, refl))
    (candidate_of_one cube (inner 1) (plane_of (pos 1) (pos 0) (pos 0) (pos 64)) h x y cube_is_full (0, omega arith, refl) (lies_on_itself h) (point_in_cube (pos 64) (pos 32) (pos 32) (omega arith) (omega arith) (omega arith)) x_in refl behind (point_in_cube (pos 100) (pos 32) (pos 32) (omega arith) (omega arith) (omega arith)) y_in beyond_x)

least_2 : IsLeastCandidate (cube ∷ []) planes (inner 2) 2 (plane_of (pos 0) (pos 1) (pos 0) (pos 0))
unfolding value
least_2 =
    let h = plane_of (pos 0) (pos 1) (pos 0) (pos 0) in
    let x = at (pos 32) (pos 0) (pos 32) in
    let y = at (pos 32) (pos 100) (pos 32) in
    let behind = All-from_recursion (λ other. (IsSamePlane other h → ⊥) → IsBehind other x) cube.outward ((λ apart. omega (arith, ints)), ((λ apart. omega (arith, ints)), ((λ apart. omega (arith, ints)), ((λ apart. omega (arith, ints)), ((λ apart. absurd (apart (turned_lies_on false h))), ((λ apart. omega (arith, ints)), tt)))))) in
    let x_in = All-from_recursion (λ g. IsInFront g x) (inner 2) (omega (arith, ints), (omega (arith, ints), tt)) in
    let y_in = All-from_recursion (λ g. IsInFront g y) (inner 2) (omega (arith, ints), (omega (arith, ints), tt)) in
    next_is_least 2 h refl (inr (inl (refl, refl)))
    (candidate_of_one cube (inner 2) (plane_of (pos 0) (neg_ℤ (pos 1)) (pos 0) (neg_ℤ (pos 0))) h x y cube_is_full (4, omega arith, refl) (turned_lies_on false h) (point_in_cube (pos 32) (pos 0) (pos 32) (omega arith) (omega arith) (omega arith)) x_in refl behind (point_in_cube (pos 32) (pos 100) (pos 32) (omega arith) (omega arith) (omega arith)) y_in beyond_y)

least_3 : IsLeastCandidate (cube ∷ []) planes (inner 3) 3 (plane_of (pos 0) (pos 1) (pos 0) (pos 64))
unfolding value
least_3 =
    let h = plane_of (pos 0) (pos 1) (pos 0) (pos 64) in
    let x = at (pos 32) (pos 64) (pos 32) in
    let y = at (pos 32) (pos 100) (pos 32) in
    let behind = All-from_recursion (λ other. (IsSamePlane other h → ⊥) → IsBehind other x) cube.outward ((λ apart. omega (arith, ints)), ((λ apart. absurd (apart (lies_on_itself h))), ((λ apart. omega (arith, ints)), ((λ apart. omega (arith, ints)), ((λ apart. omega (arith, ints)), ((λ apart. omega (arith, ints)), tt)))))) in
    let x_in = All-from_recursion (λ g. IsInFront g x) (inner 3) (omega (arith, ints), (omega (arith, ints), (omega (arith, ints), tt))) in
    let y_in = All-from_recursion (λ g. IsInFront g y) (inner 3) (omega (arith, ints), (omega (arith, ints), (omega (arith, ints), tt))) in
    next_is_least 3 h refl (inr (inl (refl, refl)))
    (candidate_of_one cube (inner 3) (plane_of (pos 0) (pos 1) (pos 0) (pos 64)) h x y cube_is_full (1, omega arith, refl) (lies_on_itself h) (point_in_cube (pos 32) (pos 64) (pos 32) (omega arith) (omega arith) (omega arith)) x_in refl behind (point_in_cube (pos 32) (pos 100) (pos 32) (omega arith) (omega arith) (omega arith)) y_in beyond_y)

least_4 : IsLeastCandidate (cube ∷ []) planes (inner 4) 4 (plane_of (pos 0) (pos 0) (pos 1) (pos 0))
unfolding value
least_4 =
    let h = plane_of (pos 0) (pos 0) (pos 1) (pos 0) in
    let x = at (pos 32) (pos 32) (pos 0) in
    let y = at (pos 32) (pos 32) (pos 100) in
    let behind = All-from_recursion (λ other. (IsSamePlane other h → ⊥) → IsBehind other x) cube.outward ((λ apart. omega (arith, ints)), ((λ apart. omega (arith, ints)), ((λ apart. omega (arith, ints)), ((λ apart. omega (arith, ints)), ((λ apart. omega (arith, ints)), ((λ apart. absurd (apart (turned_lies_on false h))), tt)))))) in
    let x_in = All-from_recursion (λ g. IsInFront g x) (inner 4) (omega (arith, ints), (omega (arith, ints), (omega (arith, ints), (omega (arith, ints), tt)))) in
    let y_in = All-from_recursion (λ g. IsInFront g y) (inner 4) (omega (arith, ints), (omega (arith, ints), (omega (arith, ints), (omega (arith, ints), tt)))) in
    next_is_least 4 h refl (inr (inr (refl, refl)))
    (candidate_of_one cube (inner 4) (plane_of (pos 0) (pos 0) (neg_ℤ (pos 1)) (neg_ℤ (pos 0))) h x y cube_is_full (5, omega arith, refl) (turned_lies_on false h) (point_in_cube (pos 32) (pos 32) (pos 0) (omega arith) (omega arith) (omega arith)) x_in refl behind (point_in_cube (pos 32) (pos 32) (pos 100) (omega arith) (omega arith) (omega arith)) y_in beyond_z)

least_5 : IsLeastCandidate (cube ∷ []) planes (inner 5) 5 (plane_of (pos 0) (pos 0) (pos 1) (pos 64))
unfolding value
least_5 =
    let h = plane_of (pos 0) (pos 0) (pos 1) (pos 64) in
    let x = at (pos 32) (pos 32) (pos 64) in
    let y = at (pos 32) (pos 32) (pos 100) in
    let behind = All-from_recursion (λ other. (IsSamePlane other h → ⊥) → IsBehind other x) cube.outward ((λ apart. omega (arith, ints)), ((λ apart. omega (arith, ints)), ((λ apart. absurd (apart (lies_on_itself h))), ((λ apart. omega (arith, ints)), ((λ apart. omega (arith, ints)), ((λ apart. omega (arith, ints)), tt)))))) in
    let x_in = All-from_recursion (λ g. IsInFront g x) (inner 5) (omega (arith, ints), (omega (arith, ints), (omega (arith, ints), (omega (arith, ints), (omega (arith, ints), tt))))) in
    let y_in = All-from_recursion (λ g. IsInFront g y) (inner 5) (omega (arith, ints), (omega (arith, ints), (omega (arith, ints), (omega (arith, ints), (omega (arith, ints), tt))))) in
    next_is_least 5 h refl (inr (inr (refl, refl)))
    (candidate_of_one cube (inner 5) (plane_of (pos 0) (pos 0) (pos 1) (pos 64)) h x y cube_is_full (2, omega arith, refl) (lies_on_itself h) (point_in_cube (pos 32) (pos 32) (pos 64) (omega arith) (omega arith) (omega arith)) x_in refl behind (point_in_cube (pos 32) (pos 32) (pos 100) (omega arith) (omega arith) (omega arith)) y_in beyond_z)

-- ---- each leaf of the box

outer_0 : Divides (cube ∷ []) planes (inner 0 ++ turned false (plane_of (pos 1) (pos 0) (pos 0) (pos 0)) ∷ []) (leaf_with Empty)
unfolding value
outer_0 =
    let cell : List Plane = inner 0 ++ turned false (plane_of (pos 1) (pos 0) (pos 0) (pos 0)) ∷ [] in
    let x = at (neg_ℤ (pos 32)) (pos 32) (pos 32) in
    let x_in = All-from_recursion (λ g. IsInFront g x) cell (omega (arith, ints), tt) in
    leaf_divides (cube ∷ []) planes cell Empty (none_before cube planes cell (plane_of (neg_ℤ (pos 1)) (pos 0) (pos 0) (neg_ℤ (pos 0))) (3, omega arith, refl) (0, omega arith, refl)) (is_empty cube cell x (point_in_cube (neg_ℤ (pos 32)) (pos 32) (pos 32) (omega arith) (omega arith) (omega arith)) x_in before_x)

outer_1 : Divides (cube ∷ []) planes (inner 1 ++ turned true (plane_of (pos 1) (pos 0) (pos 0) (pos 64)) ∷ []) (leaf_with Empty)
unfolding value
outer_1 =
    let cell : List Plane = inner 1 ++ turned true (plane_of (pos 1) (pos 0) (pos 0) (pos 64)) ∷ [] in
    let x = at (pos 100) (pos 32) (pos 32) in
    let x_in = All-from_recursion (λ g. IsInFront g x) cell (omega (arith, ints), (omega (arith, ints), tt)) in
    leaf_divides (cube ∷ []) planes cell Empty (none_before cube planes cell (plane_of (pos 1) (pos 0) (pos 0) (pos 64)) (0, omega arith, refl) (1, omega arith, refl)) (is_empty cube cell x (point_in_cube (pos 100) (pos 32) (pos 32) (omega arith) (omega arith) (omega arith)) x_in beyond_x)

outer_2 : Divides (cube ∷ []) planes (inner 2 ++ turned false (plane_of (pos 0) (pos 1) (pos 0) (pos 0)) ∷ []) (leaf_with Empty)
unfolding value
outer_2 =
    let cell : List Plane = inner 2 ++ turned false (plane_of (pos 0) (pos 1) (pos 0) (pos 0)) ∷ [] in
    let x = at (pos 32) (neg_ℤ (pos 32)) (pos 32) in
    let x_in = All-from_recursion (λ g. IsInFront g x) cell (omega (arith, ints), (omega (arith, ints), (omega (arith, ints), tt))) in
    leaf_divides (cube ∷ []) planes cell Empty (none_before cube planes cell (plane_of (pos 0) (neg_ℤ (pos 1)) (pos 0) (neg_ℤ (pos 0))) (4, omega arith, refl) (2, omega arith, refl)) (is_empty cube cell x (point_in_cube (pos 32) (neg_ℤ (pos 32)) (pos 32) (omega arith) (omega arith) (omega arith)) x_in before_y)

outer_3 : Divides (cube ∷ []) planes (inner 3 ++ turned true (plane_of (pos 0) (pos 1) (pos 0) (pos 64)) ∷ []) (leaf_with Empty)
unfolding value
outer_3 =
    let cell : List Plane = inner 3 ++ turned true (plane_of (pos 0) (pos 1) (pos 0) (pos 64)) ∷ [] in
    let x = at (pos 32) (pos 100) (pos 32) in
    let x_in = All-from_recursion (λ g. IsInFront g x) cell (omega (arith, ints), (omega (arith, ints), (omega (arith, ints), (omega (arith, ints), tt)))) in
    leaf_divides (cube ∷ []) planes cell Empty (none_before cube planes cell (plane_of (pos 0) (pos 1) (pos 0) (pos 64)) (1, omega arith, refl) (3, omega arith, refl)) (is_empty cube cell x (point_in_cube (pos 32) (pos 100) (pos 32) (omega arith) (omega arith) (omega arith)) x_in beyond_y)

outer_4 : Divides (cube ∷ []) planes (inner 4 ++ turned false (plane_of (pos 0) (pos 0) (pos 1) (pos 0)) ∷ []) (leaf_with Empty)
unfolding value
outer_4 =
    let cell : List Plane = inner 4 ++ turned false (plane_of (pos 0) (pos 0) (pos 1) (pos 0)) ∷ [] in
    let x = at (pos 32) (pos 32) (neg_ℤ (pos 32)) in
    let x_in = All-from_recursion (λ g. IsInFront g x) cell (omega (arith, ints), (omega (arith, ints), (omega (arith, ints), (omega (arith, ints), (omega (arith, ints), tt))))) in
    leaf_divides (cube ∷ []) planes cell Empty (none_before cube planes cell (plane_of (pos 0) (pos 0) (neg_ℤ (pos 1)) (neg_ℤ (pos 0))) (5, omega arith, refl) (4, omega arith, refl)) (is_empty cube cell x (point_in_cube (pos 32) (pos 32) (neg_ℤ (pos 32)) (omega arith) (omega arith) (omega arith)) x_in before_z)

outer_5 : Divides (cube ∷ []) planes (inner 5 ++ turned true (plane_of (pos 0) (pos 0) (pos 1) (pos 64)) ∷ []) (leaf_with Empty)
unfolding value
outer_5 =
    let cell : List Plane = inner 5 ++ turned true (plane_of (pos 0) (pos 0) (pos 1) (pos 64)) ∷ [] in
    let x = at (pos 32) (pos 32) (pos 100) in
    let x_in = All-from_recursion (λ g. IsInFront g x) cell (omega (arith, ints), (omega (arith, ints), (omega (arith, ints), (omega (arith, ints), (omega (arith, ints), (omega (arith, ints), tt)))))) in
    leaf_divides (cube ∷ []) planes cell Empty (none_before cube planes cell (plane_of (pos 0) (pos 0) (pos 1) (pos 64)) (2, omega arith, refl) (5, omega arith, refl)) (is_empty cube cell x (point_in_cube (pos 32) (pos 32) (pos 100) (omega arith) (omega arith) (omega arith)) x_in beyond_z)

inside_box : ContainsCell cube (inner 6)
inside_box = record {
  full = cube_is_full;
  inside = λ x in_cube in_cell.
      let d = plane_at planes 0 in
      All-from_recursion (λ h. IsInFront h x) (inward cube)
      (in_cell 1 d (omega arith), (in_cell 3 d (omega arith), (in_cell 5 d (omega arith), (in_cell 0 d (omega arith), (in_cell 2 d (omega arith), (in_cell 4 d (omega arith), tt))))));
}

box : Divides (cube ∷ []) planes (inner 6) (leaf_with contents.Solid)
box =
    leaf_divides (cube ∷ []) planes (inner 6) contents.Solid (λ n h is. none_passed 6 n h (slice_get_within planes n h is.numbered) is.numbered is.candidate) (is_stone cube (inner 6) refl inside_box)

-- six nodes, each with an empty leaf outside, and the box
cube_division : Divides (cube ∷ []) planes [] cube_tree.shape
cube_division =
    divided least_0 (divided least_1 outer_1 (divided least_2 (divided least_3 outer_3 (divided least_4 (divided least_5 outer_5 box) outer_4)) outer_2)) outer_0

cube_row : IsTreeOf (cube ∷ []) planes cube_tree
cube_row = record { planes = refl; whole = cube_tree.shape; divides = cube_division; is_joined = refl }
