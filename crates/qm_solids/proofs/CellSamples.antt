-- Worked rows: a solid that contains a cell, and the least candidate of the whole cube.
use Rattle.std.proofs.Common.{ℕ, ◌≤◌, pos, neg_ℤ, inl, inr, List, [], ◌∷◌, All, refl, arith}
use Rattle.std.proofs.lemmas.Int.{ints}
use Rattle.std.proofs.lemmas.List.Elements.{All-from_recursion, All-contains, All-nil}
use Rattle.qm_space.specs.Point.{Point, IsInCube}
use Rattle.qm_space.specs.Plane.{Plane, plane_of, value, IsBehind, IsInFront}
use Rattle.qm_solids.specs.Solid.{inward}
use Rattle.qm_solids.specs.Cells.{ContainsCell, CellHasContents}
use Rattle.qm_solids.specs.Candidates.{IsSamePlane, IsOutdone, IsCandidate}
use Rattle.qm_solids.specs.Least.{IsLeastCandidate}
use Rattle.qm_contents.specs.declared.contents.Contents.TheVariants.{Empty, Solid}
use Rattle.qm_contents.proofs.Strengths.{at_most_solid}
use Rattle.qm_solids.proofs.ContentsLaws.{none_has}
use Rattle.qm_solids.proofs.Insides.{behind_all}
use Rattle.qm_solids.proofs.Samples.{at, cube, cube_is_full, stone, water, stone_holds_middle}

-- the stone contains its own inside as a cell
stone_contains : ContainsCell stone (inward stone)
stone_contains = record { full = stone_holds_middle.full; inside = λ x in_cube in_cell. in_cell }

-- so it outdoes the water there
water_is_outdone : IsOutdone (water ∷ stone ∷ []) (inward stone) water
water_is_outdone = record { stronger = stone; listed = (1, omega arith, refl); at_least = omega arith; contains = stone_contains }

-- and the cell is stone
stone_cell : CellHasContents (water ∷ stone ∷ []) (inward stone) Solid
stone_cell = record {
  given = inr (stone, record { listed = (1, omega arith, refl); has = stone_contains }, refl);
  strongest = λ solid one. at_most_solid solid.contents;
}

-- ---- a book of two planes of the cube: x = 0 and z = 64

abbrev book : List Plane
book = plane_of (pos 1) (pos 0) (pos 0) (pos 0) ∷ plane_of (pos 0) (pos 0) (pos 1) (pos 64) ∷ []

abbrev first_plane : Plane
first_plane = plane_of (pos 1) (pos 0) (pos 0) (pos 0)

-- a point of the cube's face x = 0
abbrev on_first : Point
on_first = at (pos 0) (pos 32) (pos 32)

point_in_cube : (x y z : ℕ) → x ≤ 100 → y ≤ 100 → z ≤ 100 → IsInCube (at (pos x) (pos y) (pos z))
point_in_cube x y z small_x small_y small_z = record {
  weight = omega (arith, ints);
  x = record { above = omega (arith, ints, small_x); below = omega (arith, ints, small_x) };
  y = record { above = omega (arith, ints, small_y); below = omega (arith, ints, small_y) };
  z = record { above = omega (arith, ints, small_z); below = omega (arith, ints, small_z) };
}

-- the cube's plane x = 0, turned outward, lies on the book's
turned_lies_on : IsSamePlane (plane_of (neg_ℤ (pos 1)) (pos 0) (pos 0) (neg_ℤ (pos 0))) first_plane
turned_lies_on = record { times = pos 1; factor = neg_ℤ (pos 1); some_times = λ is. cc; some_factor = λ is. cc; multiple = refl }

-- of each plane of the cube: the point is behind it, or it lies on the plane x = 0
abbrev IsBehindOrLies : Plane → Type 0
IsBehindOrLies other = (IsSamePlane other first_plane → ⊥) → IsBehind other on_first

each_plane : All IsBehindOrLies cube.outward
unfolding value
each_plane = All-from_recursion IsBehindOrLies cube.outward
    ((λ not. omega (arith, ints)), ((λ not. omega (arith, ints)), ((λ not. omega (arith, ints)), ((λ not. absurd (not turned_lies_on)), ((λ not. omega (arith, ints)), ((λ not. omega (arith, ints)), tt))))))

-- the cube does not contain all of the world
not_all : ContainsCell cube [] → ⊥
unfolding value
not_all contains =
    let x = at (pos 100) (pos 32) (pos 32) in
    let inside = contains.inside x (point_in_cube 100 32 32 (omega arith) (omega arith) (omega arith)) (All-nil (λ h. IsInFront h x)) in
    let behind = behind_all cube.outward x inside 0 (plane_of (pos 1) (pos 0) (pos 0) (pos 64)) (omega arith) in
    absurd (omega (arith, ints, behind))

-- so that the whole world, taken as a cell, is empty
world_cell : CellHasContents (cube ∷ []) [] Empty
world_cell = none_has (λ s. ContainsCell s []) (cube ∷ []) (λ solid one. All-contains (λ s. ContainsCell s [] → ⊥) (cube ∷ []) solid (All-from_recursion (λ s. ContainsCell s [] → ⊥) (cube ∷ []) (not_all, tt)) one.listed one.has)

first_is_candidate : IsCandidate (cube ∷ []) [] first_plane
unfolding value
first_is_candidate = record {
  solid = cube;
  listed = (0, omega arith, refl);
  full = cube_is_full;
  face = plane_of (neg_ℤ (pos 1)) (pos 0) (pos 0) (neg_ℤ (pos 0));
  has_face = (3, omega arith, refl);
  lies_on = turned_lies_on;
  point = on_first;
  on_face = record {
    in_cube = point_in_cube 0 32 32 (omega arith) (omega arith) (omega arith);
    in_cell = All-nil (λ h. IsInFront h on_first);
    on = refl;
    behind_others = λ other among. All-contains IsBehindOrLies cube.outward other each_plane among;
  };
  not_outdone = λ outdone.
      let left = All-from_recursion (λ s. ContainsCell s [] → ⊥) (cube ∷ []) (not_all, tt) in
      All-contains (λ s. ContainsCell s [] → ⊥) (cube ∷ []) outdone.stronger left outdone.listed outdone.contains;
}

-- of the book's planes x = 0 is the least candidate of the whole world
first_is_least : IsLeastCandidate (cube ∷ []) book [] 0 first_plane
first_is_least = record {
  is_one = record { numbered = refl; candidate = first_is_candidate };
  first = λ m g is. record { axial_first = λ axial. inl (refl, refl); lesser_number = λ same. omega arith };
}
