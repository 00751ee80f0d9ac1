-- Worked rows: a cube of stone, and water round stone.
use Rattle.std.proofs.Common.{◌≡◌, ℤ, pos, neg_ℤ, ◌+ℤ◌, ◌*ℤ◌, ◌<ℤ◌, ◌≤ℤ◌, inr, List, [], ◌∷◌, All, Contains, refl, arith}
use Rattle.std.proofs.lemmas.Int.{ints}
use Rattle.std.proofs.lemmas.List.Elements.{All-from_recursion, All-contains}
use Rattle.qm_numbers.proofs.IntegerProducts.{linear}
use Rattle.qm_space.specs.Bounds.{extent}
use Rattle.qm_space.specs.Point.{Point, IsInCube, IsWithinExtent}
use Rattle.qm_space.specs.Plane.{Plane, plane_of, value, IsBehind}
use Rattle.qm_space.proofs.Cubes.{x_high}
use Rattle.qm_contents.specs.declared.contents.Contents.{Contents}
use Rattle.qm_contents.specs.declared.contents.Contents.TheVariants as contents
use Rattle.qm_contents.specs.Precedence.{IsAtMost}
use Rattle.qm_solids.specs.Solid.{Solid}
use Rattle.qm_solids.specs.Holding.{IsInside, IsFull, Holds}
use Rattle.qm_solids.specs.Contents.{HasContents}
use Rattle.qm_solids.proofs.Insides.{behind_all, inside_of_behind, inside_in_front_of_none}
use Rattle.qm_contents.proofs.Strengths.{at_most_solid}
use Rattle.qm_solids.proofs.ContentsLaws.{none_has}
use Rattle.qm_solids.proofs.FlatSolids.{opposed_is_flat}

-- a whole point
abbrev pub at : ℤ → ℤ → ℤ → Point
at x y z = record { x = x; y = y; z = z; w = pos 1 }

-- the outward planes of the box of the points whose coordinates lie between two numbers
abbrev pub box : ℤ → ℤ → List Plane
box low high =
    plane_of (pos 1) (pos 0) (pos 0) high ∷ plane_of (pos 0) (pos 1) (pos 0) high ∷ plane_of (pos 0) (pos 0) (pos 1) high
    ∷ plane_of (neg_ℤ (pos 1)) (pos 0) (pos 0) (neg_ℤ low) ∷ plane_of (pos 0) (neg_ℤ (pos 1)) (pos 0) (neg_ℤ low)
    ∷ plane_of (pos 0) (pos 0) (neg_ℤ (pos 1)) (neg_ℤ low) ∷ []

-- ---- a cube of stone

abbrev pub cube : Solid
cube = record { contents = contents.Solid; outward = box (pos 0) (pos 64) }

pub middle_in_cube : IsInCube (at (pos 32) (pos 32) (pos 32))
middle_in_cube =
    let side : IsWithinExtent (pos 32) (pos 1) = record { above = omega (arith, ints); below = omega (arith, ints) } in
    record { weight = omega (arith, ints); x = side; y = side; z = side }

-- its middle is strictly inside
pub middle_inside : IsInside cube (at (pos 32) (pos 32) (pos 32))
unfolding value
middle_inside =
    let x = at (pos 32) (pos 32) (pos 32) in
    inside_of_behind cube.outward x (All-from_recursion (λ h. IsBehind h x) cube.outward (omega (arith, ints), (omega (arith, ints), (omega (arith, ints), (omega (arith, ints), (omega (arith, ints), (omega (arith, ints), tt)))))))

-- so it is full
pub cube_is_full : IsFull cube
cube_is_full = record { within = at (pos 32) (pos 32) (pos 32); in_cube = middle_in_cube; inside = middle_inside }

-- it holds a point of its face x = 64
pub cube_holds_face : Holds cube (at (pos 64) (pos 32) (pos 32))
unfolding value
cube_holds_face =
    let x = at (pos 64) (pos 32) (pos 32) in
    record {
      full = cube_is_full;
      not_in_front = All-from_recursion (λ h. value h x ≤ℤ pos 0) cube.outward (omega (arith, ints), (omega (arith, ints), (omega (arith, ints), (omega (arith, ints), (omega (arith, ints), (omega (arith, ints), tt))))));
    }

-- and no point beyond it
pub cube_is_left : Holds cube (at (pos 65) (pos 32) (pos 32)) → ⊥
unfolding value
cube_is_left holds = let first = holds.not_in_front 0 (plane_of (pos 1) (pos 0) (pos 0) (pos 64)) (omega arith) in absurd (omega (arith, ints, first))

-- ---- water round stone, in either order

-- what holds of both solids of a list of two holds of each that is in it
of_two : (a b : Solid) (P : Solid → Type 0) → P a → P b → (solid : Solid) → Contains (a ∷ b ∷ []) solid → P solid
of_two a b P is_a is_b solid among = All-contains P (a ∷ b ∷ []) solid (All-from_recursion P (a ∷ b ∷ []) (is_a, (is_b, tt))) among

abbrev pub water : Solid
water = record { contents = contents.Water; outward = box (pos 0) (pos 64) }

abbrev pub stone : Solid
stone = record { contents = contents.Solid; outward = box (pos 16) (pos 48) }

-- a box that lies round the middle holds it
box_holds_middle : (its : Contents) (low high : ℤ) → pos 0 ≤ℤ low → low <ℤ pos 32 → pos 32 <ℤ high → Holds (record { contents = its; outward = box low high }) (at (pos 32) (pos 32) (pos 32))
unfolding value
box_holds_middle its low high least below above =
    let x = at (pos 32) (pos 32) (pos 32) in
    let behind : All (λ h. IsBehind h x) (box low high) = All-from_recursion (λ h. IsBehind h x) (box low high) (omega (arith, ints, below, above), (omega (arith, ints, below, above), (omega (arith, ints, below, above), (omega (arith, ints, below, above), (omega (arith, ints, below, above), (omega (arith, ints, below, above), tt)))))) in
    let inside = inside_of_behind (box low high) x behind in
    let solid : Solid = record { contents = its; outward = box low high } in
    record {
      full = record { within = x; in_cube = middle_in_cube; inside = inside };
      not_in_front = inside_in_front_of_none solid x inside;
    }

pub stone_holds_middle : Holds stone (at (pos 32) (pos 32) (pos 32))
stone_holds_middle = box_holds_middle contents.Solid (pos 16) (pos 48) (omega (arith, ints)) (omega (arith, ints)) (omega (arith, ints))

-- the middle is stone, whichever is named first
pub stone_in_water : HasContents (water ∷ stone ∷ []) (at (pos 32) (pos 32) (pos 32)) contents.Solid
stone_in_water = record {
  given = inr (stone, record { listed = (1, omega arith, refl); has = stone_holds_middle }, refl);
  strongest = λ solid held. at_most_solid solid.contents;
}

pub water_round_stone : HasContents (stone ∷ water ∷ []) (at (pos 32) (pos 32) (pos 32)) contents.Solid
water_round_stone = record {
  given = inr (stone, record { listed = (0, omega arith, refl); has = stone_holds_middle }, refl);
  strongest = λ solid held. at_most_solid solid.contents;
}

-- nearer to the water's border there is no stone
stone_is_left : Holds stone (at (pos 8) (pos 8) (pos 8)) → ⊥
unfolding value
stone_is_left holds = let low = holds.not_in_front 3 (plane_of (neg_ℤ (pos 1)) (pos 0) (pos 0) (neg_ℤ (pos 16))) (omega arith) in absurd (omega (arith, ints, low))

water_holds_border : Holds water (at (pos 8) (pos 8) (pos 8))
unfolding value
water_holds_border =
    let x = at (pos 8) (pos 8) (pos 8) in
    record {
      full = (box_holds_middle contents.Water (pos 0) (pos 64) (omega (arith, ints)) (omega (arith, ints)) (omega (arith, ints))).full;
      not_in_front = All-from_recursion (λ h. value h x ≤ℤ pos 0) water.outward (omega (arith, ints), (omega (arith, ints), (omega (arith, ints), (omega (arith, ints), (omega (arith, ints), (omega (arith, ints), tt))))));
    }

pub water_at_border : HasContents (water ∷ stone ∷ []) (at (pos 8) (pos 8) (pos 8)) contents.Water
water_at_border = record {
  given = inr (water, record { listed = (0, omega arith, refl); has = water_holds_border }, refl);
  strongest = λ solid held. of_two water stone (λ s. Holds s (at (pos 8) (pos 8) (pos 8)) → IsAtMost s.contents contents.Water) (λ holds. omega arith) (λ holds. absurd (stone_is_left holds)) solid held.listed held.has;
}

-- outside all solids a point is empty
pub beyond_the_cube : HasContents (cube ∷ []) (at (pos 65) (pos 32) (pos 32)) contents.Empty
beyond_the_cube =
    let x = at (pos 65) (pos 32) (pos 32) in
    let left = All-from_recursion (λ s. Holds s x → ⊥) (cube ∷ []) (cube_is_left, tt) in
    none_has (λ s. Holds s x) (cube ∷ []) (λ solid held. All-contains (λ s. Holds s x → ⊥) (cube ∷ []) solid left held.listed held.has)

-- ---- two opposed planes

-- what is in front of z = 0 and what is behind it have no point in common, so that a solid of both is flat
abbrev pub flat : Solid
flat = record { contents = contents.Solid; outward = plane_of (pos 0) (pos 0) (pos 1) (pos 0) ∷ plane_of (pos 0) (pos 0) (neg_ℤ (pos 2)) (pos 0) ∷ [] }

flat_is_flat : IsFull flat → ⊥
flat_is_flat = opposed_is_flat flat (record {
  one = plane_of (pos 0) (pos 0) (pos 1) (pos 0);
  other = plane_of (pos 0) (pos 0) (neg_ℤ (pos 2)) (pos 0);
  has_one = (0, omega arith, refl);
  has_other = (1, omega arith, refl);
  opposed = record { times = pos 2; some = omega (arith, ints); multiple = record { factor = pos 1; positive = omega (arith, ints); multiple = refl } };
})

-- what lies beyond the cube is flat too, with no opposed planes: the points of x at least its extent
abbrev pub beyond : Solid
beyond = record { contents = contents.Solid; outward = plane_of (neg_ℤ (pos 1)) (pos 0) (pos 0) (neg_ℤ extent) ∷ [] }

beyond_is_flat : IsFull beyond → ⊥
beyond_is_flat full =
    let x = full.within in
    let outward = plane_of (neg_ℤ (pos 1)) (pos 0) (pos 0) (neg_ℤ extent) in
    let behind : value outward x <ℤ pos 0 = behind_all beyond.outward x full.inside 0 outward (omega arith) in
    let its : value outward x ≡ neg_ℤ x.x +ℤ (extent *ℤ x.w) = x_high x in
    let below = full.in_cube.x.below in
    absurd (omega (arith, linear, behind, its, below))

-- ---- a solid without a border on most sides

-- all that is not in front of z = 0
abbrev pub ground : Solid
ground = record { contents = contents.Solid; outward = plane_of (pos 0) (pos 0) (pos 1) (pos 0) ∷ [] }

pub ground_is_full : IsFull ground
unfolding value
ground_is_full =
    let x = at (pos 0) (pos 0) (neg_ℤ (pos 1)) in
    let side : IsWithinExtent (pos 0) (pos 1) = record { above = omega (arith, ints); below = omega (arith, ints) } in
    let low : IsWithinExtent (neg_ℤ (pos 1)) (pos 1) = record { above = omega (arith, ints); below = omega (arith, ints) } in
    record {
      within = x;
      in_cube = record { weight = omega (arith, ints); x = side; y = side; z = low };
      inside = inside_of_behind ground.outward x (All-from_recursion (λ h. IsBehind h x) ground.outward (omega (arith, ints), tt));
    }

-- it holds a point far out
ground_holds : Holds ground (at (pos 4000) (pos 0) (pos 0))
unfolding value
ground_holds = record {
  full = ground_is_full;
  not_in_front = All-from_recursion (λ h. value h (at (pos 4000) (pos 0) (pos 0)) ≤ℤ pos 0) ground.outward (omega (arith, ints), tt);
}

-- ---- two cubes with one face in common

-- the cube that stands on the other one
abbrev pub upper : Solid
upper = record {
  contents = contents.Water;
  outward =
      plane_of (pos 1) (pos 0) (pos 0) (pos 64) ∷ plane_of (pos 0) (pos 1) (pos 0) (pos 64) ∷ plane_of (pos 0) (pos 0) (pos 1) (pos 128)
      ∷ plane_of (neg_ℤ (pos 1)) (pos 0) (pos 0) (pos 0) ∷ plane_of (pos 0) (neg_ℤ (pos 1)) (pos 0) (pos 0) ∷ plane_of (pos 0) (pos 0) (neg_ℤ (pos 1)) (neg_ℤ (pos 64)) ∷ [];
}

-- on the face that both have the stronger contents count
shared_face : HasContents (upper ∷ cube ∷ []) (at (pos 32) (pos 32) (pos 64)) contents.Solid
unfolding value
shared_face =
    let x = at (pos 32) (pos 32) (pos 64) in
    let holds : Holds cube x = record {
      full = cube_is_full;
      not_in_front = All-from_recursion (λ h. value h x ≤ℤ pos 0) cube.outward (omega (arith, ints), (omega (arith, ints), (omega (arith, ints), (omega (arith, ints), (omega (arith, ints), (omega (arith, ints), tt))))));
    } in
    record {
      given = inr (cube, record { listed = (1, omega arith, refl); has = holds }, refl);
      strongest = λ solid held. at_most_solid solid.contents;
    }
