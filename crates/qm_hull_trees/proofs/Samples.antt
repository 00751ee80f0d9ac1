-- Worked rows: planes that are moved by the boxes of the hulls, and what points are above a floor of stone below z = -24.
use Rattle.std.proofs.Common.{◌≡◌, ℕ, pos, neg_ℤ, true, false, inl, inr, List, [], ◌∷◌, Some, None, codes, refl, sym, subst, arith}
use Rattle.std.proofs.lemmas.Int.{ints}
use Rattle.std.proofs.lemmas.List.Elements.{All-from_recursion}
use Rattle.qm_lists.proofs.Elements.{Contains-nil, Contains-first, Contains-cons_cases}
use Rattle.qm_numbers.specs.Gcd.{gcd, gcd_within}
use Rattle.qm_numbers.proofs.Divisors.{divisor_of_four}
use Rattle.qm_space.specs.Point.{IsInCube}
use Rattle.qm_space.specs.Plane.{plane_of, value, IsBehind, IsNotInFront}
use Rattle.qm_space.specs.Cuboid.{least_product}
use Rattle.qm_space.specs.ThreePoints.{outward_plane, in_space, plane_through, reduced, factor_of, common_factor}
use Rattle.qm_mapfile.specs.declared.face.Mapping.TheVariants.{Standard}
use Rattle.qm_mapfile.specs.declared.entity.Brush.{Brush}
use Rattle.qm_mapfile.specs.declared.entity.MapFile.{MapFile}
use Rattle.qm_contents.specs.declared.contents.Contents.{Contents}
use Rattle.qm_contents.specs.declared.contents.Contents.TheVariants as contents
use Rattle.qm_contents.specs.Texture.{contents_of_texture}
use Rattle.qm_solids.specs.Holding.{IsInside, IsInFrontOfNone}
use Rattle.qm_solids.proofs.Insides.{inside_of_behind}
use Rattle.qm_solids.proofs.Samples.{at}
use Rattle.qm_blocking.specs.Moved.{moved_by}
use Rattle.qm_blocking.specs.Boxes.{box_between}
use Rattle.qm_blocking.specs.Blocking.{is_in_the_way, solid_part, IsObstacle, AreObstacles, none, counted, left_out}
use Rattle.qm_blocking.specs.MovedSolids.{moved_part, moved_parts, moved_planes}
use Rattle.qm_blocking.specs.HullContents.{IsBlocked, HasHullContents, MeetsBrush}
use Rattle.qm_hull_trees.specs.HullBoxes.{hull_box}
use Rattle.qm_hull_trees.proofs.HullContents.{solid_if_met}

-- ---- boxes

player_row : hull_box 1 ≡ box_between (neg_ℤ (pos 16) ∷ neg_ℤ (pos 16) ∷ neg_ℤ (pos 24) ∷ []) (pos 16 ∷ pos 16 ∷ pos 32 ∷ [])
player_row = refl

larger_row : hull_box 2 ≡ box_between (neg_ℤ (pos 32) ∷ neg_ℤ (pos 32) ∷ neg_ℤ (pos 24) ∷ []) (pos 32 ∷ pos 32 ∷ pos 64 ∷ [])
larger_row = refl

-- ---- moved planes

-- a box stands on a floor by its lowest end, and stops below a ceiling by its highest one
floor_row : moved_by (hull_box 1) (plane_of (pos 0) (pos 0) (pos 1) (pos 100)) ≡ plane_of (pos 0) (pos 0) (pos 1) (pos 124)
unfolding least_product
floor_row = refl

ceiling_row : moved_by (hull_box 1) (plane_of (pos 0) (pos 0) (neg_ℤ (pos 1)) (pos 100)) ≡ plane_of (pos 0) (pos 0) (neg_ℤ (pos 1)) (pos 132)
unfolding least_product
ceiling_row = refl

-- a slanted plane is moved by the corner that meets it first
slanted_row : moved_by (hull_box 2) (plane_of (pos 1) (neg_ℤ (pos 2)) (pos 1) (pos 0)) ≡ plane_of (pos 1) (neg_ℤ (pos 2)) (pos 1) (pos 120)
unfolding least_product
slanted_row = refl

-- ---- what stands in the way

in_the_way_rows : (is_in_the_way None ≡ true) × (is_in_the_way (Some contents.Solid) ≡ true) × (is_in_the_way (Some contents.Sky) ≡ true)
in_the_way_rows = (refl, refl, refl)

passed_rows : (is_in_the_way (Some contents.Water) ≡ false) × (is_in_the_way (Some contents.Slime) ≡ false) × (is_in_the_way (Some contents.Lava) ≡ false)
passed_rows = (refl, refl, refl)

-- ---- a world: clip and water where z is -24 or less

-- the face looks up
abbrev brush_of : List ℕ → Brush
brush_of texture = record {
  faces = record {
    points = (pos 1000 ∷ pos 0 ∷ neg_ℤ (pos 24000) ∷ []) ∷ (pos 0 ∷ pos 0 ∷ neg_ℤ (pos 24000) ∷ []) ∷ (pos 0 ∷ pos 1000 ∷ neg_ℤ (pos 24000) ∷ []) ∷ [];
    texture = texture;
    mapping = Standard (codes "0" ∷ codes "0" ∷ codes "0" ∷ codes "1" ∷ codes "1" ∷ []);
  } ∷ [];
}

abbrev clip_brush : Brush
clip_brush = brush_of (codes "CLIP")

abbrev water_brush : Brush
water_brush = brush_of (codes "*water")

abbrev pub sample_map : MapFile
sample_map = record { entities = record { pairs = []; brushes = clip_brush ∷ water_brush ∷ [] } ∷ [] }

below_in_cube : IsInCube (at (pos 0) (pos 0) (neg_ℤ (pos 25)))
below_in_cube = record {
  weight = omega (arith, ints);
  x = record { above = omega (arith, ints); below = omega (arith, ints) };
  y = record { above = omega (arith, ints); below = omega (arith, ints) };
  z = record { above = omega (arith, ints); below = omega (arith, ints) };
}

below_inside : IsInside (solid_part clip_brush) (at (pos 0) (pos 0) (neg_ℤ (pos 25)))
unfolding outward_plane in_space value
below_inside =
    let x = at (pos 0) (pos 0) (neg_ℤ (pos 25)) in
    inside_of_behind (solid_part clip_brush).outward x (All-from_recursion (λ h. IsBehind h x) (solid_part clip_brush).outward (omega (arith, ints), tt))

clip_is_obstacle : IsObstacle clip_brush
unfolding contents_of_texture
clip_is_obstacle = record { blocking = refl; full = record { within = at (pos 0) (pos 0) (neg_ℤ (pos 25)); in_cube = below_in_cube; inside = below_inside } }

water_is_none : IsObstacle water_brush → ⊥
unfolding contents_of_texture
water_is_none is = let blocking = is.blocking in absurd cc

-- clip stands in the way, and water does not
obstacles_row : AreObstacles (clip_brush ∷ water_brush ∷ []) (clip_brush ∷ [])
obstacles_row = counted clip_is_obstacle (left_out water_is_none none)

-- the plane of the face, as the text gives it, is moved up by 24; so is the one in lowest terms, which enters the book
parts_row : moved_parts (hull_box 1) (clip_brush ∷ []) ≡ record { contents = contents.Solid; outward = plane_of (pos 0) (pos 0) (pos 1000000000) (pos 0) ∷ [] } ∷ []
unfolding outward_plane in_space least_product
parts_row = refl

planes_row : moved_planes (hull_box 1) (clip_brush ∷ []) ≡ plane_of (pos 0) (pos 0) (pos 1) (pos 0) ∷ []
unfolding plane_through reduced common_factor factor_of divisor_of_four gcd gcd_within outward_plane in_space least_product
planes_row = refl

-- ---- what points are for a player: solid where z is 0 or less

-- the box just touches the clip brush
touching_row : HasHullContents sample_map (hull_box 1) (at (pos 0) (pos 0) (pos 0)) contents.Solid
unfolding outward_plane in_space least_product value
touching_row = inl (
  refl,
  record {
    brush = clip_brush;
    listed = Contains-first clip_brush (water_brush ∷ []);
    is_obstacle = clip_is_obstacle;
    not_in_front =
        let x = at (pos 0) (pos 0) (pos 0) in
        All-from_recursion (λ h. IsNotInFront h x) (moved_part (hull_box 1) clip_brush).outward (omega (arith, ints), tt);
  },
)

-- one farther up nothing blocks
free_above : (brush : Brush) → clip_brush ≡ brush → IsInFrontOfNone (moved_part (hull_box 1) brush).outward (at (pos 0) (pos 0) (pos 1)) → ⊥
unfolding outward_plane in_space least_product value
free_above brush same in_front_of_none =
    let x = at (pos 0) (pos 0) (pos 1) in
    let its = subst (λ (b : Brush). IsInFrontOfNone (moved_part (hull_box 1) b).outward x) (sym same) in_front_of_none in
    let at_most = its 0 (plane_of (pos 0) (pos 0) (pos 1) (pos 0)) (omega arith) in
    omega (arith, ints, at_most)

unblocked : IsBlocked sample_map (hull_box 1) (at (pos 0) (pos 0) (pos 1)) → ⊥
unblocked blocked = elim (Contains-cons_cases clip_brush blocked.brush (water_brush ∷ []) blocked.listed) [
  | inl same ↦ free_above blocked.brush same blocked.not_in_front
  | inr later ↦ elim (Contains-cons_cases water_brush blocked.brush [] later) [
    | inl same ↦ water_is_none (subst IsObstacle (sym same) blocked.is_obstacle)
    | inr last ↦ Contains-nil blocked.brush last
  ]
]

above_row : HasHullContents sample_map (hull_box 1) (at (pos 0) (pos 0) (pos 1)) contents.Empty
above_row = inr (refl, unblocked)

-- one farther down the box meets the clip brush at its lowest end
met_row : MeetsBrush sample_map (hull_box 1) (at (pos 0) (pos 0) (neg_ℤ (pos 1)))
met_row = record {
  brush = clip_brush;
  listed = Contains-first clip_brush (water_brush ∷ []);
  is_obstacle = clip_is_obstacle;
  met = at (pos 0) (pos 0) (neg_ℤ (pos 25));
  in_box = record {
    set_weight = omega (arith, ints);
    weight = omega (arith, ints);
    within = record {
      x = record { above = omega (arith, ints); below = omega (arith, ints) };
      y = record { above = omega (arith, ints); below = omega (arith, ints) };
      z = record { above = omega (arith, ints); below = omega (arith, ints) };
    };
  };
  inside = below_inside;
}

-- so that point is solid, whatever contents it is said to have
below_row : (found : Contents) → HasHullContents sample_map (hull_box 1) (at (pos 0) (pos 0) (neg_ℤ (pos 1))) found → found ≡ contents.Solid
below_row found has = solid_if_met sample_map (hull_box 1) (at (pos 0) (pos 0) (neg_ℤ (pos 1))) found has met_row
