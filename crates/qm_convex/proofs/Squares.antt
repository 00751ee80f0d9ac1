-- The square that a plane has between two pairs of mirrored planes, and the part of a plane inside the world's cube.
use Rattle.std.proofs.Common.{◌≡◌, ℕ, ◌<◌, pos, neg_ℤ, ◌<ℤ◌, [], ◌∷◌, length, slice_index_or, ◌↔◌, refl, arith}
use Rattle.std.specs.List.{All}
use Rattle.std.proofs.lemmas.List.Elements.{All-from_recursion}
use Rattle.qm_space.specs.Point.{Point, IsWithinExtent}
use Rattle.qm_space.specs.Plane.{Plane, flipped, IsOn, IsNotBehind}
use Rattle.qm_space.specs.Determinant.{determinant}
use Rattle.qm_space.specs.Meet.{meet}
use Rattle.qm_numbers.proofs.IntegerProducts.{linear}
use Rattle.qm_numbers.proofs.Ring.{variable, negated, solved}
use Rattle.qm_space.proofs.PlaneSymbols.{plane_from, numbers_of_plane, symbol_meet}
use Rattle.qm_convex.specs.Winding.{Winding, next_place, corner_at, corners, IsConvex, IsInRegion}
use Rattle.qm_convex.specs.Cut.{IsPartInFront}
use Rattle.qm_convex.specs.World.{MissesCube, IsWorldPart, IsInWorld, IsCubeFace}
use Rattle.qm_convex.specs.Section.{IsSection, MissesCell}
use Rattle.qm_convex.specs.inner.Square.{IsBetweenMirrored, square}
use Rattle.qm_space.specs.Cube.{mirrored, wall_x, wall_y, wall_z, cube_walls, IsInClosedCube}
use Rattle.qm_space.proofs.Cubes.{symbol_wall_x, symbol_wall_y, symbol_wall_z, y_low, y_high, z_low, z_high, cube_is_cell, closed_from_walls, walls_from_closed, cube_in_closed}
use Rattle.qm_space.proofs.CubeFaces.{face_in_closed}
use Rattle.qm_space.proofs.Planes.{value_flipped}
use Rattle.qm_convex.proofs.Central.{none_in_front}
use Rattle.qm_convex.proofs.Parallelograms.{parallelogram_convex, parallelogram_region}

module _ (h a b : Plane) where
  -- the square is convex where the planes' normals turn the right way
  pub square_convex : pos 0 <ℤ (meet h a b).w → a.d <ℤ pos 0 → b.d <ℤ pos 0 → IsConvex (square h a b)
  square_convex turn a_apart b_apart = parallelogram_convex h a b (mirrored a) (mirrored b) refl refl (omega (arith, linear)) (omega (arith, linear)) turn

  -- its points are those of the plane between either pair
  pub square_region : (p : Point) → IsInRegion (square h a b) p ↔ ((pos 0 <ℤ p.w) × IsOn h p × IsBetweenMirrored a p × IsBetweenMirrored b p)
  square_region p = parallelogram_region h a b (mirrored a) (mirrored b) p

-- its corners
pub square_corners : (h a b : Plane) → corners (square h a b) ≡ meet h a b ∷ meet h b (mirrored a) ∷ meet h (mirrored a) (mirrored b) ∷ meet h (mirrored b) a ∷ []
unfolding corner_at next_place
square_corners h a b = refl

-- what holds of the planes and the mirrored ones holds of its edges
pub square_all : (P : Plane → Type 0) (h a b : Plane) → P a → P b → P (mirrored a) → P (mirrored b) → All P (square h a b).edges
square_all P h a b pa pb oa ob = All-from_recursion P (square h a b).edges (pa, (pb, (oa, (ob, tt))))

-- ---- the world's cube

-- how the normals of a plane and two walls turn, by one number of the plane's normal

pub turn_x_y : (h : Plane) → (meet h wall_x wall_y).w ≡ h.nz
unfolding meet determinant
turn_x_y h = solved (numbers_of_plane h []) (symbol_meet (plane_from 0) symbol_wall_x symbol_wall_y).w (variable 2) tt

pub turn_z_x : (h : Plane) → (meet h wall_z wall_x).w ≡ h.ny
unfolding meet determinant
turn_z_x h = solved (numbers_of_plane h []) (symbol_meet (plane_from 0) symbol_wall_z symbol_wall_x).w (variable 1) tt

pub turn_y_z : (h : Plane) → (meet h wall_y wall_z).w ≡ h.nx
unfolding meet determinant
turn_y_z h = solved (numbers_of_plane h []) (symbol_meet (plane_from 0) symbol_wall_y symbol_wall_z).w (variable 0) tt

-- in the other order they turn the other way
pub turn_exchanged : (h a b : Plane) → (meet h b a).w ≡ neg_ℤ (meet h a b).w
unfolding meet determinant
turn_exchanged h a b =
    let p = plane_from 0 in let q = plane_from 4 in let r = plane_from 8 in
    solved (numbers_of_plane h (numbers_of_plane a (numbers_of_plane b []))) (symbol_meet p r q).w (negated (symbol_meet p q r).w) tt

-- between a wall and the mirrored one is within the cube's extent
module _ (p : Point) where
  pub between_y : IsBetweenMirrored wall_y p ↔ IsWithinExtent p.y p.w
  between_y = let e = y_low p in let f = y_high p in (
    (λ s. let near = s.near in let far = s.far in record { above = omega (arith, linear); below = omega (arith, linear) }),
    (λ s. let above = s.above in let below = s.below in record { near = omega (arith, linear); far = omega (arith, linear) }),
  )

  pub between_z : IsBetweenMirrored wall_z p ↔ IsWithinExtent p.z p.w
  between_z = let e = z_low p in let f = z_high p in (
    (λ s. let near = s.near in let far = s.far in record { above = omega (arith, linear); below = omega (arith, linear) }),
    (λ s. let above = s.above in let below = s.below in record { near = omega (arith, linear); far = omega (arith, linear) }),
  )

-- ---- the part of a plane inside the cube is its section by the walls

pub world_part_of_section : (w : Winding) (h : Plane) → IsSection cube_walls h w → IsWorldPart w h
world_part_of_section w h x = record {
  convex = x.convex;
  plane = x.plane;
  points = λ p. (
    (λ r. let s = (x.points p).0 r in (s.0, (cube_is_cell p).1 s.1)),
    (λ s. (x.points p).1 (s.0, (cube_is_cell p).0 s.1)),
  );
  edges = x.edges;
}

pub misses_cube_by_walls : (h : Plane) → MissesCell cube_walls h → MissesCube h
misses_cube_by_walls h misses p i on = misses p i.weight on ((cube_is_cell p).0 i)

-- ---- windings in the cube or on its walls

pub world_part_in_world : (w : Winding) (h : Plane) → IsWorldPart w h → IsInWorld w
world_part_in_world w h x = record { convex = x.convex; inside = λ p r. cube_in_closed p ((x.points p).0 r).1 }

pub face_in_world : (w : Winding) (wall : Plane) → IsCubeFace w wall → IsInWorld w
face_in_world w wall x = record { convex = x.convex; inside = λ p r. face_in_closed wall p ((x.points p).0 r) }

pub part_in_world : (w v : Winding) (g : Plane) → IsInWorld v → IsPartInFront w v g → IsInWorld w
part_in_world w v g i x = record { convex = x.convex; inside = λ p r. i.inside p ((x.points p).0 r).0 }

-- their corners lie in the cube or on its border
pub corner_in_closed_cube : (v : Winding) → IsInWorld v → (i : ℕ) → i < length v.edges → IsInClosedCube (corner_at v i)
corner_in_closed_cube v world i h =
    closed_from_walls (corner_at v i) (world.convex.weight i h)
    (λ k d l. not_behind (slice_index_or cube_walls k d) (λ p r. walls_from_closed p (world.inside p r) k d l))
  where
    not_behind : (g : Plane) → ((p : Point) → IsInRegion v p → IsNotBehind g p) → IsNotBehind g (corner_at v i)
    not_behind g none =
        let m = (none_in_front v (flipped g) world.convex).0 (λ p r. let e = value_flipped g p in let n = none p r in omega (arith, linear)) i h in
        let e = value_flipped g (corner_at v i) in
        omega (arith, linear)
