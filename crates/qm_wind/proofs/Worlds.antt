-- What holds of a corner of a winding inside the cube.
use Rattle.std.proofs.Common.{◌≡◌, ℕ, ℤ, ◌<◌, ◌≤◌, ◌*◌, pos, ◌<ℤ◌, length, sym, subst, unsigned_abs, arith}
use Rattle.std.proofs.lemmas.Int.{ints}
use Rattle.qm_space.specs.Bounds.{rounded_bound}
use Rattle.qm_space.specs.Point.{Point}
use Rattle.qm_space.specs.Coordinates.{HasSmallCoordinates}
use Rattle.qm_convex.specs.Winding.{Winding, corner_at}
use Rattle.qm_convex.specs.Vertex.{IsVertex}
use Rattle.qm_convex.specs.World.{IsInWorld}
use Rattle.qm_space.specs.Cube.{IsUpToExtent, IsInClosedCube}
use Rattle.qm_convex.proofs.Squares.{corner_in_closed_cube}
use Rattle.qm_convex.proofs.Vertices.{corner_is_vertex}

small_up_to_extent : (c w : ℤ) → pos 0 <ℤ w → IsUpToExtent c w → unsigned_abs c ≤ rounded_bound * unsigned_abs w
small_up_to_extent c w h u = let a = u.above in let b = u.below in omega (arith, ints)

small_in_closed_cube : (p : Point) → IsInClosedCube p → HasSmallCoordinates p
small_in_closed_cube p x = record {
  x_small = small_up_to_extent p.x p.w x.weight x.x;
  y_small = small_up_to_extent p.y p.w x.weight x.y;
  z_small = small_up_to_extent p.z p.w x.weight x.z;
}

-- a point that is the corner of a winding
pub is_vertex : (u v : Winding) (i : ℕ) (p : Point) → u ≡ v → IsInWorld u → i < length v.edges → p ≡ corner_at v i → IsVertex v p
is_vertex u v i p e x h f = subst (IsVertex v) (sym f) (corner_is_vertex v (subst IsInWorld e x).convex i h)

pub is_in_closed_cube : (u v : Winding) (i : ℕ) (p : Point) → u ≡ v → IsInWorld u → i < length v.edges → p ≡ corner_at v i → IsInClosedCube p
is_in_closed_cube u v i p e x h f = subst IsInClosedCube (sym f) (corner_in_closed_cube v (subst IsInWorld e x) i h)

pub is_small : (u v : Winding) (i : ℕ) (p : Point) → u ≡ v → IsInWorld u → i < length v.edges → p ≡ corner_at v i → HasSmallCoordinates p
is_small u v i p e x h f = small_in_closed_cube p (is_in_closed_cube u v i p e x h f)
