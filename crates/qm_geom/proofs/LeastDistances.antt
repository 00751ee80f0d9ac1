-- The least distance at which a corner is not in front of a plane, by the dot product of the normal and the corner's numerators.
use Rattle.std.proofs.Common.{ℤ, pos, ◌*◌, ◌≤◌, ◌^◌, ◌+ℤ◌, ◌*ℤ◌, ◌<ℤ◌, List, slice_index_or, arith, unsigned_abs}
use Rattle.qm_numbers.specs.Rounding.{IsRoundedUp}
use Rattle.qm_numbers.proofs.Signs.{abs_sum, abs_product_bound}
use Rattle.qm_space.specs.Point.{Point}
use Rattle.qm_space.specs.Coordinates.{HasSmallCoordinates}
use Rattle.qm_space.specs.LeastDistance.{product_along, IsComponent}
use Rattle.qm_space.specs.inner.LeastDistanceOf.{IsLeastDistanceOf}
use Rattle.qm_space.proofs.LeastDistances.{up_is_least}
use Rattle.qm_geom.specs.Vectors.{vector_of, step_to, dot, HasSmallComponents}
use Rattle.qm_geom.specs.declared.vector.Vector.{Vector}

pub dot_up_is_least : (normal : List ℤ) (p : Point) (q : ℤ) → pos 0 <ℤ p.w → IsRoundedUp (dot (vector_of normal) (step_to p)) p.w q → IsLeastDistanceOf normal p q
unfolding dot product_along
dot_up_is_least normal p q w r = up_is_least normal p q w r

-- the dot product is at most 3 · 2^42 denominators
pub along_small : (v : Vector) (p : Point) → HasSmallComponents v (2 ^ 26) → HasSmallCoordinates p → unsigned_abs (dot v (step_to p)) ≤ 2 ^ 44 * unsigned_abs p.w
unfolding dot
along_small v p i s =
    let n = 65536 * unsigned_abs p.w in
    let x = abs_product_bound v.x p.x (2 ^ 26) n i.x_small s.x_small in
    let y = abs_product_bound v.y p.y (2 ^ 26) n i.y_small s.y_small in
    let z = abs_product_bound v.z p.z (2 ^ 26) n i.z_small s.z_small in
    let t = abs_sum (v.x *ℤ p.x) (v.y *ℤ p.y) in
    let u = abs_sum ((v.x *ℤ p.x) +ℤ (v.y *ℤ p.y)) (v.z *ℤ p.z) in
    omega arith

pub components_small : (normal : List ℤ) → IsComponent (slice_index_or normal 0 (pos 0)) → IsComponent (slice_index_or normal 1 (pos 0)) → IsComponent (slice_index_or normal 2 (pos 0)) → HasSmallComponents (vector_of normal) (2 ^ 26)
components_small normal x y z = record { x_small = x; y_small = y; z_small = z }
