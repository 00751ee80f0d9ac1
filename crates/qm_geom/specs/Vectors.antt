use Rattle.std.specs.Prelude.{ℕ, ℤ, pos, ◌≤◌, ◌*ℤ◌, ◌+ℤ◌, unsigned_abs, List, slice_index_or}
use Rattle.qm_space.specs.Point.{Point}
use Rattle.qm_space.specs.Plane.{Plane}
use Rattle.qm_space.specs.Vector as space
use Rattle.qm_geom.specs.declared.vector.Vector.{Vector}

-- three numbers
abbrev pub vector_of : List ℤ → Vector
vector_of numbers =
    record { x = slice_index_or numbers 0 (pos 0); y = slice_index_or numbers 1 (pos 0); z = slice_index_or numbers 2 (pos 0) }

-- the step from the origin to a whole point; of any point, its three numerators
abbrev pub step_to : Point → Vector
step_to p = record { x = p.x; y = p.y; z = p.z }

-- the step from one whole point to another
unfoldable pub vector_between : Point → Point → Vector
vector_between from to = step_to (space.step_between from to)

-- the normal of a plane
abbrev pub normal_vector : Plane → Vector
normal_vector h = step_to (space.normal_of h)

-- the direction of three numbers, as a point
abbrev pub direction_of : Vector → Point
direction_of a = record { x = a.x; y = a.y; z = a.z; w = pos 0 }

-- the cross product
unfoldable pub cross_vector : Vector → Vector → Vector
cross_vector a b = step_to (space.cross (direction_of a) (direction_of b))

-- the dot product
unfoldable pub dot : Vector → Vector → ℤ
dot a b = ((a.x *ℤ b.x) +ℤ (a.y *ℤ b.y)) +ℤ (a.z *ℤ b.z)

-- no component is greater than the bound, whatever its sign
pub record HasSmallComponents (v : Vector) (bound : ℕ) : Type 0 where
  pub x_small : unsigned_abs v.x ≤ bound
  pub y_small : unsigned_abs v.y ≤ bound
  pub z_small : unsigned_abs v.z ≤ bound
