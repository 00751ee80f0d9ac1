use Rattle.std.specs.Prelude.{◌≡◌, Bool, true, false, if◌then◌else◌, ℤ, pos, neg_ℤ, ◌*◌, ◌≤◌, ◌+ℤ◌, ◌-ℤ◌, ◌*ℤ◌, ◌<ℤ◌, ◌≤ℤ◌, ℕ, unsigned_abs}
use Rattle.qm_space.specs.Bounds.{normal_bound, whole_normal_bound}
use Rattle.qm_space.specs.Point.{Point, whole_point, AreCoordinates}
use Rattle.qm_space.specs.Vector.{normal_of}
use Rattle.qm_space.specs.ThreePoints.{outward_plane}
use Rattle.qm_geom.specs.declared.vector.Vector.{Vector}
use Rattle.qm_geom.specs.Vectors.{direction_of, vector_between}
use Rattle.qm_separators.specs.WholePoints as whole
use Rattle.qm_narrow.specs.declared.edge.Edge.{Edge}
use Rattle.qm_narrow.specs.declared.turn.Turn.{Turn}
use Rattle.qm_narrow.specs.declared.reach.Reach.{Reach}
use Rattle.qm_narrow.specs.declared.spot.Spot.{Spot}

-- Planes through an edge, turned about it so that they go through a whole point near a corner.

-- the dot product of a normal and a step
abbrev pub dot_bound : ℕ
dot_bound = 3 * (whole_normal_bound * normal_bound)

-- the number is between another one's opposite and that one
pub record IsWithin (z size : ℤ) : Type 0 where
  pub low : neg_ℤ size ≤ℤ z
  pub high : z ≤ℤ size

-- the components are within numbers of which this is the sum
pub record HasSize (v : Vector) (size : ℤ) : Type 0 where
  pub of_x : ℤ
  pub of_y : ℤ
  pub of_z : ℤ
  pub x : IsWithin v.x of_x
  pub y : IsWithin v.y of_y
  pub z : IsWithin v.z of_z
  pub sum : (of_x +ℤ of_y) +ℤ of_z ≡ size

-- what a normal has along a point, over the point's denominator
unfoldable pub part_along : Vector → Point → ℤ
part_along n p = ((n.x *ℤ p.x) +ℤ (n.y *ℤ p.y)) +ℤ (n.z *ℤ p.z)

-- the point lies between the low and the high distance, counted from the base
pub record LiesBetween (n : Vector) (base : ℤ) (reach : Reach) (p : Point) : Type 0 where
  pub weight : pos 0 <ℤ p.w
  pub low : ((reach.low +ℤ base) *ℤ p.w) ≤ℤ part_along n p
  pub high : part_along n p ≤ℤ ((reach.high +ℤ base) *ℤ p.w)

-- the normal is that of the plane through the edge and a whole point around the corner
pub record IsThrough (edge : Edge) (corner : Point) (n : Vector) : Type 0 where
  pub weight : pos 0 <ℤ corner.w
  pub at : Point
  pub around : whole.IsAround corner at
  pub normal : direction_of n ≡ normal_of (outward_plane at (whole_point edge.from) (whole_point edge.to))

-- a slack that counts only where something is loose
abbrev pub slack_where : Bool → ℤ → ℤ
slack_where loose size = if loose then size else pos 0

-- the sum of the components of a normal without their signs, and what a slack is at most
abbrev pub size_bound : ℕ
size_bound = 3 * whole_normal_bound

abbrev pub slack_bound : ℕ
slack_bound = 4 * size_bound

-- the components of each such normal, without their signs, have at most this sum
pub record IsSpread (edge : Edge) (turn : Turn) (spread : ℤ) : Type 0 where
  pub of_normal : ℤ
  pub size : HasSize turn.normal of_normal
  pub sum : spread ≡ of_normal +ℤ slack_where turn.loose (edge.length +ℤ edge.length)

-- what a normal may have more or less along a point than along a whole point near it
pub record IsPointSlack (edge : Edge) (turn : Turn) (loose : Bool) (slack : ℤ) : Type 0 where
  pub none : loose ≡ false → slack ≡ pos 0
  pub some : loose ≡ true → IsSpread edge turn slack

-- each such normal differs from that through the nearest whole point by less than a turn by one in each coordinate, and by
-- none where the corner is a whole point itself
pub record IsTurned (edge : Edge) (turn : Turn) (n : Vector) : Type 0 where
  pub by_x : ℤ
  pub by_y : ℤ
  pub by_z : ℤ
  pub x : IsWithin by_x (pos 1)
  pub y : IsWithin by_y (pos 1)
  pub z : IsWithin by_z (pos 1)
  pub fixed : turn.loose ≡ false → (by_x ≡ pos 0) × (by_y ≡ pos 0) × (by_z ≡ pos 0)
  pub at : Point
  pub normal : direction_of n ≡ normal_of (outward_plane (record { x = at.x +ℤ by_x; y = at.y +ℤ by_y; z = at.z +ℤ by_z; w = pos 1 }) (whole_point edge.from) (whole_point edge.to))
  pub near : direction_of turn.normal ≡ normal_of (outward_plane at (whole_point edge.from) (whole_point edge.to))
  pub size : (spread : ℤ) → IsSpread edge turn spread → HasSize n spread

-- by how much a turn about the edge may change what a normal has along the step to a corner
pub record IsTurnSlack (edge : Edge) (turn : Turn) (spot : Spot) (slack : ℤ) : Type 0 where
  pub none : turn.loose ≡ false → slack ≡ pos 0
  pub some : turn.loose ≡ true → (m : Vector) × (direction_of m ≡ normal_of (outward_plane (whole_point spot.nearest) (whole_point edge.from) (whole_point edge.to))) × HasSize m slack

-- the edge's ends are whole points of the cube, and its length is the sum of its components without their signs
pub record IsEdge (edge : Edge) : Type 0 where
  pub from_in : AreCoordinates edge.from
  pub to_in : AreCoordinates edge.to
  pub length : HasSize (vector_between (whole_point edge.from) (whole_point edge.to)) edge.length
  pub length_small : unsigned_abs edge.length ≤ size_bound

-- the reach goes from so much below a distance to so much above it
pub record LiesAround (distance slack : ℤ) (reach : Reach) : Type 0 where
  pub low : reach.low ≡ distance -ℤ slack
  pub high : reach.high ≡ distance +ℤ slack
