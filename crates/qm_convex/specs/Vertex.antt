use Rattle.std.specs.Prelude.{ℕ, ◌<◌, ◌≤◌, pos, ◌<ℤ◌, length, All}
use Rattle.qm_space.specs.Point.{Point, IsSamePlace}
use Rattle.qm_space.specs.Plane.{IsOn, IsNotBehind}
use Rattle.qm_space.specs.Line.{AreOnOneLine, IsBetween}
use Rattle.qm_convex.specs.Winding.{Winding, next_place, corner_at}

-- a point of the polygon or of its border
pub record IsInClosedRegion (v : Winding) (p : Point) : Type 0 where
  pub weight : pos 0 <ℤ p.w
  pub on : IsOn v.plane p
  pub inside : All (λ e. IsNotBehind e p) v.edges

-- a vertex is a point of the polygon or of its border that lies between no two other such points
pub record IsVertex (v : Winding) (p : Point) : Type 0 where
  pub closed : IsInClosedRegion v p
  pub extreme : (q r : Point) → IsInClosedRegion v q → IsInClosedRegion v r → IsBetween p q r → IsSamePlace q p × IsSamePlace r p

-- the point is one of the winding's corners
abbrev pub IsSomeCorner : Winding → Point → Type 0
IsSomeCorner v p = (i : ℕ) × (i < length v.edges) × IsSamePlace p (corner_at v i)

-- from the corner at a place on, three neighbours lie on one line
abbrev pub HasStraightCorner : Winding → ℕ → Type 0
HasStraightCorner v i =
    AreOnOneLine (corner_at v i) (corner_at v (next_place (length v.edges) i)) (corner_at v (next_place (length v.edges) (next_place (length v.edges) i)))

-- the corners are exactly the vertices, at least three, and no three neighbours lie on one line
pub record HasVerticesAsCorners (v : Winding) : Type 0 where
  pub enough : 3 ≤ length v.edges
  pub each : (i : ℕ) → i < length v.edges → IsVertex v (corner_at v i)
  pub all : (p : Point) → IsVertex v p → IsSomeCorner v p
  pub bent : (i : ℕ) → i < length v.edges → HasStraightCorner v i → ⊥
