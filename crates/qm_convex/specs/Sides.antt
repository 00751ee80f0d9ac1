use Rattle.std.specs.Prelude.{ℕ, ◌<◌, length}
use Rattle.qm_space.specs.Point.{Point}
use Rattle.qm_space.specs.Plane.{Plane, IsOn, IsInFront, IsBehind, IsNotInFront, IsNotBehind}
use Rattle.qm_convex.specs.Winding.{Winding, corner_at, IsInRegion}

-- On which side of a plane a winding lies, by its points and by its corners.

-- no point of the winding is in front
abbrev pub HasNoneInFront : Winding → Plane → Type 0
HasNoneInFront v g = (p : Point) → IsInRegion v p → IsNotInFront g p

-- some point of the winding is in front
abbrev pub HasSomeInFront : Winding → Plane → Type 0
HasSomeInFront v g = (p : Point) × IsInRegion v p × IsInFront g p

-- each point of the winding is in front
abbrev pub IsWhollyInFront : Winding → Plane → Type 0
IsWhollyInFront v g = (p : Point) → IsInRegion v p → IsInFront g p

-- each point of the winding is on the plane
abbrev pub LiesIn : Winding → Plane → Type 0
LiesIn v g = (p : Point) → IsInRegion v p → IsOn g p

abbrev pub HasNoCornerInFront : Winding → Plane → Type 0
HasNoCornerInFront v g = (i : ℕ) → i < length v.edges → IsNotInFront g (corner_at v i)

abbrev pub HasNoCornerBehind : Winding → Plane → Type 0
HasNoCornerBehind v g = (i : ℕ) → i < length v.edges → IsNotBehind g (corner_at v i)

abbrev pub HasCornerInFront : Winding → Plane → Type 0
HasCornerInFront v g = (i : ℕ) × (i < length v.edges) × IsInFront g (corner_at v i)

abbrev pub HasCornerBehind : Winding → Plane → Type 0
HasCornerBehind v g = (i : ℕ) × (i < length v.edges) × IsBehind g (corner_at v i)

abbrev pub HasCornersOn : Winding → Plane → Type 0
HasCornersOn v g = (i : ℕ) → i < length v.edges → IsOn g (corner_at v i)
