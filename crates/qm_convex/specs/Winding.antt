use Rattle.std.specs.Prelude.{◌≡◌, ℕ, suc, ◌<◌, ◌≤◌, ◌==◌, pos, ◌<ℤ◌, List, length, map, slice_index_or, All, Contains, if◌then◌else◌}
use Rattle.std.specs.List.{range_with_len}
use Rattle.qm_space.specs.Point.{Point}
use Rattle.qm_space.specs.Plane.{Plane, IsOn, IsInFront}
use Rattle.qm_space.specs.Meet.{meet}
use Rattle.qm_space.specs.Cell.{IsInCell}

-- A polygon on a plane: one plane for each edge, with the polygon on its front. As seen from the front of the
-- polygon's plane the edges go round counterclockwise.
pub record Winding : Type 0 where
  pub plane : Plane
  pub edges : List Plane

-- the place after the place i, of n places in a circle
unfoldable pub next_place : ℕ → ℕ → ℕ
next_place n i = if suc i == n then 0 else suc i

-- the plane of the edge at the place k
abbrev pub edge_at : Winding → ℕ → Plane
edge_at v k = slice_index_or v.edges k v.plane

-- the plane of the edge that holds the corner at the place i and the next one
abbrev pub edge_after : Winding → ℕ → Plane
edge_after v i = edge_at v (next_place (length v.edges) i)

-- each edge is one of these planes
abbrev pub HasEdgesAmong : Winding → List Plane → Type 0
HasEdgesAmong v planes = All (Contains planes) v.edges

-- the point in which the edge at the place i meets the next edge
unfoldable pub corner_at : Winding → ℕ → Point
corner_at v i = meet v.plane (edge_at v i) (edge_at v (next_place (length v.edges) i))

-- all corners, in the order of the edges
abbrev pub corners : Winding → List Point
corners v = map (corner_at v) (range_with_len 0 (length v.edges))

-- the polygon's points, its border left out: on the plane, and in the cell of its edges
pub record IsInRegion (v : Winding) (p : Point) : Type 0 where
  pub weight : pos 0 <ℤ p.w
  pub on : IsOn v.plane p
  pub inside : IsInCell v.edges p

-- a convex polygon with no edge to spare: each corner is a point, and it lies strictly in front of each edge
-- but the two that meet there
pub record IsConvex (v : Winding) : Type 0 where
  pub enough : 3 ≤ length v.edges
  pub weight : (i : ℕ) → i < length v.edges → pos 0 <ℤ (corner_at v i).w
  pub inside : (i k : ℕ) → i < length v.edges → k < length v.edges →
      (k ≡ i → ⊥) → (k ≡ next_place (length v.edges) i → ⊥) → IsInFront (edge_at v k) (corner_at v i)
