-- A cuboid that grows, as one thing after another is joined to it.
use Rattle.std.specs.Prelude.{◌≡◌, ◌⊎◌, ℕ, ◌<◌, ℤ, neg_ℤ, ◌≤ℤ◌, List, length, All}
use Rattle.qm_space.specs.Bounds.{extent}
use Rattle.qm_space.specs.Cuboid.{Cuboid, IsInCuboid}
use Rattle.qm_convex.specs.Winding.{Winding, corner_at, IsConvex}
use Rattle.qm_convex.specs.inner.Facets.{Facet}
use Rattle.qm_facets.specs.Extent.{IsCuboidWithin}

-- of the cuboids that have an old one within and what else they have to have, the new one is the least
pub record IsJoined (old : Cuboid) (Has : Cuboid → Type 0) (new : Cuboid) : Type 0 where
  pub has_old : IsCuboidWithin old new
  pub has : Has new
  pub least : (other : Cuboid) → IsCuboidWithin old other → Has other → IsCuboidWithin new other

-- all corners of a polygon
abbrev pub HasCorners : Winding → Cuboid → Type 0
HasCorners v c = (i : ℕ) → i < length v.edges → IsInCuboid c (corner_at v i)

-- the corners before a place
abbrev pub HasCornersBefore : Winding → ℕ → Cuboid → Type 0
HasCornersBefore v n c = (i : ℕ) → i < n → IsInCuboid c (corner_at v i)

-- all corners of facets
abbrev pub HasCornersOfAll : List Facet → Cuboid → Type 0
HasCornersOfAll facets c = All (λ found. HasCorners found.winding c) facets

-- the facets are convex polygons
abbrev pub AreConvexFacets : List Facet → Type 0
AreConvexFacets facets = All (λ found. IsConvex found.winding) facets

-- the cuboid that has nothing in the closed cube, and that every cuboid with a point there has within
abbrev pub no_cuboid : Cuboid
no_cuboid = record {
  x = record { low = extent; high = neg_ℤ extent };
  y = record { low = extent; high = neg_ℤ extent };
  z = record { low = extent; high = neg_ℤ extent };
}

-- the lesser of two low ends, and the greater of two high ends
pub record IsLowerEnd (old found new : ℤ) : Type 0 where
  pub old_not_less : new ≤ℤ old
  pub found_not_less : new ≤ℤ found
  pub is_one : (new ≡ old) ⊎ (new ≡ found)

pub record IsHigherEnd (old found new : ℤ) : Type 0 where
  pub old_not_more : old ≤ℤ new
  pub found_not_more : found ≤ℤ new
  pub is_one : (new ≡ old) ⊎ (new ≡ found)
