use Rattle.std.specs.Prelude.{◌≡◌, ℕ, ◌+◌, ◌-◌, ◌<◌, nat_lt, List, ◌++◌, length, take, drop, ◌↔◌, if◌then◌else◌}
use Rattle.qm_space.specs.Point.{Point}
use Rattle.qm_convex.specs.Winding.{Winding, corner_at, IsInRegion, IsConvex}

-- the place k steps after the place i, of n places in a circle
unfoldable pub place_after : ℕ → ℕ → ℕ → ℕ
place_after n i k = if nat_lt (i + k) n then i + k else (i + k) - n

-- the list of a circle, read from the place i on
abbrev pub rotated_list : {X : Type 0} → ℕ → List X → List X
rotated_list i xs = drop i xs ++ take i xs

-- the same polygon, read from its edge at the place i on
abbrev pub rotated : ℕ → Winding → Winding
rotated i v = record { plane = v.plane; edges = rotated_list i v.edges }

-- read from its edge at the place i on, the winding is the same: convex, with the same points and the same corners
pub record IsSameRotated (v : Winding) (i : ℕ) : Type 0 where
  pub convex : IsConvex (rotated i v)
  pub points : (p : Point) → IsInRegion (rotated i v) p ↔ IsInRegion v p
  pub corners : (k : ℕ) → k < length v.edges → corner_at (rotated i v) k ≡ corner_at v (place_after (length v.edges) i k)
