use Rattle.std.specs.Prelude.{◌≡◌, ℤ, pos, neg_ℤ, ◌+ℤ◌, ◌<ℤ◌, [], ◌∷◌}
use Rattle.qm_space.specs.Point.{Point}
use Rattle.qm_space.specs.Plane.{Plane, IsInFront}
use Rattle.qm_space.specs.Cuboid.{Cuboid}
use Rattle.qm_convex.specs.Winding.{Winding}

-- the plane that faces another one, at a distance of its own
abbrev pub facing : Plane → ℤ → Plane
facing a d = record { nx = neg_ℤ a.nx; ny = neg_ℤ a.ny; nz = neg_ℤ a.nz; d = d }

-- two planes face one another
abbrev pub AreOpposite : Plane → Plane → Type 0
AreOpposite near far = far ≡ facing near far.d

-- and leave room between them
abbrev pub LeaveRoom : Plane → Plane → Type 0
LeaveRoom near far = (near.d +ℤ far.d) <ℤ pos 0

-- strictly between two planes
pub record IsBetweenPlanes (g h : Plane) (p : Point) : Type 0 where
  pub near : IsInFront g p
  pub far : IsInFront h p

-- the part of a plane between two pairs of others
abbrev pub parallelogram : Plane → Plane → Plane → Plane → Plane → Winding
parallelogram h a b c d = record { plane = h; edges = a ∷ b ∷ c ∷ d ∷ [] }

-- the cuboid of the distances of six axial bounds, in the order of the cube's walls
abbrev pub cuboid_between : Plane → Plane → Plane → Plane → Plane → Plane → Cuboid
cuboid_between x y z u v w = record {
  x = record { low = x.d; high = neg_ℤ u.d };
  y = record { low = y.d; high = neg_ℤ v.d };
  z = record { low = z.d; high = neg_ℤ w.d };
}
