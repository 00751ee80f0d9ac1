use Rattle.std.specs.Prelude.{◌≡◌, ◌*ℤ◌, int_lt, pos, List, Contains}
use Rattle.qm_space.specs.Plane.{Plane, flipped}
use Rattle.qm_space.specs.Vector.{normal_of}
use Rattle.qm_geom.specs.declared.vector.Vector.{Vector}
use Rattle.qm_convex.specs.Winding.{Winding}
use Rattle.qm_separators.specs.Across.{HasLowestNormal}
use Rattle.qm_separators.specs.Separator.{TouchesFromInFront}

-- Planes that were found before, by their normals.

-- each plane of the list touches the source from in front, and has its normal in lowest terms
pub record AreAtLeastDistance (source : Winding) (planes : List Plane) : Type 0 where
  pub each : (h : Plane) → Contains planes h → TouchesFromInFront source h
  pub lowest : (h : Plane) → Contains planes h → HasLowestNormal h

-- some plane of the list has the normal of a plane
abbrev pub HasNormalAmong : List Plane → Plane → Type 0
HasNormalAmong planes along = (h : Plane) × Contains planes h × (normal_of h ≡ normal_of along)

-- a normal points where a plane's does: each two of its components are to one another as the plane's are, and they have the
-- same signs
pub record IsAlong (n : Vector) (h : Plane) : Type 0 where
  pub xy : n.x *ℤ h.ny ≡ n.y *ℤ h.nx
  pub yz : n.y *ℤ h.nz ≡ n.z *ℤ h.ny
  pub zx : n.z *ℤ h.nx ≡ n.x *ℤ h.nz
  pub x_sign : int_lt n.x (pos 0) ≡ int_lt h.nx (pos 0)
  pub y_sign : int_lt n.y (pos 0) ≡ int_lt h.ny (pos 0)
  pub z_sign : int_lt n.z (pos 0) ≡ int_lt h.nz (pos 0)

-- it points where that of some plane of the list does, or where the opposite of some one does
abbrev pub HasAlongAmong : List Plane → Vector → Type 0
HasAlongAmong planes n = (h : Plane) × Contains planes h × IsAlong n h

abbrev pub HasAgainstAmong : List Plane → Vector → Type 0
HasAgainstAmong planes n = (h : Plane) × Contains planes h × IsAlong n (flipped h)
