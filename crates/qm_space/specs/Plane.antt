use Rattle.std.specs.Prelude.{◌≡◌, ℤ, pos, neg_ℤ, ◌+ℤ◌, ◌-ℤ◌, ◌*ℤ◌, ◌<ℤ◌, ◌≤ℤ◌}
use Rattle.qm_space.specs.Point.{Point}

-- a normal and a distance: the points with n · p = d
pub record Plane : Type 0 where
  pub nx : ℤ
  pub ny : ℤ
  pub nz : ℤ
  pub d : ℤ

-- a plane by its four numbers
abbrev pub plane_of : ℤ → ℤ → ℤ → ℤ → Plane
plane_of nx ny nz d = record { nx = nx; ny = ny; nz = nz; d = d }

-- the plane's value at a point: less than 0 behind it, 0 on it, greater than 0 in front of it
unfoldable pub value : Plane → Point → ℤ
value h p = (((h.nx *ℤ p.x) +ℤ (h.ny *ℤ p.y)) +ℤ (h.nz *ℤ p.z)) -ℤ (h.d *ℤ p.w)

abbrev pub IsBehind : Plane → Point → Type 0
IsBehind h p = value h p <ℤ pos 0

abbrev pub IsOn : Plane → Point → Type 0
IsOn h p = value h p ≡ pos 0

abbrev pub IsInFront : Plane → Point → Type 0
IsInFront h p = pos 0 <ℤ value h p

-- on the plane or behind it
abbrev pub IsNotInFront : Plane → Point → Type 0
IsNotInFront h p = value h p ≤ℤ pos 0

-- on the plane or in front of it
abbrev pub IsNotBehind : Plane → Point → Type 0
IsNotBehind h p = pos 0 ≤ℤ value h p

-- the same points, with the sides exchanged
abbrev pub flipped : Plane → Plane
flipped h = record { nx = neg_ℤ h.nx; ny = neg_ℤ h.ny; nz = neg_ℤ h.nz; d = neg_ℤ h.d }

-- each number times k
abbrev pub scaled : ℤ → Plane → Plane
scaled k h = record { nx = k *ℤ h.nx; ny = k *ℤ h.ny; nz = k *ℤ h.nz; d = k *ℤ h.d }
