use Rattle.std.specs.Prelude.{◌≡◌, ℕ, zero, suc, ◌<◌, ◌≤◌, ℤ, pos, negsuc, Bool, true, false, unsigned_abs}
use Rattle.std.specs.Int.{◌∣◌}
use Rattle.qm_space.specs.Bounds.{normal_bound, distance_bound}
use Rattle.qm_space.specs.Plane.{Plane}

-- a first number that is not 0 decides by its sign
abbrev pub sign_decides : ℤ → Bool → Bool
sign_decides (pos zero) rest = rest
sign_decides (pos (suc n)) rest = true
sign_decides (negsuc n) rest = false

-- whether the first component of the normal that is not 0 is positive
abbrev pub leads_positive : Plane → Bool
leads_positive h = sign_decides h.nx (sign_decides h.ny (sign_decides h.nz false))

-- the normal has a component that is not 0
abbrev pub HasNormal : Plane → Type 0
HasNormal h = (h.nx ≡ pos 0 → h.ny ≡ pos 0 → h.nz ≡ pos 0 → ⊥)

-- it has none: all three are 0
abbrev pub HasNoNormal : Plane → Type 0
HasNoNormal h = (h.nx ≡ pos 0) × (h.ny ≡ pos 0) × (h.nz ≡ pos 0)

-- no component of the normal is beyond a bound
pub record HasNormalUpTo (bound : ℕ) (h : Plane) : Type 0 where
  pub x : unsigned_abs h.nx ≤ bound
  pub y : unsigned_abs h.ny ≤ bound
  pub z : unsigned_abs h.nz ≤ bound

-- none is beyond that of a plane's components
abbrev pub HasSmallNormal : Plane → Type 0
HasSmallNormal h = HasNormalUpTo normal_bound h

-- some component is beyond it
pub data HasLargeNormal (h : Plane) : Type 0 where
  large_x : normal_bound < unsigned_abs h.nx → HasLargeNormal h
  large_y : normal_bound < unsigned_abs h.ny → HasLargeNormal h
  large_z : normal_bound < unsigned_abs h.nz → HasLargeNormal h

-- a plane in lowest terms, within the bounds for which every side is decided in 128 bits
pub record IsReduced (h : Plane) : Type 0 where
  pub normal : HasNormal h
  pub lowest : (k : ℕ) → k ∣ unsigned_abs h.nx → k ∣ unsigned_abs h.ny → k ∣ unsigned_abs h.nz → k ∣ unsigned_abs h.d → k ≡ 1
  pub nx_small : unsigned_abs h.nx ≤ normal_bound
  pub ny_small : unsigned_abs h.ny ≤ normal_bound
  pub nz_small : unsigned_abs h.nz ≤ normal_bound
  pub d_small : unsigned_abs h.d ≤ distance_bound
