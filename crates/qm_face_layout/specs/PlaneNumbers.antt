use Rattle.std.specs.Prelude.{◌≡◌, ℕ, ℤ, pos, negsuc, neg_ℤ, Bool, List, [], ◌∷◌, Option, Some, slice_get}
use Rattle.qm_space.specs.Plane.{Plane, plane_of}
use Rattle.qm_space.specs.Turned.{turned}

-- Planes by numbers: from 0 on those of a book, and from -1 down the six walls of a cube.

-- the walls of the cube of this half size, turned inward: across x, y and z the low one and the high one
abbrev pub walls_at : ℕ → List Plane
walls_at bound =
    let d = neg_ℤ (pos bound) in
    plane_of (pos 1) (pos 0) (pos 0) d ∷ plane_of (neg_ℤ (pos 1)) (pos 0) (pos 0) d
    ∷ plane_of (pos 0) (pos 1) (pos 0) d ∷ plane_of (pos 0) (neg_ℤ (pos 1)) (pos 0) d
    ∷ plane_of (pos 0) (pos 0) (pos 1) d ∷ plane_of (pos 0) (pos 0) (neg_ℤ (pos 1)) d ∷ []

-- the plane of a number, where there is one
abbrev pub named_plane : List Plane → ℕ → ℤ → Option Plane
named_plane planes bound (pos n) = slice_get planes n
named_plane planes bound (negsuc k) = slice_get (walls_at bound) k

-- the number names the plane, turned or not
pub record NamesPlane (planes : List Plane) (bound : ℕ) (number : ℤ) (plane : Plane) : Type 0 where
  pub named : Plane
  pub named_is : named_plane planes bound number ≡ Some named
  pub side : Bool
  pub turned_is : plane ≡ turned side named

-- some number names the plane
abbrev pub IsNamedPlane : List Plane → ℕ → Plane → Type 0
IsNamedPlane planes bound plane = (number : ℤ) × NamesPlane planes bound number plane

-- the number of a plane: a wall has its number as a wall, also where the book has it
pub record IsPlaneNumber (planes : List Plane) (bound : ℕ) (plane : Plane) (number : ℤ) : Type 0 where
  pub names : NamesPlane planes bound number plane
  pub wall_first : (k : ℕ) → NamesPlane planes bound (negsuc k) plane → number ≡ negsuc k
