-- How far walls lie from the middle of the cube.
use Rattle.std.proofs.Common.{◌≡◌, ℕ, zero, suc, Bool, true, false, Some, refl, ap, subst, ◌∙◌, arith}
use Rattle.std.specs.Prelude.{slice_get, unsigned_abs}
use Rattle.std.proofs.lemmas.Option.{slice_get_within}
use Rattle.qm_space.specs.Bounds.{world_extent}
use Rattle.qm_space.specs.Plane.{Plane, flipped}
use Rattle.qm_space.specs.Turned.{turned}
use Rattle.qm_face_layout.specs.PlaneNumbers.{walls_at}
use Rattle.qm_face_file.specs.inner.OnWalls.{IsOnWall}

abbrev distance : Plane → ℕ
distance h = unsigned_abs h.d

one_distance : (here wall : Plane) → distance here ≡ world_extent → distance (flipped here) ≡ world_extent → (side : Bool) → Some here ≡ Some wall → distance (turned side wall) ≡ world_extent
one_distance here wall own other true is = let e : here ≡ wall = cc in subst (λ (h : Plane). distance h ≡ world_extent) e own
one_distance here wall own other false is = let e : here ≡ wall = cc in subst (λ (h : Plane). distance (flipped h) ≡ world_extent) e other

wall_distance : (k : ℕ) (wall : Plane) (side : Bool) → slice_get (walls_at world_extent) k ≡ Some wall → distance (turned side wall) ≡ world_extent
wall_distance zero wall side is = one_distance _ wall refl refl side is
wall_distance (suc zero) wall side is = one_distance _ wall refl refl side is
wall_distance (suc (suc zero)) wall side is = one_distance _ wall refl refl side is
wall_distance (suc (suc (suc zero))) wall side is = one_distance _ wall refl refl side is
wall_distance (suc (suc (suc (suc zero)))) wall side is = one_distance _ wall refl refl side is
wall_distance (suc (suc (suc (suc (suc zero))))) wall side is = one_distance _ wall refl refl side is
wall_distance (suc (suc (suc (suc (suc (suc k)))))) wall side is = absurd (let within = slice_get_within (walls_at world_extent) (suc (suc (suc (suc (suc (suc k)))))) wall is in omega (arith, within))

-- a plane that lies on a wall has its distance
pub distance_on_wall : (plane : Plane) (k : ℕ) → IsOnWall plane k → unsigned_abs plane.d ≡ world_extent
distance_on_wall plane k names = ap distance names.turned_is ∙ wall_distance k names.named names.side names.named_is
