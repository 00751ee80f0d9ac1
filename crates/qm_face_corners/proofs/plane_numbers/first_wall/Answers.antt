use Rattle.std.proofs.Common.{◌≡◌, ℕ, negsuc, true, Some, refl, sym, subst}
use Rattle.std.specs.Prelude.{slice_get}
use Rattle.qm_face_layout.specs.PlaneNumbers.{walls_at}
use Rattle.qm_face_corners.proofs.plane_numbers.first_wall.Goals as goal

pub plane_number-number-requires : goal.plane_number-number-requires
plane_number-number-requires c =
    let wall = c.in-Some.plane in
    let there = subst (λ (extent : ℕ). Some wall ≡ slice_get (walls_at extent) 0) c.unsigned_abs.ensures.value c.in-Some.ensures in
    (negsuc 0, record { named = wall; named_is = sym there; side = true; turned_is = refl })
