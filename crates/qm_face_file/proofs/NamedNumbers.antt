-- What is read of a number that names a plane, as code has it.
use Rattle.std.proofs.Common.{◌≡◌, ◌<◌, ℕ, ◌^◌, ℤ, pos, negsuc, neg_ℤ, ◌+ℤ◌, ◌-ℤ◌, true, List, sym, ap, ◌∙◌, arith, w64, to_z, of_z}
use Rattle.std.specs.Prelude.{FitsSigned, unsigned_abs, int_lt, slice_get}
use Rattle.std.proofs.lemmas.Int.{to_z-of_z, fits_signed_from_abs}
use Rattle.qm_numbers.proofs.IntegerProducts.{linear}
use Rattle.qm_space.specs.Plane.{Plane}
use Rattle.qm_face_layout.specs.PlaneNumbers.{walls_at, named_plane}
use Rattle.qm_face_layout.proofs.Walls.{abs_negative}

-- the place of a wall, of a number below 0
wall_place : (number : ℤ) → FitsSigned w64 number → int_lt (to_z w64 (of_z w64 number)) (pos 0) ≡ true →
    number ≡ negsuc (unsigned_abs (to_z w64 (of_z w64 (pos 0 -ℤ to_z w64 (of_z w64 (to_z w64 (of_z w64 number) +ℤ pos 1))))))
wall_place (pos n) fits below = absurd (let same = to_z-of_z w64 (pos n) fits in let e = ap (λ z. int_lt z (pos 0)) (sym same) ∙ below in grind (arith, e))
wall_place (negsuc n) fits below =
    let few : n < 2 ^ 63 = fits.sfits in
    let more : to_z w64 (of_z w64 (negsuc n)) +ℤ pos 1 ≡ neg_ℤ (pos n) = let same = to_z-of_z w64 (negsuc n) fits in omega (arith, linear, same) in
    let kept = to_z-of_z w64 (neg_ℤ (pos n)) (fits_signed_from_abs w64 (neg_ℤ (pos n)) (omega (arith, few, abs_negative n))) in
    let back : pos 0 -ℤ neg_ℤ (pos n) ≡ pos n = omega (arith, linear) in
    let all : to_z w64 (of_z w64 (pos 0 -ℤ to_z w64 (of_z w64 (to_z w64 (of_z w64 (negsuc n)) +ℤ pos 1)))) ≡ pos n =
    ap (λ (z : ℤ). to_z w64 (of_z w64 (pos 0 -ℤ to_z w64 (of_z w64 z)))) more
    ∙ ap (λ (z : ℤ). to_z w64 (of_z w64 (pos 0 -ℤ z))) kept
    ∙ ap (λ (z : ℤ). to_z w64 (of_z w64 z)) back
    ∙ to_z-of_z w64 (pos n) (fits_signed_from_abs w64 (pos n) few) in
    ap (λ (z : ℤ). negsuc (unsigned_abs z)) (sym all)

pub wall_named : (planes : List Plane) (bound : ℕ) (number : ℤ) → FitsSigned w64 number → int_lt (to_z w64 (of_z w64 number)) (pos 0) ≡ true →
    slice_get (walls_at bound) (unsigned_abs (to_z w64 (of_z w64 (pos 0 -ℤ to_z w64 (of_z w64 (to_z w64 (of_z w64 number) +ℤ pos 1)))))) ≡ named_plane planes bound number
wall_named planes bound number fits below = ap (named_plane planes bound) (sym (wall_place number fits below))
