-- The number of a wall, as code has it.
use Rattle.std.proofs.Common.{◌≡◌, ◌<◌, ℕ, zero, suc, negsuc, ◌-ℤ◌, refl, arith, w64, to_z, of_z}

pub number_of_place : (k : ℕ) → k < 6 → to_z w64 (of_z w64 (negsuc 0 -ℤ to_z w64 k)) ≡ negsuc k
number_of_place zero within = refl
number_of_place (suc zero) within = refl
number_of_place (suc (suc zero)) within = refl
number_of_place (suc (suc (suc zero))) within = refl
number_of_place (suc (suc (suc (suc zero)))) within = refl
number_of_place (suc (suc (suc (suc (suc zero))))) within = refl
number_of_place (suc (suc (suc (suc (suc (suc k)))))) within = absurd (omega (arith, within))
