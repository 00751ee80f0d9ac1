-- The ends across one axis, as code keeps them.
use Rattle.std.proofs.Common.{◌≡◌, ℤ, w32, to_z, of_z, FitsSigned, sym, ◌∙◌, subst}
use Rattle.std.proofs.lemmas.Int.{to_z-of_z}
use Rattle.qm_numbers.specs.Rounding.{IsRoundedDown, IsRoundedUp}
use Rattle.qm_space.specs.Cuboid.{Stretch}
use Rattle.qm_facets.specs.inner.Joined.{IsLowerEnd, IsHigherEnd}
use Rattle.qm_facets.proofs.Joining.{IsWidenedBy}

-- a number, as 32 bits give it again
abbrev pub kept : ℤ → ℤ
kept n = to_z w32 (of_z w32 n)

pub stretch_widened : (coordinate w : ℤ) (old : Stretch) (old_low old_high low high new_low new_high : ℤ) →
    FitsSigned w32 old_low → FitsSigned w32 old_high → FitsSigned w32 new_low → FitsSigned w32 new_high → old_low ≡ old.low → old_high ≡ old.high →
    IsRoundedDown coordinate w low → IsRoundedUp coordinate w high → IsLowerEnd (kept old_low) low new_low → IsHigherEnd (kept old_high) high new_high →
    IsWidenedBy coordinate w old (record { low = kept new_low; high = kept new_high })
stretch_widened coordinate w old old_low old_high low high new_low new_high fits_old_low fits_old_high fits_low fits_high same_low same_high down up lower higher = record {
  low = low;
  high = high;
  down = down;
  up = up;
  lower = subst (λ (n : ℤ). IsLowerEnd n low (kept new_low)) (to_z-of_z w32 old_low fits_old_low ∙ same_low)
      (subst (λ (n : ℤ). IsLowerEnd (kept old_low) low n) (sym (to_z-of_z w32 new_low fits_low)) lower);
  higher = subst (λ (n : ℤ). IsHigherEnd n high (kept new_high)) (to_z-of_z w32 old_high fits_old_high ∙ same_high)
      (subst (λ (n : ℤ). IsHigherEnd (kept old_high) high n) (sym (to_z-of_z w32 new_high fits_high)) higher);
}
