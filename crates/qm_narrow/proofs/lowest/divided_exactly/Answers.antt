use Rattle.std.proofs.Common.{◌≡◌, ◌∙◌, ◌*◌, ◌^◌, FitsSigned, ap, sym, subst, w64, int_div, pos, unsigned_abs, one-mul, lt_of_le_of_lt, to_z, of_z}
use Rattle.std.specs.Int.{◌∣◌, trailing_zeros}
use Rattle.std.specs.Int.Signed.{shr_z, mag_shr}
use Rattle.std.proofs.lemmas.Int.{to_z-of_z}
use Rattle.std.proofs.lemmas.Nat.{pow_pos}
use Rattle.qm_narrow.proofs.Halves.{shift_divides}
use Rattle.qm_narrow.proofs.lowest.divided_exactly.Goals as goal
use Rattle.qm_narrow.proofs.lowest.divided_exactly.Goals.{Then-odd_part-eq1}

module _ (c : Then-odd_part-eq1) where
  power : 2 ^ trailing_zeros w64 c.args.factor ≡ c.args.factor
  power = sym (one-mul (2 ^ trailing_zeros w64 c.args.factor)) ∙ ap (λ n. n * 2 ^ trailing_zeros w64 c.args.factor) (sym c.if-odd_part-eq1.true) ∙ c.odd_part.ensures.product

  within : FitsSigned w64 (shr_z c.args.number (2 ^ trailing_zeros w64 c.args.factor))
  within = record { sfits = lt_of_le_of_lt (mag_shr c.args.number (2 ^ trailing_zeros w64 c.args.factor)) c.ranges.number.sfits }

pub returns-then-odd_part-eq1 : goal.returns-then-odd_part-eq1
returns-then-odd_part-eq1 c =
    let k = trailing_zeros w64 c.args.factor in
    ap (λ n. to_z w64 (of_z w64 (shr_z n (2 ^ k)))) (to_z-of_z w64 c.args.number c.ranges.number)
    ∙ to_z-of_z w64 (shr_z c.args.number (2 ^ k)) (within c)
    ∙ shift_divides c.args.number (2 ^ k) (pow_pos k) (subst (λ n. n ∣ unsigned_abs c.args.number) (sym (power c)) c.requires.divides)
    ∙ ap (λ n. int_div c.args.number (pos n)) (power c)
