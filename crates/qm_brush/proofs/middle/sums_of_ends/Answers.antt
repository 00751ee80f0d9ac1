use Rattle.std.proofs.Common.{arith}
use Rattle.std.proofs.lemmas.Int.{ints}
use Rattle.std.proofs.Math.Nat.{eq-one_of_dvd-one}
use Rattle.qm_brush.proofs.middle.sums_of_ends.Goals as goal

pub invariant_of-sum_of_ends : goal.invariant_of-sum_of_ends
invariant_of-sum_of_ends c = record { normal = λ e f g. absurd (omega (arith, ints)); lowest = λ k d e f g. eq-one_of_dvd-one d; nx_small = omega arith; ny_small = omega arith; nz_small = omega arith; d_small = omega arith }

pub invariant_of-sum_of_ends-2 : goal.invariant_of-sum_of_ends-2
invariant_of-sum_of_ends-2 c = record { normal = λ e f g. absurd (omega (arith, ints)); lowest = λ k d e f g. eq-one_of_dvd-one e; nx_small = omega arith; ny_small = omega arith; nz_small = omega arith; d_small = omega arith }

pub invariant_of-sum_of_ends-3 : goal.invariant_of-sum_of_ends-3
invariant_of-sum_of_ends-3 c = record { normal = λ e f g. absurd (omega (arith, ints)); lowest = λ k d e f g. eq-one_of_dvd-one f; nx_small = omega arith; ny_small = omega arith; nz_small = omega arith; d_small = omega arith }
