use Rattle.std.proofs.Common.{arith}
use Rattle.std.proofs.lemmas.Int.{ints}
use Rattle.std.proofs.Math.Nat.{eq-one_of_dvd-one}
use Rattle.geometry_tests.proofs.corners.across.Goals as goal

pub invariant_of-result : goal.invariant_of-result
invariant_of-result c = record { normal = λ e f g. absurd (omega (arith, ints)); lowest = λ k d e f g. eq-one_of_dvd-one e; nx_small = omega arith; ny_small = omega arith; nz_small = omega arith; d_small = omega arith }
