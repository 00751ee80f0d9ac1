-- What a look at the planes through an edge and near a corner tells: where it refuses a normal, no separator has it.
use Rattle.std.proofs.Common.{◌≡◌, ℕ, ◌<◌, true, false, ℤ, ◌+ℤ◌, ◌<ℤ◌, ◌≤ℤ◌, length, sym, ◌∙◌, arith, ◌⊎◌, ⊎_elim}
use Rattle.std.specs.Int.{int_max, int_min}
use Rattle.std.proofs.lemmas.Int.{ints, clamps}
use Rattle.std.proofs.Math.IntN.{*ℤ_comm}
use Rattle.qm_numbers.proofs.IntegerProducts.{linear}
use Rattle.qm_numbers.proofs.Signs.{cancel_at_most}
use Rattle.qm_space.specs.Plane.{value, IsNotInFront, IsNotBehind}
use Rattle.qm_convex.specs.Winding.{Winding, corner_at}
use Rattle.qm_geom.specs.declared.vector.Vector.{Vector}
use Rattle.qm_narrow.specs.declared.reach.Reach.{Reach}
use Rattle.qm_narrow.specs.declared.outlook.Outlook.{Outlook}
use Rattle.qm_narrow.specs.inner.Look.{at_distance, IsReachFrom, IsOutlook}
use Rattle.qm_narrow.specs.inner.Turn.{part_along, LiesBetween}

module _ (v : Winding) (n : Vector) (base : ℤ) (reach : Reach) (i : ℕ) (within : i < length v.edges) (lies : LiesBetween n base reach (corner_at v i)) where
  low_is : (d : ℤ) → IsNotInFront (at_distance n d) (corner_at v i) → (reach.low +ℤ base) ≤ℤ d
  unfolding value part_along
  low_is d not =
      let l = lies.low in
      let f = *ℤ_comm (corner_at v i).w (reach.low +ℤ base) in let g = *ℤ_comm (corner_at v i).w d in
      cancel_at_most (corner_at v i).w (reach.low +ℤ base) d lies.weight (omega (arith, linear))

  high_is : (d : ℤ) → IsNotBehind (at_distance n d) (corner_at v i) → d ≤ℤ (reach.high +ℤ base)
  unfolding value part_along
  high_is d not =
      let l = lies.high in
      let f = *ℤ_comm (corner_at v i).w (reach.high +ℤ base) in let g = *ℤ_comm (corner_at v i).w d in
      cancel_at_most (corner_at v i).w d (reach.high +ℤ base) lies.weight (omega (arith, linear))

  pub reach_from : IsReachFrom v n base reach
  reach_from = record { low = λ d none. low_is d (none i within); high = λ d none. high_is d (none i within) }

greatest_at_most : (a b c d e : ℤ) → c ≡ int_max a b → (a +ℤ e) ≤ℤ d → (b +ℤ e) ≤ℤ d → (c +ℤ e) ≤ℤ d
greatest_at_most a b c d e is h k = omega (arith, ints, clamps)

least_at_least : (a b c d e : ℤ) → c ≡ int_min a b → d ≤ℤ (a +ℤ e) → d ≤ℤ (b +ℤ e) → d ≤ℤ (c +ℤ e)
least_at_least a b c d e is h k = omega (arith, ints, clamps)

pub reach_both : (v : Winding) (n : Vector) (base : ℤ) (one two both : Reach) → IsReachFrom v n base one → IsReachFrom v n base two → both.low ≡ int_max one.low two.low → both.high ≡ int_min one.high two.high → IsReachFrom v n base both
reach_both v n base one two both of_one of_two low high = record {
  low = λ d none. greatest_at_most one.low two.low both.low d base low (of_one.low d none) (of_two.low d none);
  high = λ d none. least_at_least one.high two.high both.high d base high (of_one.high d none) (of_two.high d none);
}

pub outlook_begins : (e o : Winding) (n : Vector) (outlook : Outlook) → outlook.ahead ≡ true → outlook.back ≡ true → IsOutlook e o n outlook
outlook_begins e o n outlook ahead back = record {
  ahead = λ not. let never : true ≡ false = sym ahead ∙ not in cc;
  back = λ not. let never : true ≡ false = sym back ∙ not in cc;
}

pub outlook_past : (e o : Winding) (n : Vector) (base : ℤ) (one other : Reach) (old new : Outlook) → IsReachFrom e n base one → IsReachFrom o n base other → IsOutlook e o n old →
    (new.ahead ≡ false → (old.ahead ≡ false) ⊎ (other.high <ℤ one.low)) →
    (new.back ≡ false → (old.back ≡ false) ⊎ (one.high <ℤ other.low)) → IsOutlook e o n new
outlook_past e o n base one other old new of_one of_other of_old ahead back = record {
  ahead = λ not. ⊎_elim
      (λ before. of_old.ahead before)
      (λ less. λ d front behind. let l = of_one.low d front in let h = of_other.high d behind in absurd (omega (arith, linear)))
      (ahead not);
  back = λ not. ⊎_elim
      (λ before. of_old.back before)
      (λ less. λ d front behind. let h = of_one.high d behind in let l = of_other.low d front in absurd (omega (arith, linear)))
      (back not);
}
