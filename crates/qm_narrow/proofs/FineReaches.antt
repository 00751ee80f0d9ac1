-- What a normal has along corners in fine units: if the reaches of two windings pass each other, no plane with it parts the two.
use Rattle.std.proofs.Common.{◌≡◌, ℕ, ◌<◌, Bool, false, ℤ, pos, ◌+ℤ◌, ◌-ℤ◌, ◌*ℤ◌, ◌<ℤ◌, ◌≤ℤ◌, [], ◌∷◌, length, refl, sym, subst, arith, ◌⊎◌, ⊎_elim, inl, inr}
use Rattle.std.specs.Int.{int_max, int_min}
use Rattle.std.proofs.lemmas.Int.{ints, clamps}
use Rattle.std.proofs.Math.IntN.{*ℤ_comm}
use Rattle.qm_numbers.specs.Rounding.{IsRoundedDown}
use Rattle.qm_numbers.proofs.IntegerProducts.{linear, +ℤ-*ℤ, -ℤ-*ℤ, one_*ℤ}
use Rattle.qm_numbers.proofs.Ring.{variable, number, ◌⊕◌, ◌⊖◌, ◌⊗◌, solved}
use Rattle.qm_numbers.proofs.Signs.{cancel_at_most, times_at_most}
use Rattle.qm_space.specs.Point.{Point}
use Rattle.qm_space.specs.Plane.{value, IsNotInFront, IsNotBehind}
use Rattle.qm_convex.specs.Winding.{Winding, corner_at}
use Rattle.qm_geom.specs.Vectors.{dot}
use Rattle.qm_geom.specs.declared.vector.Vector.{Vector}
use Rattle.qm_narrow.specs.declared.reach.Reach.{Reach}
use Rattle.qm_narrow.specs.inner.Trace.{fine_units, IsFineOf}
use Rattle.qm_narrow.specs.inner.Look.{at_distance, IsFineReach, PartsNowhere}
use Rattle.qm_narrow.specs.inner.Turn.{IsWithin, HasSize, LiesAround, part_along}
use Rattle.qm_narrow.proofs.Turns.{dot_within}

-- what a coordinate has beside its fine units rounded down
rest_within : (c w f : ℤ) → pos 0 <ℤ w → IsRoundedDown (fine_units *ℤ c) w f → IsWithin ((fine_units *ℤ c) -ℤ (f *ℤ w)) w
rest_within c w f positive down =
    let e = +ℤ-*ℤ f (pos 1) w in let g = one_*ℤ w in let a = down.at_most in let b = down.next in
    record { low = omega (arith, linear); high = omega (arith, linear) }

rest_along : (n f : Vector) (p : Point) →
    ((n.x *ℤ ((fine_units *ℤ p.x) -ℤ (f.x *ℤ p.w))) +ℤ (n.y *ℤ ((fine_units *ℤ p.y) -ℤ (f.y *ℤ p.w)))) +ℤ (n.z *ℤ ((fine_units *ℤ p.z) -ℤ (f.z *ℤ p.w)))
    ≡ (fine_units *ℤ part_along n p) -ℤ (dot n f *ℤ p.w)
unfolding part_along dot
rest_along n f p =
    let t = variable in let u = number fine_units in
    solved (n.x ∷ n.y ∷ n.z ∷ f.x ∷ f.y ∷ f.z ∷ p.x ∷ p.y ∷ p.z ∷ p.w ∷ [])
    ((t 0 ⊗ (u ⊗ t 6 ⊖ t 3 ⊗ t 9) ⊕ t 1 ⊗ (u ⊗ t 7 ⊖ t 4 ⊗ t 9)) ⊕ t 2 ⊗ (u ⊗ t 8 ⊖ t 5 ⊗ t 9))
    (u ⊗ ((t 0 ⊗ t 6 ⊕ t 1 ⊗ t 7) ⊕ t 2 ⊗ t 8) ⊖ ((t 0 ⊗ t 3 ⊕ t 1 ⊗ t 4) ⊕ t 2 ⊗ t 5) ⊗ t 9) tt

fine_times : (d w : ℤ) → (fine_units *ℤ d) *ℤ w ≡ fine_units *ℤ (d *ℤ w)
fine_times d w = let t = variable in let u = number fine_units in solved (d ∷ w ∷ []) ((u ⊗ t 0) ⊗ t 1) (u ⊗ (t 0 ⊗ t 1)) tt

fine_at_most : (a b : ℤ) → a ≤ℤ b → (fine_units *ℤ a) ≤ℤ (fine_units *ℤ b)
fine_at_most a b less = times_at_most fine_units a b positive less
  where
    positive : pos 0 ≤ℤ fine_units
    positive = omega (arith, ints)

-- ---- one corner

module _ (n : Vector) (p : Point) (weight : pos 0 <ℤ p.w) (fine : Vector) (is : IsFineOf p fine) (slack : ℤ) (size : HasSize n slack) (reach : Reach) (around : LiesAround (dot n fine) slack reach) where
  along_within : IsWithin ((fine_units *ℤ part_along n p) -ℤ (dot n fine *ℤ p.w)) (slack *ℤ p.w)
  along_within =
      subst (λ (z : ℤ). IsWithin z (slack *ℤ p.w)) (rest_along n fine p)
      (dot_within n slack _ _ _ p.w size (rest_within p.x p.w fine.x weight is.of_x) (rest_within p.y p.w fine.y weight is.of_y) (rest_within p.z p.w fine.z weight is.of_z))

  value_is : (d : ℤ) → value (at_distance n d) p ≡ part_along n p -ℤ (d *ℤ p.w)
  unfolding value part_along
  value_is d = refl

  pub low_is : (d : ℤ) → IsNotInFront (at_distance n d) p → reach.low ≤ℤ (fine_units *ℤ d)
  low_is d not =
      let e = value_is d in let a = along_within in let l = a.low in let r = around.low in
      let f = -ℤ-*ℤ (dot n fine) slack p.w in let g = fine_times d p.w in
      let h = *ℤ_comm p.w (dot n fine -ℤ slack) in let i = *ℤ_comm p.w (fine_units *ℤ d) in
      let m = fine_at_most (part_along n p) (d *ℤ p.w) (omega (arith, linear)) in
      subst (λ (z : ℤ). z ≤ℤ (fine_units *ℤ d)) (sym r)
      (cancel_at_most p.w (dot n fine -ℤ slack) (fine_units *ℤ d) weight (omega (arith, linear)))

  pub high_is : (d : ℤ) → IsNotBehind (at_distance n d) p → (fine_units *ℤ d) ≤ℤ reach.high
  high_is d not =
      let e = value_is d in let a = along_within in let l = a.high in let r = around.high in
      let f = +ℤ-*ℤ (dot n fine) slack p.w in let g = fine_times d p.w in
      let h = *ℤ_comm p.w (dot n fine +ℤ slack) in let i = *ℤ_comm p.w (fine_units *ℤ d) in
      let m = fine_at_most (d *ℤ p.w) (part_along n p) (omega (arith, linear)) in
      subst (λ (z : ℤ). (fine_units *ℤ d) ≤ℤ z) (sym r)
      (cancel_at_most p.w (fine_units *ℤ d) (dot n fine +ℤ slack) weight (omega (arith, linear)))

-- ---- all corners, one after another

pub fine_begins : (v : Winding) (n : Vector) (i : ℕ) → i < length v.edges → pos 0 <ℤ (corner_at v i).w → (fine : Vector) → IsFineOf (corner_at v i) fine → (slack : ℤ) → HasSize n slack → (reach : Reach) → LiesAround (dot n fine) slack reach → IsFineReach v n reach
fine_begins v n i within weight fine is slack size reach around = record {
  low = λ d none. low_is n (corner_at v i) weight fine is slack size reach around d (none i within);
  high = λ d none. high_is n (corner_at v i) weight fine is slack size reach around d (none i within);
}

max_at_most : (a b c d : ℤ) → c ≡ int_max a b → a ≤ℤ d → b ≤ℤ d → c ≤ℤ d
max_at_most a b c d is h k = omega (arith, ints, clamps)

min_at_least : (a b c d : ℤ) → c ≡ int_min a b → d ≤ℤ a → d ≤ℤ b → d ≤ℤ c
min_at_least a b c d is h k = omega (arith, ints, clamps)

pub fine_both : (v : Winding) (n : Vector) (one two both : Reach) → IsFineReach v n one → IsFineReach v n two → both.low ≡ int_max one.low two.low → both.high ≡ int_min one.high two.high → IsFineReach v n both
fine_both v n one two both of_one of_two low high = record {
  low = λ d none. max_at_most one.low two.low both.low (fine_units *ℤ d) low (of_one.low d none) (of_two.low d none);
  high = λ d none. min_at_least one.high two.high both.high (fine_units *ℤ d) high (of_one.high d none) (of_two.high d none);
}

-- ---- both windings

fine_apart : (s p : Winding) (n : Vector) (one other : Reach) → IsFineReach s n one → IsFineReach p n other → other.high <ℤ one.low → PartsNowhere s p n
fine_apart s p n one other of_one of_other less = λ d front behind.
    let l = of_one.low d front in let h = of_other.high d behind in absurd (omega (arith, linear))

-- a side that the look leaves out, or the list
pub first_side : {P Q : Type 0} (look first : Bool) → (look ≡ false → P) → (first ≡ false → (look ≡ false) ⊎ Q) → first ≡ false → P ⊎ Q
first_side look first asked listed not = ⊎_elim (λ no. inl (asked no)) (λ among. inr among) (listed not)

-- a side that the look leaves out, the list, or then the reaches
pub told_side : {Q : Type 0} (s p : Winding) (n : Vector) (one other : Reach) → IsFineReach s n one → IsFineReach p n other → (look first told : Bool) →
    (look ≡ false → PartsNowhere s p n) → (first ≡ false → (look ≡ false) ⊎ Q) → (told ≡ false → (first ≡ false) ⊎ (other.high <ℤ one.low)) → told ≡ false → PartsNowhere s p n ⊎ Q
told_side s p n one other of_one of_other look first told asked listed refused not = ⊎_elim
    (λ before. first_side look first asked listed before)
    (λ less. inl (fine_apart s p n one other of_one of_other less))
    (refused not)
