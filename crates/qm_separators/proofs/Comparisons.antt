-- Products compared, and that a quotient rounded down is the only one.
use Rattle.std.proofs.Common.{◌≡◌, ℤ, pos, ◌+ℤ◌, ◌-ℤ◌, ◌*ℤ◌, neg_ℤ, ◌<ℤ◌, arith}
use Rattle.std.proofs.Math.IntN.{*ℤ_comm}
use Rattle.qm_numbers.specs.Rounding.{IsRoundedDown}
use Rattle.qm_numbers.proofs.IntegerProducts.{linear, *ℤ--ℤ, *ℤ-neg, neg-*ℤ}
use Rattle.qm_numbers.proofs.Signs.{product_positive, cancel_less}

pub neg-*ℤ-neg : (a b : ℤ) → neg_ℤ a *ℤ neg_ℤ b ≡ a *ℤ b
neg-*ℤ-neg a b = let one = neg-*ℤ a (neg_ℤ b) in let two = *ℤ-neg a b in omega (arith, linear)

pub times_less : (k a b : ℤ) → pos 0 <ℤ k → a <ℤ b → (k *ℤ a) <ℤ (k *ℤ b)
times_less k a b h l = let e = *ℤ--ℤ k b a in let p = product_positive k (b -ℤ a) h (omega (arith, linear)) in omega (arith, linear)

-- no other number is the quotient rounded down
pub one_floor : (a b p q : ℤ) → pos 0 <ℤ b → IsRoundedDown a b p → IsRoundedDown a b q → p ≡ q
one_floor a b p q h f g =
    let s = *ℤ_comm b p in let t = *ℤ_comm b q in
    let u = *ℤ_comm b (q +ℤ pos 1) in let w = *ℤ_comm b (p +ℤ pos 1) in
    let l = cancel_less b p (q +ℤ pos 1) h (let x = f.at_most in let y = g.next in omega (arith, linear)) in
    let m = cancel_less b q (p +ℤ pos 1) h (let x = g.at_most in let y = f.next in omega (arith, linear)) in
    omega (arith, linear)
