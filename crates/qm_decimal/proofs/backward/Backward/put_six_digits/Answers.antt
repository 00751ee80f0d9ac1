use Rattle.std.proofs.Common.{◌≡◌, ◌+◌, ◌-◌, ◌/◌, ◌%◌, ℕ, List, ◌∷◌, ◌++◌, length, sym, ◌∙◌, ap, arith}
use Rattle.qm_numerals.specs.Printed.{last_digits}
use Rattle.qm_numerals.proofs.Printing.{six_step}
use Rattle.qm_decimal.proofs.backward.Backward.put_six_digits.Goals as goal

pub put-requires : goal.put-requires
put-requires c = let size = c.loop.invariant.1 in omega arith

pub loop-preserved : goal.loop-preserved
loop-preserved c =
    let step = six_step c.loop.counter c.loop.n c.loop.self c.loop-test.true in
    let size : length c.put.new.self ≡ length ((48 + c.loop.n % 10) ∷ c.loop.self) = ap length c.put.ensures in
    let before = c.loop.invariant.1 in
    (ap (λ (t : List ℕ). last_digits (6 - (c.loop.counter + 1)) (c.loop.n / 10) ++ t) c.put.ensures ∙ (sym step ∙ c.loop.invariant.0), omega arith)

pub returns : goal.returns
returns c =
    let none : 6 - c.loop.counter ≡ 0 = omega arith in
    sym (ap (λ (k : ℕ). last_digits k c.loop.n ++ c.loop.self) none) ∙ c.loop.invariant.0
