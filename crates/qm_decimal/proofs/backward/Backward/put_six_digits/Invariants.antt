use Rattle.std.proofs.Common.{◌≡◌, ◌+◌, ◌-◌, ◌++◌, length}
use Rattle.qm_numerals.specs.Printed.{last_digits}
use Rattle.qm_decimal.proofs.backward.Backward.put_six_digits.Given as goal

abbrev pub invariant-loop : goal.invariant-loop
invariant-loop l = (last_digits (6 - l.counter) l.n ++ l.self ≡ last_digits 6 l.fn.n ++ l.fn.self)
    × (length l.self ≡ length l.fn.self + l.counter)
