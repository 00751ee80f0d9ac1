use Rattle.std.proofs.Common.{◌≡◌, ◌+◌, take, min}
use Rattle.std.specs.Str.Parse.{digits_value, AllDigits}
use Rattle.qm_numerals.specs.Answer.{limit}
use Rattle.qm_decimal.proofs.whole.more_digits.Given as goal

abbrev pub invariant-loop-count : goal.invariant-loop-count
invariant-loop-count l =
    AllDigits 10 (take l.count l.text) × (l.value ≡ min (limit + 1) (digits_value 10 (take l.count l.text)))
