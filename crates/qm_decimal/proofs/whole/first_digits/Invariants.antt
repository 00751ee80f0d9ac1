use Rattle.std.proofs.Common.{◌≡◌, take}
use Rattle.std.specs.Str.Parse.{digits_value, AllDigits}
use Rattle.qm_decimal.proofs.whole.first_digits.Given as goal

abbrev pub invariant-loop-count : goal.invariant-loop-count
invariant-loop-count l =
    AllDigits 10 (take l.count l.text) × (l.value ≡ digits_value 10 (take l.count l.text))
