use Rattle.std.proofs.Common.{◌≡◌, take}
use Rattle.std.specs.Str.Parse.{digits_value, AllDigits}
use Rattle.qm_decimal.proofs.decimals.few_digits.Given as goal

abbrev pub invariant-loop-byte : goal.invariant-loop-byte
invariant-loop-byte l =
    AllDigits 10 (take l.byte-index l.text) × (l.value ≡ digits_value 10 (take l.byte-index l.text))
