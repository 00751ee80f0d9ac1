use Rattle.std.specs.Prelude.{ℤ}
use Rattle.std.specs.Int.{int_div_euclid}

-- the greatest whole number that is at most a / b, for b above 0
unfoldable pub floor_div : ℤ → ℤ → ℤ
floor_div a b = int_div_euclid a b
