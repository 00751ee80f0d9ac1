use Rattle.std.specs.Prelude.{ℤ, pos, negsuc, Bool, true, false}

-- whether a number is below 0
abbrev pub is_negative : ℤ → Bool
is_negative (pos n) = false
is_negative (negsuc n) = true
