use Rattle.std.specs.Prelude.{ℕ, ◌-◌, ◌^◌, min, Bool, List, sum_by, count_by}

-- how many places are set in all rows, or the greatest number of 64 bits where there are more
unfoldable pub seen_of : List (List Bool) → ℕ
seen_of rows = min (sum_by (count_by (λ set. set)) rows) (2 ^ 64 - 1)
