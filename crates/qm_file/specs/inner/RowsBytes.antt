use Rattle.std.specs.Prelude.{ℕ, Bool, List, [], Option, Some, None}
use Rattle.std.specs.List.{flat_map}
use Rattle.qm_formats.specs.RowBits.{packed}
use Rattle.qm_lists.specs.Spelling.{runs_of}

-- the rows one behind the other, each in runs, or nothing where there are none
abbrev pub rows_bytes : Option (List (List Bool)) → List ℕ
rows_bytes None = []
rows_bytes (Some rows) = flat_map (λ row. runs_of (packed row)) rows
