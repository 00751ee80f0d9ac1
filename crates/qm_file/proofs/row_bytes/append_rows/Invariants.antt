use Rattle.std.proofs.Common.{◌≡◌, ◌++◌, List, Bool, take}
use Rattle.std.specs.List.{flat_map}
use Rattle.qm_formats.specs.RowBits.{packed}
use Rattle.qm_lists.specs.Spelling.{runs_of}
use Rattle.qm_file.proofs.row_bytes.append_rows.Given as goal

-- the first rows are written
abbrev pub invariant-loop-row : goal.invariant-loop-row
invariant-loop-row l = l.bytes.items ≡ l.fn.bytes.items ++ flat_map (λ (row : List Bool). runs_of (packed row)) (take l.row-index l.rows)
