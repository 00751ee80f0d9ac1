use Rattle.std.proofs.Common.{◌≡◌, ◌+◌, drop}
use Rattle.qm_formats.specs.Fields.{first_difference}
use Rattle.qm_file.proofs.header_reading.same_bytes.Given as goal

-- so many bytes are the same, and the first difference lies behind them
abbrev pub invariant-loop-i : goal.invariant-loop-i
invariant-loop-i l = first_difference l.expected l.found ≡ l.i + first_difference (drop l.i l.expected) (drop l.i l.found)
