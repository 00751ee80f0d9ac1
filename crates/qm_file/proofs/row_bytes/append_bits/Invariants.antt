use Rattle.std.proofs.Common.{◌≡◌, ◌++◌, map}
use Rattle.std.specs.List.{range_with_len}
use Rattle.qm_formats.specs.RowBits.{row_byte}
use Rattle.qm_file.proofs.row_bytes.append_bits.Given as goal

-- the first bytes of the row have come
abbrev pub invariant-loop-k : goal.invariant-loop-k
invariant-loop-k l = l.bytes.items ≡ l.fn.bytes.items ++ map (row_byte l.row) (range_with_len 0 l.k)
