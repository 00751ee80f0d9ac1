use Rattle.std.proofs.Common.{◌≡◌, take}
use Rattle.qm_coarse_rows.specs.Seen.{seen_of}
use Rattle.qm_rows.proofs.total.seen.Given as goal

-- the places of the rows so far
abbrev pub invariant-loop-row : goal.invariant-loop-row
invariant-loop-row l = l.seen ≡ seen_of (take l.row-index l.rows)
