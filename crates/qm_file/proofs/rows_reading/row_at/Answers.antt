use Rattle.std.proofs.Common.{length, ap, ◌∙◌}
use Rattle.qm_formats.proofs.PackedRows.{length-unpacked}
use Rattle.qm_file.proofs.rows_reading.row_at.Goals as goal

pub returns-clause-places : goal.returns-clause-places
returns-clause-places c = ap length c.in_ok-row.ensures ∙ length-unpacked c.args.places _
