use Rattle.std.proofs.Common.{◌/◌, ◌%◌, get_or}
use Rattle.qm_formats.specs.RowBits.{is_clear_past}
use Rattle.qm_file.proofs.Unpacking.{shifted_out}
use Rattle.qm_file.proofs.rows_reading.is_clear_past.Goals as goal

pub returns : goal.returns
unfolding is_clear_past
returns c = shifted_out (get_or c.args.packed.now (c.args.places / 8) 0) (c.args.places % 8)
