use Rattle.std.proofs.Common.{sym}
use Rattle.qm_formats.proofs.RightParts.{reduced_plane}
use Rattle.qm_file.proofs.record_reading.PlaneRecordRecord.read_at.Goals as goal

pub invariant_of-result : goal.invariant_of-result
invariant_of-result c = (reduced_plane _ (sym c.if-not-is_plane.ensures)).0
