use Rattle.std.proofs.Common.{arith}
use Rattle.qm_formats.proofs.ReadParts.{read_runs-due}
use Rattle.qm_runs.proofs.reading.decode_into.Goals as goal

pub loop-rest-init : goal.loop-rest-init
loop-rest-init c =
    rw c.clear.ensures.items (record { whole = read_runs-due c.args.width c.args.bytes.now; fits = omega arith; there = omega arith })
