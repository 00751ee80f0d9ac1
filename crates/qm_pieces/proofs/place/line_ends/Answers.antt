use Rattle.std.proofs.Common.{arith}
use Rattle.qm_pieces.proofs.LineEnds.{line_ends_further}
use Rattle.qm_pieces.proofs.place.line_ends.Goals as goal

pub loop-counted-preserved : goal.loop-counted-preserved
loop-counted-preserved c =
    let loop = c.loop-counted in
    let further = line_ends_further c.args.bytes.now loop.counted c.min-end.result (omega arith) in
    record {
      within = omega arith;
      value = omega (arith, further, loop.invariant.value, c.line_ends_of_run.ensures);
    }
