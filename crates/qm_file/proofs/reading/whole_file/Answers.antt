use Rattle.std.proofs.Common.{arith}
use Rattle.qm_formats.proofs.WholeFile.{read_file_ends}
use Rattle.qm_file.proofs.reading.whole_file.Goals as goal

pub returns : goal.returns
returns c = read_file_ends c.args.bytes.now _ _ (λ i. omega (arith, c.type_inv.bytes i)) c.in_ok-file.ensures c.if-bytes-gt-FILE_LIMIT.false c.if-next-bytes.false
