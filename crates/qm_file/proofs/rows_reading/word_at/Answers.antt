use Rattle.std.proofs.Common.{arith}
use Rattle.qm_file.proofs.RowWords.{part_bytes}
use Rattle.qm_file.proofs.rows_reading.word_at.Goals as goal

pub returns : goal.returns
returns c = part_bytes c.args.packed.now c.args.k c.word_from.result (λ i. omega (arith, c.type_inv.packed i)) c.requires c.word_from.ensures
