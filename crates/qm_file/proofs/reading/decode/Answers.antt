use Rattle.std.proofs.Common.{arith}
use Rattle.qm_file.proofs.Answered.{answer_found, answer_only}
use Rattle.qm_file.proofs.reading.decode.Goals as goal

pub returns-clause-found : goal.returns-clause-found
returns-clause-found c = answer_found c.args.bytes.now _ (λ i. omega (arith, c.type_inv.bytes i)) c.whole_file.ensures

pub returns-clause-only : goal.returns-clause-only
returns-clause-only c = answer_only c.args.bytes.now _ c.whole_file.ensures
