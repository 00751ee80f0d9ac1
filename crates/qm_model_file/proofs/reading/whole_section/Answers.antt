use Rattle.std.proofs.Common.{arith}
use Rattle.qm_model_layout.proofs.WholeSections.{read_models_ends}
use Rattle.qm_model_file.proofs.reading.whole_section.Goals as goal

pub returns : goal.returns
returns c = rw c.from_vec.ensures (read_models_ends c.args.bound c.args.numbered c.args.bytes.now c.in_ok-models.models.items c.in_ok-models.next (λ i. omega (arith, c.type_inv.bytes i)) c.in_ok-models.ensures c.if-next-bytes.false)
