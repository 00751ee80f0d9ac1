use Rattle.std.proofs.Common.{arith}
use Rattle.qm_model_file.proofs.Answered.{models_found, models_only}
use Rattle.qm_model_file.proofs.reading.decode_models.Goals as goal

pub returns-clause-found : goal.returns-clause-found
returns-clause-found c = models_found c.args.bound c.args.numbered c.args.bytes.now (λ i. omega (arith, c.type_inv.bytes i)) _ c.whole_section.ensures

pub returns-clause-only : goal.returns-clause-only
returns-clause-only c = models_only c.args.bound c.args.numbered c.args.bytes.now (λ i. omega (arith, c.type_inv.bytes i)) _ c.whole_section.ensures
