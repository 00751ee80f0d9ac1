use Rattle.std.proofs.Common.{arith}
use Rattle.qm_sections.proofs.section_of_bytes.section_of_bytes.Goals as goal

pub returns-clause-length_fits : goal.returns-clause-length_fits
returns-clause-length_fits c = let counted = c.args.bytes.ok.0 in let small = c.args.bytes.small in omega (arith, counted, small)
