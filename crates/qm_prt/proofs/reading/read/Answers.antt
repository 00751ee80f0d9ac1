use Rattle.std.proofs.Common.{arith}
use Rattle.qm_prt.proofs.Answered.{answer_found, answer_only}
use Rattle.qm_prt.proofs.reading.read.Goals as goal

pub returns-clause-found : goal.returns-clause-found
returns-clause-found c = answer_found c.args.text.now _ (λ i. omega (arith, c.type_inv.text i)) c.whole_listing.ensures

pub returns-clause-only : goal.returns-clause-only
returns-clause-only c = answer_only c.args.text.now _ c.whole_listing.ensures
