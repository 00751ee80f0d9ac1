use Rattle.std.proofs.Common.{arith}
use Rattle.qm_listing.proofs.WholeListings.{read_listing_ends}
use Rattle.qm_prt.proofs.reading.whole_listing.Goals as goal

pub returns : goal.returns
returns c = read_listing_ends c.args.text.now _ _ (λ i. omega (arith, c.type_inv.text i)) c.in_ok-listing.ensures c.if-next-text.false
