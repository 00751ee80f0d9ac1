use Rattle.qm_listing.proofs.ExactListings.{listing_exact}
use Rattle.qm_prt.proofs.laws.exact_layout.Goals as goal

pub returns : goal.returns
returns c = listing_exact
