use Rattle.qm_listing.proofs.WholeListings.{same_listing}
use Rattle.qm_prt.proofs.laws.one_listing.Goals as goal

pub returns : goal.returns
returns c = same_listing
