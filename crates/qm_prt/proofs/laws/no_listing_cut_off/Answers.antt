use Rattle.qm_listing.proofs.CutListings.{listing_cut_off}
use Rattle.qm_prt.proofs.laws.no_listing_cut_off.Goals as goal

pub returns : goal.returns
returns c = listing_cut_off
