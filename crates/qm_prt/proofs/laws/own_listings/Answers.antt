use Rattle.qm_listing.proofs.WorldListings.{world_listing_stands}
use Rattle.qm_prt.proofs.laws.own_listings.Goals as goal

pub returns : goal.returns
returns c = world_listing_stands
