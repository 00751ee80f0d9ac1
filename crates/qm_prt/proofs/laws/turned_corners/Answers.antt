use Rattle.qm_listing.proofs.Turns.{listed_turn}
use Rattle.qm_prt.proofs.laws.turned_corners.Goals as goal

pub returns : goal.returns
returns c = listed_turn
