use Rattle.qm_listing.proofs.RoundedCoordinates.{coordinate_printed}
use Rattle.qm_prt.proofs.laws.printed_coordinates.Goals as goal

pub returns : goal.returns
returns c = coordinate_printed
