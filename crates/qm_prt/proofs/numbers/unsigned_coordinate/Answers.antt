use Rattle.std.proofs.Common.{sym}
use Rattle.qm_listing.proofs.ExactNumbers.{count_found}
use Rattle.qm_prt.proofs.numbers.unsigned_coordinate.Goals as goal

pub coordinate_of_parts-requires : goal.coordinate_of_parts-requires
coordinate_of_parts-requires c = (count_found _ c.in_ok-whole.whole (sym c.in_ok-whole.ensures)).small
