use Rattle.qm_numerals.proofs.Thousandths.{whole_number_text}
use Rattle.qm_mapout.proofs.laws.whole_coordinates.Goals as goal

pub returns : goal.returns
returns c = whole_number_text
