use Rattle.qm_narrow.proofs.Coordinates.{three_coordinates}
use Rattle.qm_narrow.proofs.aims.middle_of.Goals as goal

pub returns : goal.returns
returns c = three_coordinates c.middle.result c.middle-2.result c.middle-3.result c.middle.ensures c.middle-2.ensures c.middle-3.ensures
