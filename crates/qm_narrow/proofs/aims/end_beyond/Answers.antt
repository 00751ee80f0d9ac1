use Rattle.qm_narrow.proofs.Coordinates.{three_coordinates}
use Rattle.qm_narrow.proofs.aims.end_beyond.Goals as goal

pub returns : goal.returns
returns c = three_coordinates c.beyond.result c.beyond-2.result c.beyond-3.result c.beyond.ensures c.beyond-2.ensures c.beyond-3.ensures
