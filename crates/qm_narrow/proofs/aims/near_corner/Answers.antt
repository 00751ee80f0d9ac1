use Rattle.qm_narrow.proofs.Coordinates.{three_coordinates}
use Rattle.qm_narrow.proofs.aims.near_corner.Goals as goal

pub returns : goal.returns
returns c = three_coordinates c.most_of_the_way.result c.most_of_the_way-2.result c.most_of_the_way-3.result c.most_of_the_way.ensures c.most_of_the_way-2.ensures c.most_of_the_way-3.ensures
