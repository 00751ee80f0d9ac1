use Rattle.qm_lines.proofs.Values.{three_coordinates}
use Rattle.qm_lines.proofs.aiming.beyond.Goals as goal

pub returns : goal.returns
returns c = three_coordinates c.further.result c.further-2.result c.further-3.result c.further.ensures c.further-2.ensures c.further-3.ensures
