use Rattle.qm_pieces.proofs.CertainLaws.{long_is_certain}
use Rattle.qm_pieces.proofs.laws.long_text.Goals as goal

pub returns : goal.returns
returns c = long_is_certain
