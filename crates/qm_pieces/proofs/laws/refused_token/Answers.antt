use Rattle.qm_pieces.proofs.CertainLaws.{refused_is_certain}
use Rattle.qm_pieces.proofs.laws.refused_token.Goals as goal

pub returns : goal.returns
returns c = refused_is_certain
