use Rattle.qm_pieces.proofs.FirstTokens.{token_ends_in}
use Rattle.qm_pieces.proofs.laws.first_token.Goals as goal

pub returns : goal.returns
returns c = λ offset line bytes token rest is within. token_ends_in bytes offset line token rest is within
