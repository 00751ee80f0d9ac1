use Rattle.qm_pieces.proofs.EndedTokens.{given_are_ended}
use Rattle.qm_pieces.proofs.laws.ended_tokens.Goals as goal

pub returns : goal.returns
returns c = λ text given state lexed token. given_are_ended text given state lexed token
