use Rattle.std.proofs.Common.{arith}
use Rattle.qm_words.proofs.QueryAnswers.{comma_none, comma_some}
use Rattle.qm_words.proofs.places.at_comma.Goals as goal

pub returns-clause-some : goal.returns-clause-some
returns-clause-some c = comma_some c.args.text.now c.split_once.result (c.split_once.ensures.byte (omega arith) (λ w o found. found))

pub returns-clause-none : goal.returns-clause-none
returns-clause-none c = comma_none c.args.text.now c.split_once.result (c.split_once.ensures.byte (omega arith) (λ w o found. found))
