use Rattle.qm_grammar.proofs.Meanings.{one_meaning}
use Rattle.qm_map.proofs.laws.one_meaning.Goals as goal

pub returns : goal.returns
returns c = one_meaning
