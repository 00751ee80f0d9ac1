use Rattle.qm_grammar.proofs.CutTexts.{read_means, means_read}
use Rattle.qm_map.proofs.laws.cut_text_means.Goals as goal

pub returns : goal.returns
returns c = λ text meaning. (read_means text meaning, means_read text meaning)
