use Rattle.qm_grammar.specs.inner.Machine.{meaning_of}
use Rattle.qm_grammar.proofs.Meanings.{means_meaning}
use Rattle.qm_map.proofs.laws.each_text_means.Goals as goal

pub returns : goal.returns
returns c = λ text. (meaning_of text, means_meaning text)
