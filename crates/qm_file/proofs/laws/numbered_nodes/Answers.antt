use Rattle.qm_formats.specs.FileLayout.{are_numbered, numbered_answer}
use Rattle.qm_file.proofs.laws.numbered_nodes.Goals as goal

pub returns : goal.returns
unfolding are_numbered
returns c = λ nodes leaves long. (numbered_answer nodes).1 leaves long
