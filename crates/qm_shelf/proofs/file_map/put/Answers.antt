use Rattle.std.proofs.Common.{arith}
use Rattle.std.proofs.lemmas.Map.Text.{text_keys}
use Rattle.qm_shelf.proofs.file_map.put.Goals as goal

pub returns-clause-others_stay : goal.returns-clause-others_stay
returns-clause-others_stay c = λ other apart. grind (arith, text_keys)
