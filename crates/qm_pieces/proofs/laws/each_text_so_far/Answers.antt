use Rattle.qm_pieces.proofs.CertainLaws.{each_text_lexed}
use Rattle.qm_pieces.proofs.laws.each_text_so_far.Goals as goal

pub returns : goal.returns
returns c = each_text_lexed
