use Rattle.std.proofs.Common.{refl}
use Rattle.qm_board.proofs.GivenRows.{word_pushed}
use Rattle.qm_board.proofs.opening.push_row.Goals as goal

pub loop-k-preserved : goal.loop-k-preserved
loop-k-preserved c = word_pushed c.args.row.now c.loop-k.k _ c.word.result c.args.words.now.items c.loop-k.words.items _ c.loop-k.invariant c.word.ensures c.in_ok-push.ensures.items refl
