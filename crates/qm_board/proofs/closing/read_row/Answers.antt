use Rattle.std.proofs.Common.{length, refl}
use Rattle.std.specs.Mem.Slots.{slots_items}
use Rattle.qm_board.proofs.ReadRows.{word_found, word_read}
use Rattle.qm_board.proofs.closing.read_row.Goals as goal

pub loop-k-preserved : goal.loop-k-preserved
loop-k-preserved c =
    let words = slots_items c.args.closed.now.words in
    word_read words c.args.place (length c.args.full.now) c.loop-k.k _ c.word.result c.loop-k.row _ c.loop-k.invariant c.and_word.ensures (word_found words _ c.word.result c.word.ensures) refl
