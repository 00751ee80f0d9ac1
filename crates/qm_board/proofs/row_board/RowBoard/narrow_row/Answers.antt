use Rattle.std.proofs.Common.{refl}
use Rattle.qm_board.specs.PassOf.{world_of, findings_of}
use Rattle.qm_board.proofs.PublishedRows.{no_words, one_word_more, word_has_all}
use Rattle.qm_board.proofs.row_board.RowBoard.narrow_row.Goals as goal

pub loop-k-init : goal.loop-k-init
loop-k-init c = record { pass = c.requires.pass; narrowed = no_words c.args.portal c.args.row.now (findings_of c.args.pass.now) }

pub narrow_word-requires-clause-sound : goal.narrow_word-requires-clause-sound
narrow_word-requires-clause-sound c = word_has_all (world_of c.args.self.now) c.args.portal c.loop-k.k c.word-word.result c.args.row.now c.requires.sound c.word-word.ensures

pub loop-k-preserved : goal.loop-k-preserved
loop-k-preserved c = record {
  pass = c.narrow_word.ensures.pass;
  narrowed = one_word_more c.args.portal c.args.row.now c.loop-k.k c.word-word.result _ _ _ _ c.loop-k.invariant.narrowed c.word-word.ensures c.narrow_word.ensures.narrowed refl;
}
