use Rattle.std.proofs.Common.{Bool, List, subst, arith}
use Rattle.qm_sight.specs.WordInSight.{IsWordWithin}
use Rattle.qm_sight.proofs.RowsRead.{word_within, word_lacks_none}
use Rattle.qm_sight.proofs.rows.RowsRowSource.word.Goals as goal

pub word-requires : goal.word-requires
word-requires c = let w = c.row-row.ensures.wide in let r = c.requires.word_in_range in omega arith

pub returns-clause-within : goal.returns-clause-within
returns-clause-within c = subst (λ (row : List Bool). IsWordWithin row c.args.k c.word.result) c.row-row.ensures.value (word_within c.row-row.result.now c.args.k c.word.result c.word.ensures)

pub returns-clause-sound : goal.returns-clause-sound
returns-clause-sound c = word_lacks_none c.args.self.now.world c.args.portal c.args.k c.word.result c.row-row.result.now c.row-row.ensures.sound c.word.ensures
