use Rattle.qm_commands.specs.FileNames.{IsFileName}
use Rattle.qm_words.proofs.SingleWords.{SameFrom}
use Rattle.qm_words.proofs.spelling.are_plain_words.Given as goal

abbrev pub invariant-loop-word : goal.invariant-loop-word
invariant-loop-word l = SameFrom IsFileName l.words l.word-index
