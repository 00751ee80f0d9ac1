use Rattle.std.proofs.Common.{take}
use Rattle.qm_commands.specs.QueryWord.{AreQueryWords}
use Rattle.qm_words.specs.SeenWords.{bytes_of_words}
use Rattle.qm_words.proofs.queries.queries_of.Given as goal

abbrev pub invariant-loop-word : goal.invariant-loop-word
invariant-loop-word l = AreQueryWords (bytes_of_words (take l.word-index l.words)) l.queries.items
