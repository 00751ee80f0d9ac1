use Rattle.qm_words.specs.inner.CompileWord.{IsCompileWord}
use Rattle.qm_words.proofs.SingleWords.{SameFrom}
use Rattle.qm_words.proofs.spelling.are_compile_words.Given as goal

abbrev pub invariant-loop-word : goal.invariant-loop-word
invariant-loop-word l = SameFrom IsCompileWord l.words l.word-index
