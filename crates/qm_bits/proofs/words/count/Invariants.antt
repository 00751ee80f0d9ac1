use Rattle.std.proofs.Common.{◌≡◌}
use Rattle.qm_bits.specs.inner.Words.{ones_of}
use Rattle.qm_bits.proofs.words.count.Given as goal

abbrev pub invariant-loop-word : goal.invariant-loop-word
invariant-loop-word l = l.count ≡ ones_of l.word-index l.words
