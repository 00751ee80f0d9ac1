use Rattle.std.proofs.Common.{bit_and}
use Rattle.qm_bits.specs.inner.Words.{IsOfBothBelow}
use Rattle.qm_bits.proofs.words.keep_all.Given as goal

abbrev pub invariant-loop-i : goal.invariant-loop-i
invariant-loop-i l = IsOfBothBelow bit_and l.i l.fn.words l.other l.words
