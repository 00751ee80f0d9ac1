use Rattle.qm_bits.specs.inner.Words.{NoneIsUnseen}
use Rattle.qm_bits.proofs.words.have_new.Given as goal

abbrev pub invariant-loop-i : goal.invariant-loop-i
invariant-loop-i l = NoneIsUnseen l.i l.words l.seen
