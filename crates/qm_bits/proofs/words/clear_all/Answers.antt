use Rattle.std.proofs.Common.{◌<◌, ◌≢◌, length, arith, get_or-set_other, get_or-set_same, below_more}
use Rattle.qm_bits.proofs.words.clear_all.Goals as goal

pub loop-word-preserved : goal.loop-word-preserved
loop-word-preserved c =
    below_more _ _
    (λ k h. let ne : k ≢ c.loop-word.word-index = omega arith in rw get_or-set_other (c.loop-word.invariant k h))
    (let lt : c.loop-word.word-index < length c.loop-word.words = omega arith in rw get_or-set_same)
