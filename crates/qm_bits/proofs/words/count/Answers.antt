use Rattle.std.proofs.Common.{◌+◌, length, sym, arith}
use Rattle.std.proofs.Math.Facts.{Fits-lt-pow, Fits-of_lt}
use Rattle.qm_bits.proofs.Counts.{no_ones, ones_of-next, ones_of-le}
use Rattle.qm_bits.proofs.words.count.Goals as goal

pub loop-word-init : goal.loop-word-init
loop-word-init c = sym (no_ones c.args.words.now)

pub overflow_add-count : goal.overflow_add-count
overflow_add-count c =
    let words = c.args.words.now in
    let next = ones_of-next words c.loop-word.word-index (Fits-lt-pow (c.type_inv.words c.loop-word.word-index)) in
    let most = ones_of-le words (c.loop-word.word-index + 1) (length words) (omega (arith, c.loop-word-test.true)) in
    Fits-of_lt (omega (arith, next, most, c.loop-word.invariant, c.requires))

pub loop-word-preserved : goal.loop-word-preserved
loop-word-preserved c =
    let next = ones_of-next c.args.words.now c.loop-word.word-index (Fits-lt-pow (c.type_inv.words c.loop-word.word-index)) in
    omega (arith, next, c.loop-word.invariant)
