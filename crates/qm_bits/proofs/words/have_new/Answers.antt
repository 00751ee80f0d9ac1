use Rattle.std.proofs.Common.{get_or, w64, refl, arith}
use Rattle.std.proofs.Math.Facts.{Fits-lt-pow}
use Rattle.std.specs.Int.Bits.{and_lt}
use Rattle.std.specs.Int.{bit_not}
use Rattle.qm_bits.proofs.News.{new_bit, nothing_new}
use Rattle.qm_bits.proofs.words.have_new.Goals as goal

pub returns-then-words-i-ne0 : goal.returns-then-words-i-ne0
returns-then-words-i-ne0 c = (
  λ is. new_bit c.args.words.now c.args.seen.now c.loop-i.i (Fits-lt-pow (c.type_inv.seen c.loop-i.i)) (and_lt 64 (get_or c.args.words.now c.loop-i.i 0) (bit_not w64 (get_or c.args.seen.now c.loop-i.i 0)) (Fits-lt-pow (c.type_inv.words c.loop-i.i)) (omega arith)) (omega (arith, c.if-words-i-ne0.true)),
  λ new. refl,
)

pub returns : goal.returns
returns c = (
  λ is. absurd cc,
  λ new. absurd (nothing_new c.args.words.now c.args.seen.now (λ k. Fits-lt-pow (c.type_inv.seen k)) (λ k within. c.loop-i.invariant k (omega (arith, within, c.loop-i-test.false))) new),
)
