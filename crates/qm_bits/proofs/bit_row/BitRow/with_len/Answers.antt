use Rattle.std.proofs.Common.{◌≡◌, false, replicate}
use Rattle.std.proofs.Math.Facts.{Fits-lt-pow}
use Rattle.qm_bits.specs.inner.Rows.{row_of}
use Rattle.qm_bits.proofs.Changes.{zeros_row, zeros_clear}
use Rattle.qm_bits.proofs.bit_row.BitRow.with_len.Goals as goal

pub invariant_of-result : goal.invariant_of-result
invariant_of-result c =
    let zeros : c.in_ok-words.words.items ≡ replicate c.div_ceil.result 0 = c.in_ok-words.ensures.items_if_clones_equal (λ y is. is) in
    rw zeros (zeros_row c.div_ceil.result c.args.bits (Fits-lt-pow c.ranges.bits) c.div_ceil.ensures)

pub returns : goal.returns
returns c =
    let zeros : c.in_ok-words.words.items ≡ replicate c.div_ceil.result 0 = c.in_ok-words.ensures.items_if_clones_equal (λ y is. is) in
    let clear : row_of c.in_ok-words.words.items c.args.bits ≡ replicate c.args.bits false = rw zeros (zeros_clear c.div_ceil.result c.args.bits) in
    clear
