use Rattle.std.proofs.Common.{◌≤◌, ℕ, ◌*◌, List, take, drop, ap, ◌∙◌, arith}
use Rattle.qm_file.proofs.Unpacking.{none_unpacked, word_unpacked, all_unpacked, unpacked-padded}
use Rattle.qm_file.proofs.rows_reading.unpacked.Goals as goal

pub loop-k-init : goal.loop-k-init
loop-k-init c = none_unpacked c.args.places c.resize.new.self.items c.copy_from.new.self (c.copy_from.ensures ∙ c.requires.full)

pub loop-k-preserved : goal.loop-k-preserved
loop-k-preserved c =
    word_unpacked c.args.places c.resize.new.self.items c.loop-k.row c.and_word.new.self c.loop-k.k c.word_at.result (c.word_at.ensures ∙ ap (λ (bytes : List ℕ). take 8 (drop (8 * c.loop-k.k) bytes)) c.deref.ensures.value) c.and_word.ensures c.loop-k.invariant

pub returns : goal.returns
returns c =
    let all : c.args.places ≤ 64 * c.loop-k.k = omega (arith, c.loop-k-test.false, c.div_ceil-k-end.ensures) in
    all_unpacked c.args.places c.resize.new.self.items c.loop-k.row c.loop-k.k c.loop-k.invariant all
    ∙ unpacked-padded c.args.places c.div_ceil.result c.args.packed.now.items c.resize.new.self.items _ c.requires.width c.div_ceil.ensures c.in_ok-resize.ensures.items
