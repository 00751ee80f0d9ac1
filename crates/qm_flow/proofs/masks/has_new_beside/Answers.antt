use Rattle.std.proofs.Common.{◌≡◌, true, false, set, refl, arith}
use Rattle.qm_chains.proofs.Words.{shows_none_new, shows_nothing}
use Rattle.qm_flow.proofs.NewWords.{new_in_word, none_new}
use Rattle.qm_flow.proofs.masks.has_new_beside.Goals as goal

pub loop-k-preserved : goal.loop-k-preserved
loop-k-preserved c =
    let small = c.word_with.type_inv in
    shows_none_new (λ n. Unit {0}) c.args.mask.now (set c.args.found.now c.args.leaf true) c.loop-k.k c.word.result c.word_with.result c.loop-k.invariant c.word.ensures c.word_with.ensures (omega (arith, small)) c.if-word-word_with-ne0.false

pub returns-then-word-word_with-ne0 : goal.returns-then-word-word_with-ne0
returns-then-word-word_with-ne0 c =
    let mask_small = c.word.type_inv in
    let small = c.word_with.type_inv in (
      λ is. new_in_word c.args.mask.now (set c.args.found.now c.args.leaf true) c.loop-k.k c.word.result c.word_with.result c.word.ensures c.word_with.ensures (omega (arith, mask_small)) (omega (arith, small)) c.if-word-word_with-ne0.true,
      λ new. refl,
    )

pub returns : goal.returns
returns c =
    let end = c.loop-k-test.false in
    let words = c.div_ceil-k-end.ensures in
    let long = c.len.ensures in (
      λ is. absurd (let never : false ≡ true = is in cc),
      λ new. absurd (none_new c.args.mask.now (set c.args.found.now c.args.leaf true) (shows_nothing (λ n. Unit {0}) c.args.mask.now (set c.args.found.now c.args.leaf true) c.loop-k.k (omega (arith, end, words, long)) c.loop-k.invariant) new),
    )
