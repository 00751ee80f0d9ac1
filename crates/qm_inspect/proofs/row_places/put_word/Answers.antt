use Rattle.std.proofs.Common.{◌≡◌, ◌++◌, ◌*◌, ℕ, ap, ◌∙◌, arith, string_bytes}
use Rattle.qm_inspect.specs.inner.RunWords.{run_words}
use Rattle.qm_inspect.proofs.SetPlaces.{begun, next_bit, no_bit}
use Rattle.qm_inspect.proofs.row_places.put_word.Goals as goal

pub loop-bit-init : goal.loop-bit-init
loop-bit-init c = begun _ _ _

pub loop-bit-preserved : goal.loop-bit-preserved
loop-bit-preserved c =
    next_bit (string_bytes c.args.text.now) (string_bytes c.loop-bit.text) (string_bytes c.put_bit.new.text) c.args.row.now c.args.k c.word-word.result c.loop-bit.bit c.has_bit.result
    c.word-word.ensures c.loop-bit-test.true c.has_bit.ensures c.loop-bit.invariant c.in_ok-put_bit.ensures

pub returns-then-word-eq0 : goal.returns-then-word-eq0
returns-then-word-eq0 c = no_bit (string_bytes c.args.text.now) c.args.row.now c.args.k c.word-word.result c.word-word.ensures c.if-word-eq0.true

pub returns : goal.returns
returns c =
    let all : c.loop-bit.bit ≡ 64 = omega (arith, c.loop-bit-test.false, c.loop-bit.auto.bit-end) in
    c.loop-bit.invariant ∙ ap (λ (n : ℕ). string_bytes c.args.text.now ++ run_words c.args.row.now (64 * c.args.k) n) all
