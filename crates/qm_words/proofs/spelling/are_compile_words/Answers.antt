use Rattle.std.proofs.Common.{List, [], ℕ, Bor, arith, refl}
use Rattle.qm_words.specs.inner.CompileWord.{IsCompileWord}
use Rattle.qm_words.proofs.SingleWords.{each_ends, each_goes, each_stops, none_true}
use Rattle.qm_words.proofs.spelling.are_compile_words.Goals as goal

abbrev nothing : Bor (List ℕ)
nothing = record { ref_ptr = (0, 0); now = [] }

pub returns-then-not-is_compile_word : goal.returns-then-not-is_compile_word
returns-then-not-is_compile_word c = (
  λ never. absurd cc,
  λ each. absurd (each_stops IsCompileWord c.args.words.now c.loop-word.word-index nothing c.loop-word-test.true c.loop-word.invariant (λ is. none_true c.is_compile_word.result c.if-not-is_compile_word.true (c.is_compile_word.ensures.1 is)) each),
)

pub loop-word-preserved : goal.loop-word-preserved
loop-word-preserved c = each_goes IsCompileWord c.args.words.now c.loop-word.word-index nothing c.loop-word-test.true c.loop-word.invariant (c.is_compile_word.ensures.0 c.if-not-is_compile_word.false)

pub returns : goal.returns
returns c = (λ always. each_ends IsCompileWord c.args.words.now c.loop-word.word-index nothing (omega (arith, c.loop-word-test.false)) c.loop-word.invariant, λ each. refl)
