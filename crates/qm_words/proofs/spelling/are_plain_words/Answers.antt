use Rattle.std.proofs.Common.{List, [], ℕ, Bor, arith, refl}
use Rattle.qm_commands.specs.FileNames.{IsFileName}
use Rattle.qm_words.proofs.SingleWords.{each_ends, each_goes, each_stops, none_true}
use Rattle.qm_words.proofs.spelling.are_plain_words.Goals as goal

abbrev nothing : Bor (List ℕ)
nothing = record { ref_ptr = (0, 0); now = [] }

pub returns-then-not-is_file_name : goal.returns-then-not-is_file_name
returns-then-not-is_file_name c = (
  λ never. absurd cc,
  λ each. absurd (each_stops IsFileName c.args.words.now c.loop-word.word-index nothing c.loop-word-test.true c.loop-word.invariant (λ is. none_true c.is_file_name.result c.if-not-is_file_name.true (c.is_file_name.ensures.1 is)) each),
)

pub loop-word-preserved : goal.loop-word-preserved
loop-word-preserved c = each_goes IsFileName c.args.words.now c.loop-word.word-index nothing c.loop-word-test.true c.loop-word.invariant (c.is_file_name.ensures.0 c.if-not-is_file_name.false)

pub returns : goal.returns
returns c = (λ always. each_ends IsFileName c.args.words.now c.loop-word.word-index nothing (omega (arith, c.loop-word-test.false)) c.loop-word.invariant, λ each. refl)
