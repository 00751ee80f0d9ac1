use Rattle.std.proofs.Common.{refl}
use Rattle.qm_commands.specs.CompileRequest.{listing_option, threads_option}
use Rattle.qm_words.proofs.SingleWords.{flag_word, no_compile_word, none_true, true_unless, valued_word}
use Rattle.qm_words.proofs.spelling.is_compile_word.Goals as goal

pub returns-then-is_flag : goal.returns-then-is_flag
returns-then-is_flag c = (λ always. flag_word c.args.word.now (c.is_flag.ensures.0 c.if-is_flag.true), λ is. refl)

pub returns-then-is_valued : goal.returns-then-is_valued
returns-then-is_valued c = (λ always. valued_word listing_option c.args.word.now (c.is_valued.ensures.0 c.if-is_valued.true), λ is. refl)

pub returns : goal.returns
returns c = (
  λ valued. valued_word threads_option c.args.word.now (c.is_valued-2.ensures.0 valued),
  λ is. true_unless c.is_valued-2.result (λ off.
      no_compile_word c.args.word.now
      (λ name. none_true c.is_file_name.result c.if-is_file_name.false (c.is_file_name.ensures.1 name))
      (λ flag. none_true c.is_flag.result c.if-is_flag.false (c.is_flag.ensures.1 flag))
      (λ listing. none_true c.is_valued.result c.if-is_valued.false (c.is_valued.ensures.1 listing))
      (λ threads. none_true c.is_valued-2.result off (c.is_valued-2.ensures.1 threads))
      is),
)
