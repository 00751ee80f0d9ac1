use Rattle.std.proofs.Common.{sym, is_some, option_map}
use Rattle.clap.specs.Matches.{found_of}
use Rattle.clap.specs.Walk.{rows_of}
use Rattle.qm_words.proofs.CompileAnswers.{no_threads, not_different, order_is}
use Rattle.qm_words.proofs.SingleWords.{none_true, some_kept}
use Rattle.qm_words.proofs.compile.named_order.Goals as goal

pub returns-then-not-are_different : goal.returns-then-not-are_different
returns-then-not-are_different c =
    not_different (rows_of (found_of c.args.matches.now)) c.args.map.now c.args.out.now (option_map (λ name. name.now) c.found_text-prt.result) c.requires.0 c.requires.1 (sym c.found_text-prt.ensures)
    (λ different. none_true c.are_different.result c.if-not-are_different.true (c.are_different.ensures.1 different))

pub returns-in-None : goal.returns-in-None
returns-in-None c =
    no_threads (rows_of (found_of c.args.matches.now)) (option_map (λ text. text.now) c.found_text.result) (sym c.found_text.ensures) c.in-None.ensures.none

pub returns-in-Some : goal.returns-in-Some
returns-in-Some c =
    order_is (rows_of (found_of c.args.matches.now)) c.args.map.now c.args.out.now (option_map (λ name. name.now) c.found_text-prt.result) (option_map (λ text. text.now) c.found_text.result)
    (is_some c.found_text-prt.result) c.in-Some.threads c.has_flag.result c.has_flag-in-Some.result c.has_flag-in-Some-2.result c.has_flag-in-Some-3.result c.requires.0 c.requires.1 (sym c.found_text-prt.ensures) (sym c.found_text.ensures)
    (some_kept _ c.found_text-prt.result) c.in-Some.ensures.some c.has_flag.ensures c.has_flag-in-Some.ensures c.has_flag-in-Some-2.ensures c.has_flag-in-Some-3.ensures (c.are_different.ensures.0 c.if-not-are_different.false)
