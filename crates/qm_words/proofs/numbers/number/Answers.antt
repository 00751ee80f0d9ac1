use Rattle.std.proofs.Common.{◌∙◌, ap, sym}
use Rattle.std.specs.Fmt.{decimal}
use Rattle.std.proofs.lemmas.Fmt.{parse-decimal}
use Rattle.std.proofs.lemmas.Slice.Eq.{bytes_eq-Decides}
use Rattle.qm_words.proofs.SingleWords.{none_true, not_both, ok_once}
use Rattle.qm_words.proofs.numbers.number.Goals as goal

pub returns-else-eq-clause-none : goal.returns-else-eq-clause-none
returns-else-eq-clause-none c = λ n small is.
    let read = parse-decimal 64 n c.args.text.now c.parse.result small small is c.parse.ensures.value.0 in
    let same = ok_once c.parse.result c.in-Ok.n n c.in-Ok.is read in
    let text = c.format.ensures.text ∙ ap decimal same ∙ sym is in
    none_true c.eq.result c.if-eq.false (c.eq.ensures ∙ (bytes_eq-Decides c.format.result.now c.args.text.now).1 text)

pub returns-in-Err-clause-none : goal.returns-in-Err-clause-none
returns-in-Err-clause-none c = λ n small is.
    not_both c.parse.result n c.in-Err.field-0 (parse-decimal 64 n c.args.text.now c.parse.result small small is c.parse.ensures.value.0) c.in-Err.is
