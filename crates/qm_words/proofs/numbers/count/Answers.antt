use Rattle.std.proofs.Common.{◌≡◌, ◌∙◌, arith, sym}
use Rattle.std.proofs.lemmas.Fmt.{decimal_injective}
use Rattle.qm_words.proofs.numbers.count.Goals.{else-n-ge1-via-then-n-ge1+else-n-le-GREATEST_COUNT, else-n-ge1-via-else-n-ge1}
use Rattle.qm_words.proofs.numbers.count.Goals as goal

pub returns-else-n-ge1-clause-none : goal.returns-else-n-ge1-clause-none
returns-else-n-ge1-clause-none c = λ n is.
    let some = c.in-Some.ensures.some in
    let same : c.in-Some.n ≡ n = decimal_injective c.in-Some.n n some.1 (omega (arith, is.2)) (sym some.0 ∙ is.0) in
    elim c.else-n-ge1.branch [
      | else-n-ge1-via-then-n-ge1+else-n-le-GREATEST_COUNT w ↦ absurd (omega (arith, same, is.1, is.2, w.if-n-le-GREATEST_COUNT.false))
      | else-n-ge1-via-else-n-ge1 w ↦ absurd (omega (arith, same, is.1, is.2, w.if-n-ge1.false))
    ]
