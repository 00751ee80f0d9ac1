use Rattle.std.proofs.Common.{◌≡◌, ◌∙◌, arith, sym}
use Rattle.std.proofs.lemmas.Fmt.{decimal_injective}
use Rattle.qm_words.proofs.queries.short_number.Goals as goal

pub returns-else-n-lt-SHORT_NUMBERS-clause-none : goal.returns-else-n-lt-SHORT_NUMBERS-clause-none
returns-else-n-lt-SHORT_NUMBERS-clause-none c = λ n small is.
    let some = c.in_ok-n.ensures.some in
    let same : c.in_ok-n.n ≡ n = decimal_injective c.in_ok-n.n n some.1 (omega (arith, small)) (sym some.0 ∙ is) in
    absurd (omega (arith, same, small, c.if-n-lt-SHORT_NUMBERS.false))
