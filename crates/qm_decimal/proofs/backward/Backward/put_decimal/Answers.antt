use Rattle.std.proofs.Common.{◌≡◌, ◌+◌, ◌/◌, ◌%◌, ℕ, List, [], ◌++◌, length, decimal, sym, ◌∙◌, ap, arith}
use Rattle.std.proofs.lemmas.List.{length-append}
use Rattle.qm_numerals.proofs.Printing.{decimal_put, decimal_last, decimal_short, room_left}
use Rattle.qm_decimal.proofs.backward.Backward.put_decimal.Goals as goal

pub put-requires : goal.put-requires
put-requires c =
    let n = c.loop-n.n in
    room_left n c.args.n (48 + n % 10) c.loop-n.self (decimal (n / 10)) c.args.self.now c.requires.small c.requires.short c.loop-n.invariant.0 (decimal_put n c.loop-n.self c.loop-n-test.true c.loop-n.invariant.1)

pub loop-n-preserved : goal.loop-n-preserved
loop-n-preserved c =
    let n = c.loop-n.n in
    let step = decimal_put n c.loop-n.self c.loop-n-test.true c.loop-n.invariant.1 in
    (ap (λ (t : List ℕ). decimal (n / 10) ++ t) c.put.ensures ∙ (sym step ∙ c.loop-n.invariant.0), let small = c.loop-n.invariant.1 in omega arith)

pub put-requires-2 : goal.put-requires-2
put-requires-2 c =
    let n = c.loop-n.n in
    room_left n c.args.n (48 + n) c.loop-n.self [] c.args.self.now c.requires.small c.requires.short c.loop-n.invariant.0 (decimal_last n c.loop-n.self c.loop-n-test.false)

pub returns-clause-text : goal.returns-clause-text
returns-clause-text c = c.put-2.ensures ∙ (sym (decimal_last c.loop-n.n c.loop-n.self c.loop-n-test.false) ∙ c.loop-n.invariant.0)

pub returns-clause-len : goal.returns-clause-len
returns-clause-len c =
    let text = returns-clause-text c in
    let size : length c.put-2.new.self ≡ length (decimal c.args.n ++ c.args.self.now) = ap length text in
    let short = decimal_short c.args.n c.requires.small in
    omega (arith, length-append (decimal c.args.n) c.args.self.now)
