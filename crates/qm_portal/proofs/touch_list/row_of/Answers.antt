use Rattle.std.proofs.Common.{false, arith}
use Rattle.std.proofs.lemmas.List.{ext_get_or}
use Rattle.qm_portal.proofs.touch_list.row_of.Goals as goal

pub returns : goal.returns
returns c = ext_get_or false c.loop-i.row c.args.values.now c.loop-i.invariant.same_length (λ k within. c.loop-i.invariant.done k (omega (arith, within, c.loop-i.invariant.same_length, c.loop-i-test.false)))
