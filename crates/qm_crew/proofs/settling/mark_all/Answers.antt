use Rattle.std.proofs.Common.{◌∙◌, inr, ⊎_elim, Bool, true, List, length, get_or, ap, subst, arith}
use Rattle.std.proofs.lemmas.List.{length-set}
use Rattle.qm_lists.specs.WorkList.{IsIn}
use Rattle.qm_crew.proofs.SettledPortals.{marked_more}
use Rattle.qm_crew.proofs.settling.mark_all.Goals as goal

pub loop-number-preserved : goal.loop-number-preserved
loop-number-preserved c =
    let row = c.loop-number.row in
    let list = c.args.list.now in
    let i = c.loop-number.number-index in
    let long = c.loop-number.invariant.long in
    let below = c.requires i 0 c.loop-number-test.true in
    record {
      long = ap length c.set.ensures ∙ length-set row (get_or list i 0) true ∙ long;
      only = λ number is. ⊎_elim
          (λ old. c.loop-number.invariant.only number old)
          (λ has. inr has)
          (marked_more row list i number c.loop-number-test.true (omega (arith, long, below)) (subst (λ (r : List Bool). IsIn r number) c.set.ensures is));
    }
