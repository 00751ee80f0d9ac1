use Rattle.std.proofs.Common.{◌∙◌, ⊎_elim, ℕ, false, List, ◌∷◌, length, Contains, sym, ap, subst}
use Rattle.std.proofs.lemmas.List.{length-replicate}
use Rattle.qm_crew.specs.inner.TurnsTaken.{IsInSomeList}
use Rattle.qm_crew.proofs.SettledPortals.{none_marked, stands_first, stands_later}
use Rattle.qm_crew.proofs.settling.listed.Goals as goal

pub loop-list-init : goal.loop-list-init
loop-list-init c =
    let first = c.args.first.now in
    let others = c.args.others.now in
    record {
      long = c.mark_all.ensures.long ∙ ap length c.in_ok-row.ensures ∙ length-replicate c.portals.result false ∙ c.portals.ensures;
      stands = λ number is. ⊎_elim
          (λ old. none_marked c.portals.result number c.in_ok-row.row (IsInSomeList (first ∷ others) number) c.in_ok-row.ensures old)
          (λ has. stands_first first others number has)
          (c.mark_all.ensures.only number is);
    }

pub loop-list-preserved : goal.loop-list-preserved
loop-list-preserved c =
    let first = c.args.first.now in
    let others = c.args.others.now in
    let list = c.list-item.result in
    record {
      long = c.mark_all-in-loop-list.ensures.long ∙ c.loop-list.invariant.long;
      stands = λ number is. ⊎_elim
          (λ old. c.loop-list.invariant.stands number old)
          (λ has.
          stands_later first others number
          (c.loop-list.list-index, list, c.loop-list-test.true, sym c.list-item.is, subst (λ (l : List ℕ). Contains l number) c.as_slice.ensures has))
          (c.mark_all-in-loop-list.ensures.only number is);
    }
