use Rattle.std.proofs.lemmas.Result.{err_from_is_err_and}
use Rattle.qm_formats.proofs.ReadLists.{one_more, one_fault}
use Rattle.qm_listing.specs.Grammar.{portal_layout}
use Rattle.qm_prt.proofs.Faults.{fault_passes}
use Rattle.qm_prt.proofs.portals.portals_at.Goals as goal

pub returns-in_err-portal : goal.returns-in_err-portal
returns-in_err-portal c =
    let p = err_from_is_err_and c.from_residual.result c.from_residual.ensures.1 in
    rw (p.1, p.2) (fault_passes c.in_err-portal.field-0.0 (one_fault (λ _. portal_layout c.args.leaves) c.args.count c.args.text.now _ c.loop.portals.items c.loop.counter c.loop.next c.loop-test.true c.loop.invariant) c.in_err-portal.ensures)

pub loop-preserved : goal.loop-preserved
loop-preserved c =
    one_more (λ _. portal_layout c.args.leaves) c.args.count c.args.text.now _ c.loop.portals.items c.loop.counter c.loop.next c.in_ok-portal.portal c.in_ok-portal.after _ c.loop-test.true c.loop.invariant c.in_ok-portal.ensures c.in_ok-push.ensures.items
