use Rattle.std.proofs.Common.{sym, subst}
use Rattle.qm_board.specs.PassOf.{findings_of}
use Rattle.qm_crew.specs.inner.TurnsTaken.{IsWorkBelow}
use Rattle.qm_crew.proofs.TakenTurns.{drawn_narrower}
use Rattle.qm_crew.proofs.WorkLists.{work_narrower}
use Rattle.qm_crew.proofs.worker.step.Goals as goal

pub returns-then-is_err-clause-work : goal.returns-then-is_err-clause-work
returns-then-is_err-clause-work g c =
    subst (IsWorkBelow c.args.shared.now.world.now (findings_of c.args.worker.pass) c.args.worker.next) (sym c.reserve.ensures.items) c.requires.work

pub returns-then-portal-portals-clause-work : goal.returns-then-portal-portals-clause-work
returns-then-portal-portals-clause-work g c =
    let world = c.args.shared.now.world.now in
    let old = findings_of c.args.worker.pass in
    let mid = findings_of c.draw-portal.new.pass in
    subst (IsWorkBelow world mid c.args.worker.next) (sym c.reserve.ensures.items)
    (work_narrower world c.args.worker.next c.args.worker.list.items old mid c.requires.work (drawn_narrower world c.draw-portal.result old mid c.draw-portal.ensures.drawn))

pub go_on-requires-clause-work : goal.go_on-requires-clause-work
go_on-requires-clause-work g c =
    let world = c.args.shared.now.world.now in
    let old = findings_of c.args.worker.pass in
    let mid = findings_of c.draw-portal.new.pass in
    subst (IsWorkBelow world mid c.args.worker.next) (sym c.reserve.ensures.items)
    (work_narrower world c.args.worker.next c.args.worker.list.items old mid c.requires.work (drawn_narrower world c.draw-portal.result old mid c.draw-portal.ensures.drawn))
