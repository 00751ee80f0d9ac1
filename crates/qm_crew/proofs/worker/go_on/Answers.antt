use Rattle.std.proofs.Common.{◌+◌, sym, subst}
use Rattle.std.proofs.lemmas.Result.{IfOk-at_ok}
use Rattle.qm_board.specs.PassOf.{findings_of}
use Rattle.qm_crew.specs.inner.TurnsTaken.{IsWorkBelow, HadTurn}
use Rattle.qm_crew.proofs.WorkLists.{work_narrower, work_more}
use Rattle.qm_crew.proofs.worker.go_on.Goals as goal

pub returns-in-Err-clause-work : goal.returns-in-Err-clause-work
returns-in-Err-clause-work g c =
    work_narrower c.args.shared.now.world.now c.args.worker.next c.args.worker.list.items (findings_of c.args.worker.pass) (findings_of c.take_turn-pass.result.0) c.requires.work
    c.take_turn-pass.ensures.narrower

pub returns-in-Ok-clause-work : goal.returns-in-Ok-clause-work
returns-in-Ok-clause-work g c =
    let world = c.args.shared.now.world.now in
    let portal = c.args.portal in
    let old = findings_of c.args.worker.pass in
    let new = findings_of c.take_turn-pass.result.0 in
    subst (IsWorkBelow world new (portal + 1)) (sym c.push_reserved.ensures.items)
    (work_more world c.args.worker.next portal c.args.worker.list.items old new c.requires.work
    (IfOk-at_ok (λ _. HadTurn world portal old new) c.in-Ok.is c.take_turn-pass.ensures.turn) c.requires.above c.requires.portal_in_range)
