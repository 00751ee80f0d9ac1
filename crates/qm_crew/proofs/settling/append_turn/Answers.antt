use Rattle.std.proofs.lemmas.Result.{IfOk-at_ok}
use Rattle.qm_board.specs.PassOf.{findings_of}
use Rattle.qm_crew.specs.inner.TurnsTaken.{HadTurn}
use Rattle.qm_crew.proofs.settling.append_turn.Goals as goal

pub returns : goal.returns
returns c = record {
  pass = c.take_turn-pass.ensures.pass;
  turn =
      IfOk-at_ok (λ _. HadTurn c.args.shared.now.world.now c.args.portal (findings_of c.args.settling.pass) (findings_of c.take_turn-pass.result.0)) c.in_ok-taken.was
      c.take_turn-pass.ensures.turn;
  appended = c.in_ok-push.ensures.items;
}
