use Rattle.std.proofs.Common.{ℕ, List, length, sym, subst}
use Rattle.qm_board.specs.PassOf.{findings_of}
use Rattle.qm_crew.specs.inner.TurnsTaken.{AreSettled, AreFinished}
use Rattle.qm_crew.proofs.SettledPortals.{none_settled, all_settled}
use Rattle.qm_crew.proofs.crewing.work_by_several.Goals as goal

pub settle-requires-clause-settled : goal.settle-requires-clause-settled
settle-requires-clause-settled g c =
    let team = c.in_ok-pass.field-0 in
    let found = findings_of team.pass in
    subst (λ (others : List (List ℕ)). AreSettled c.args.shared.now.world.now found team.first.items others 0) (sym c.as_slice.ensures.value)
    (none_settled c.args.shared.now.world.now found c.args.workers team.first.items team.others.items c.in_ok-pass.ensures.lists)

pub returns : goal.returns
returns g c =
    let world = c.args.shared.now.world.now in
    let others = c.in_ok-pass.field-0.others.items in
    let ended = c.in_ok-pass-2.field-0 in
    let found = findings_of ended.pass in
    let settled = subst (λ (lists : List (List ℕ)). AreSettled world found ended.first.items lists (length world.portals)) c.as_slice.ensures.value c.in_ok-pass-2.ensures.settled in
    record {
      pass = c.in_ok-pass-2.ensures.pass;
      finished =
          subst (AreFinished world found c.args.workers) (sym c.in_ok-turns.ensures)
          (all_settled world found c.args.workers ended.first.items others settled c.in_ok-pass.ensures.lists.one_each c.requires.several);
    }
