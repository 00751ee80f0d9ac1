use Rattle.std.proofs.Common.{◌≡◌, ◌∙◌, ℕ, List, [], ◌∷◌, ◌++◌, ◌+◌, sym, subst}
use Rattle.std.proofs.lemmas.Result.{IfOk-weaker}
use Rattle.qm_shared_rows.specs.Findings.{done_word}
use Rattle.qm_board.specs.PassOf.{findings_of}
use Rattle.qm_crew.specs.declared.settling.Settling.{Settling}
use Rattle.qm_crew.specs.inner.TurnsTaken.{HadTurn, IsInSomeList, AreSettled}
use Rattle.qm_crew.proofs.TakenTurns.{found_narrower}
use Rattle.qm_crew.proofs.WorkLists.{ok_of_both}
use Rattle.qm_crew.proofs.SettledPortals.{stands_gained, settled_so, settled_narrower, settled_by_turn}
use Rattle.qm_crew.proofs.settling.settle_one.Goals as goal

pub returns-then-stands-clause-settled : goal.returns-then-stands-clause-settled
returns-then-stands-clause-settled c =
    let world = c.args.shared.now.world.now in
    let old = findings_of c.args.settling.pass in
    let new = findings_of c.is_done-done.new.pass in
    let found = c.is_done-done.ensures.found in
    settled_so world old new c.args.settling.first.items c.args.others.now c.args.portal c.requires.settled (found_narrower world (done_word c.args.portal found.word) old new found.found)
    (c.requires.stands (sym c.get-stands.ensures ∙ c.if-stands.true))

pub returns-then-stands-clause-pass : goal.returns-then-stands-clause-pass
returns-then-stands-clause-pass c = record { same_world = c.requires.pass.same_world; ours = c.is_done-done.ensures.pass }

pub append_turn-requires-clause-pass : goal.append_turn-requires-clause-pass
append_turn-requires-clause-pass c = record { same_world = c.requires.pass.same_world; ours = c.is_done-done.ensures.pass }

pub returns : goal.returns
returns c =
    let world = c.args.shared.now.world.now in
    let first = c.args.settling.first.items in
    let others = c.args.others.now in
    let portal = c.args.portal in
    let old = findings_of c.args.settling.pass in
    let mid = findings_of c.is_done-done.new.pass in
    let found = c.is_done-done.ensures.found in
    let before = settled_narrower world old mid first others portal c.requires.settled (found_narrower world (done_word portal found.word) old mid found.found) in
    let appended = c.append_turn.ensures.appended in
    record {
      pass = c.append_turn.ensures.pass;
      settled =
          ok_of_both (λ (ended : Settling). HadTurn world portal mid (findings_of ended.pass)) (λ (ended : Settling). ended.first.items ≡ first ++ portal ∷ [])
          (λ (ended : Settling). AreSettled world (findings_of ended.pass) ended.first.items others (portal + 1)) c.append_turn.result
          (λ ended turn is.
          subst (λ (list : List ℕ). AreSettled world (findings_of ended.pass) list others (portal + 1)) (sym is)
          (settled_by_turn world mid (findings_of ended.pass) first others portal before turn c.requires.portal_in_range))
          c.append_turn.ensures.turn appended;
      gained =
          IfOk-weaker c.append_turn.result (λ (ended : Settling). ended.first.items ≡ first ++ portal ∷ [])
          (λ (ended : Settling). (number : ℕ) → IsInSomeList (first ∷ others) number → IsInSomeList (ended.first.items ∷ others) number)
          (λ ended is number any. subst (λ (list : List ℕ). IsInSomeList (list ∷ others) number) (sym is) (stands_gained first (portal ∷ []) others number any))
          appended;
    }
