use Rattle.std.proofs.Common.{ℕ, sym, subst}
use Rattle.std.proofs.lemmas.Result.{IfOk-at_ok}
use Rattle.qm_lists.specs.WorkList.{IsIn}
use Rattle.qm_contacts.specs.World.{World}
use Rattle.qm_chains.specs.Shown.{IsShown}
use Rattle.qm_sight.specs.InCeiling.{IsInCeiling}
use Rattle.qm_sight.specs.RowsOfWorld.{IsSoundAt}
use Rattle.qm_board.specs.Ceilings.{ceiling_rows}
use Rattle.qm_board.specs.PassOf.{findings_of}
use Rattle.qm_board.specs.Published.{IsPublished}
use Rattle.qm_board.specs.WorldSets.{IsInBoundAt}
use Rattle.qm_crew.proofs.TakenTurns.{shown_bound, turn_published}
use Rattle.qm_crew.proofs.turn.take_turn.Goals as goal

pub publish-requires-clause-sound : goal.publish-requires-clause-sound
publish-requires-clause-sound g c =
    subst (λ (w : World). IsSoundAt w c.args.portal c.in-Ok.row) (sym c.requires.pass.same_world)
    (IfOk-at_ok (λ row. IsSoundAt c.args.shared.now.world.now c.args.portal row) c.in-Ok.is c.flow_on-pass.ensures.sound)

pub publish-requires-clause-bound : goal.publish-requires-clause-bound
publish-requires-clause-bound g c =
    let Has = λ (n : ℕ). IsInCeiling (ceiling_rows c.args.shared.now.world.now (findings_of c.args.pass)) n in
    subst (λ (w : World). (n : ℕ) → IsIn c.in-Ok.row n → IsInBoundAt w c.args.portal n) (sym c.requires.pass.same_world)
    (λ n is. shown_bound c.args.shared.now.world.now (Has n) c.args.portal n
    (IfOk-at_ok (λ row. (m : ℕ) → IsIn row m → IsShown c.args.shared.now.world.now.portals (Has m) c.args.portal m) c.in-Ok.is c.flow_on-pass.ensures.open_chains n is))

pub returns-in-Ok-clause-pass : goal.returns-in-Ok-clause-pass
returns-in-Ok-clause-pass g c = record { same_world = c.requires.pass.same_world; ours = c.publish.ensures.pass }

pub returns-in-Ok-clause-turn : goal.returns-in-Ok-clause-turn
returns-in-Ok-clause-turn g c =
    let Has = λ (n : ℕ). IsInCeiling (ceiling_rows c.args.shared.now.world.now (findings_of c.args.pass)) n in
    turn_published c.args.shared.now.world.now c.args.portal c.in-Ok.row (findings_of c.args.pass) (findings_of c.flow_on-pass.result.0) (findings_of c.publish.new.pass)
    c.flow_on-pass.ensures.narrower
    (IfOk-at_ok (λ row. (m : ℕ) → IsIn row m → IsShown c.args.shared.now.world.now.portals (Has m) c.args.portal m) c.in-Ok.is c.flow_on-pass.ensures.open_chains)
    (subst (λ (w : World). IsPublished w c.args.portal c.in-Ok.row (findings_of c.flow_on-pass.result.0) (findings_of c.publish.new.pass)) c.requires.pass.same_world c.publish.ensures.published)

pub returns-in-Ok-clause-narrower : goal.returns-in-Ok-clause-narrower
returns-in-Ok-clause-narrower g c = (returns-in-Ok-clause-turn g c).narrower
