use Rattle.std.proofs.Common.{◌∙◌, ℕ, List, refl, sym, subst, arith}
use Rattle.qm_board.specs.PassOf.{world_of, given_of, findings_of}
use Rattle.qm_shared_rows.specs.Findings.{Findings, with_known}
use Rattle.qm_board.specs.Reached.{IsReachedMark}
use Rattle.qm_board.proofs.StepRules.{mark_allowed}
use Rattle.qm_board.proofs.row_board.RowBoard.finish.Goals as goal

pub fetch_or-requires : goal.fetch_or-requires
fetch_or-requires c =
    let sized = c.args.self.now.sized in
    let portals = sized.portals_are in
    let words = sized.words_are in
    let inside = c.requires.portal_in_range in
    (c.requires.pass.same_table, omega (arith, portals, words, inside), mark_allowed (world_of c.args.self.now) (given_of c.args.self.now) _ _ _ c.requires.pass.same_world c.requires.pass.same_given c.args.portal inside c.requires.bound)

pub returns-clause-pass : goal.returns-clause-pass
returns-clause-pass c =
    let told = c.fetch_or.ensures.2 (world_of c.args.self.now) c.args.portal c.requires.pass.same_world c.requires.portal_in_range refl in
    record {
      same_table = c.fetch_or.ensures.0 ∙ c.requires.pass.same_table;
      same_world = told.0.same_world ∙ c.requires.pass.same_world;
      same_given = told.0.same_given ∙ c.requires.pass.same_given;
      no_slots = told.0.same_slots ∙ c.requires.pass.no_slots;
    }

pub returns-clause-finished : goal.returns-clause-finished
returns-clause-finished c = (c.fetch_or.ensures.2 (world_of c.args.self.now) c.args.portal c.requires.pass.same_world c.requires.portal_in_range refl).0.found

pub returns-clause-reached : goal.returns-clause-reached
returns-clause-reached c =
    let world = world_of c.args.self.now in
    let told = c.fetch_or.ensures.2 world c.args.portal c.requires.pass.same_world c.requires.portal_in_range refl in
    subst (λ (found : Findings). IsReachedMark world (given_of c.args.self.now) c.args.portal found) (sym told.0.found)
    (subst (λ (given : List ℕ). IsReachedMark world given c.args.portal (with_known c.args.portal (findings_of c.args.pass.now))) c.requires.pass.same_given told.1)
