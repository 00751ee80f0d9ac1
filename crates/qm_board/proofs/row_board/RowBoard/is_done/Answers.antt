use Rattle.std.proofs.Common.{◌∙◌, refl, arith}
use Rattle.qm_board.specs.PassOf.{world_of, given_of}
use Rattle.qm_board.proofs.StepRules.{done_load_allowed}
use Rattle.qm_board.proofs.row_board.RowBoard.is_done.Goals as goal

pub load-word-requires : goal.load-word-requires
load-word-requires c =
    let world = world_of c.args.self.now in
    let sized = c.args.self.now.sized in
    let portals = sized.portals_are in
    let words = sized.words_are in
    let inside = c.requires.portal_in_range in
    (c.requires.pass.same_table, omega (arith, portals, words, inside), done_load_allowed world (given_of c.args.self.now) _ _ _ c.requires.pass.same_world c.requires.pass.same_given c.args.portal inside)

pub returns-clause-pass : goal.returns-clause-pass
returns-clause-pass c =
    let told = c.load-word.ensures.2 (world_of c.args.self.now) c.args.portal c.requires.pass.same_world c.requires.portal_in_range refl in
    record {
      same_table = c.load-word.ensures.0 ∙ c.requires.pass.same_table;
      same_world = told.0.same_world ∙ c.requires.pass.same_world;
      same_given = told.0.same_given ∙ c.requires.pass.same_given;
      no_slots = told.0.same_slots ∙ c.requires.pass.no_slots;
    }

pub returns-clause-found : goal.returns-clause-found
returns-clause-found c =
    let told = c.load-word.ensures.2 (world_of c.args.self.now) c.args.portal c.requires.pass.same_world c.requires.portal_in_range refl in
    record { word = c.load-word.result; found = told.0.found; answer_is = refl; zero_or_one = told.1; known_done = told.2 }
