use Rattle.std.proofs.Common.{◌∙◌, arith}
use Rattle.qm_board.proofs.StepRules.{draw_allowed}
use Rattle.qm_board.specs.PassOf.{world_of, given_of}
use Rattle.qm_board.proofs.row_board.RowBoard.draw.Goals as goal

pub fetch_add-requires : goal.fetch_add-requires
fetch_add-requires c =
    let sized = c.args.self.now.sized.words_are in
    (c.requires.same_table, omega (arith, sized), draw_allowed (world_of c.args.self.now) (given_of c.args.self.now) _ _ _ c.requires.same_world c.requires.same_given)

pub returns-clause-pass : goal.returns-clause-pass
returns-clause-pass c =
    let found = c.fetch_add.ensures.2 in
    record {
      same_table = c.fetch_add.ensures.0 ∙ c.requires.same_table;
      same_world = found.same_world ∙ c.requires.same_world;
      same_given = found.same_given ∙ c.requires.same_given;
      no_slots = found.same_slots ∙ c.requires.no_slots;
    }

pub returns-clause-drawn : goal.returns-clause-drawn
returns-clause-drawn c = c.fetch_add.ensures.2.found
