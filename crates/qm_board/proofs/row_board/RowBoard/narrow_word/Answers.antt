use Rattle.std.proofs.Common.{◌∙◌, arith}
use Rattle.qm_board.specs.PassOf.{world_of, given_of}
use Rattle.qm_board.proofs.StepRules.{cut_allowed}
use Rattle.qm_board.proofs.Places.{at_row, is_at_row}
use Rattle.qm_board.proofs.row_board.RowBoard.narrow_word.Goals as goal

pub row_place-place-requires-clause-portal_in_range : goal.row_place-place-requires-clause-portal_in_range
row_place-place-requires-clause-portal_in_range c = let is = c.args.self.now.sized.portals_are in let inside = c.requires.portal_in_range in omega (arith, is, inside)

pub row_place-place-requires-clause-word_in_range : goal.row_place-place-requires-clause-word_in_range
row_place-place-requires-clause-word_in_range c = let is = c.args.self.now.sized.width_is in let within = c.requires.word_in_range in omega (arith, is, within)

pub fetch_and-requires : goal.fetch_and-requires
fetch_and-requires c =
    let world = world_of c.args.self.now in (
      c.requires.pass.same_table,
      c.row_place-place.ensures.within,
      cut_allowed world (given_of c.args.self.now) _ _ _ c.requires.pass.same_world c.requires.pass.same_given c.args.portal c.args.k c.requires.portal_in_range c.requires.word_in_range c.args.mask c.row_place-place.result
          (at_row world _ _ _ _ c.args.self.now.sized c.args.portal c.args.k _ c.row_place-place.ensures.value) c.requires.sound,
    )

pub returns-clause-pass : goal.returns-clause-pass
returns-clause-pass c =
    let world = world_of c.args.self.now in
    let told = c.fetch_and.ensures.2 world c.args.portal c.args.k c.requires.pass.same_world
    (is_at_row world _ _ _ _ c.args.self.now.sized c.args.portal c.args.k _ c.requires.portal_in_range c.requires.word_in_range c.row_place-place.ensures.value) in
    record {
      same_table = c.fetch_and.ensures.0 ∙ c.requires.pass.same_table;
      same_world = told.same_world ∙ c.requires.pass.same_world;
      same_given = told.same_given ∙ c.requires.pass.same_given;
      no_slots = told.same_slots ∙ c.requires.pass.no_slots;
    }

pub returns-clause-narrowed : goal.returns-clause-narrowed
returns-clause-narrowed c =
    let world = world_of c.args.self.now in
    (c.fetch_and.ensures.2 world c.args.portal c.args.k c.requires.pass.same_world
    (is_at_row world _ _ _ _ c.args.self.now.sized c.args.portal c.args.k _ c.requires.portal_in_range c.requires.word_in_range c.row_place-place.ensures.value)).found
