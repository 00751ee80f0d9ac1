use Rattle.std.proofs.Common.{◌∙◌, ℕ, List, subst, arith}
use Rattle.qm_board.specs.PassOf.{world_of, given_of, findings_of}
use Rattle.qm_board.specs.Reached.{IsReachedWord}
use Rattle.qm_board.proofs.StepRules.{load_allowed}
use Rattle.qm_board.proofs.Places.{word_within, at_row, is_at_row}
use Rattle.qm_board.proofs.row_board.RowBoard.word.Goals as goal

pub row_place-place-requires-clause-portal_in_range : goal.row_place-place-requires-clause-portal_in_range
row_place-place-requires-clause-portal_in_range c = let is = c.args.self.now.sized.portals_are in let inside = c.requires.portal_in_range in omega (arith, is, inside)

pub row_place-place-requires-clause-word_in_range : goal.row_place-place-requires-clause-word_in_range
row_place-place-requires-clause-word_in_range c = let is = c.args.self.now.sized.width_is in let within = word_within (world_of c.args.self.now) c.args.k c.requires.word_in_range in omega (arith, is, within)

pub load-requires : goal.load-requires
load-requires c =
    let world = world_of c.args.self.now in (
      c.requires.pass.same_table,
      c.row_place-place.ensures.within,
      load_allowed world (given_of c.args.self.now) _ _ _ c.requires.pass.same_world c.requires.pass.same_given c.args.portal c.args.k c.requires.portal_in_range (word_within world c.args.k c.requires.word_in_range) c.row_place-place.result
          (at_row world _ _ _ _ c.args.self.now.sized c.args.portal c.args.k _ c.row_place-place.ensures.value),
    )

pub returns-clause-pass : goal.returns-clause-pass
returns-clause-pass c =
    let world = world_of c.args.self.now in
    let told = c.load.ensures.2 world c.args.portal c.args.k c.requires.pass.same_world
    (is_at_row world _ _ _ _ c.args.self.now.sized c.args.portal c.args.k _ c.requires.portal_in_range (word_within world c.args.k c.requires.word_in_range) c.row_place-place.ensures.value) in
    record {
      same_table = c.load.ensures.0 ∙ c.requires.pass.same_table;
      same_world = told.0.same_world ∙ c.requires.pass.same_world;
      same_given = told.0.same_given ∙ c.requires.pass.same_given;
      no_slots = told.0.same_slots ∙ c.requires.pass.no_slots;
    }

pub returns-clause-ceiling : goal.returns-clause-ceiling
returns-clause-ceiling c =
    let world = world_of c.args.self.now in
    (c.load.ensures.2 world c.args.portal c.args.k c.requires.pass.same_world
    (is_at_row world _ _ _ _ c.args.self.now.sized c.args.portal c.args.k _ c.requires.portal_in_range (word_within world c.args.k c.requires.word_in_range) c.row_place-place.ensures.value)).0.found

pub returns-clause-read : goal.returns-clause-read
returns-clause-read c =
    let world = world_of c.args.self.now in
    (c.load.ensures.2 world c.args.portal c.args.k c.requires.pass.same_world
    (is_at_row world _ _ _ _ c.args.self.now.sized c.args.portal c.args.k _ c.requires.portal_in_range (word_within world c.args.k c.requires.word_in_range) c.row_place-place.ensures.value)).1

pub returns-clause-reached : goal.returns-clause-reached
returns-clause-reached c =
    let world = world_of c.args.self.now in
    subst (λ (given : List ℕ). IsReachedWord world given (findings_of c.args.pass.now) c.args.portal c.args.k c.load.result) c.requires.pass.same_given
    (c.load.ensures.2 world c.args.portal c.args.k c.requires.pass.same_world
    (is_at_row world _ _ _ _ c.args.self.now.sized c.args.portal c.args.k _ c.requires.portal_in_range (word_within world c.args.k c.requires.word_in_range) c.row_place-place.ensures.value)).2
