use Rattle.std.proofs.Common.{arith}
use Rattle.qm_board.specs.PassOf.{world_of, given_of}
use Rattle.qm_board.proofs.StepRules.{join_allowed}
use Rattle.qm_board.proofs.row_board.RowBoard.join.Goals as goal

pub join_seat-requires : goal.join_seat-requires
join_seat-requires c =
    let words = c.args.self.now.sized.words_are in
    (c.requires.pass.same_table, c.requires.other.same_table, c.requires.other.no_slots, omega (arith, words), join_allowed (world_of c.args.self.now) (given_of c.args.self.now) _ _ _ _)
