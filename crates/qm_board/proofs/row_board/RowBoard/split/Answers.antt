use Rattle.std.proofs.Common.{arith}
use Rattle.qm_board.specs.PassOf.{world_of, given_of}
use Rattle.qm_board.proofs.StepRules.{split_allowed}
use Rattle.qm_board.proofs.row_board.RowBoard.split.Goals as goal

pub split_seat-other-requires : goal.split_seat-other-requires
split_seat-other-requires c =
    let words = c.args.self.now.sized.words_are in
    (c.requires.same_table, omega (arith, words), split_allowed (world_of c.args.self.now) (given_of c.args.self.now) _ _)
