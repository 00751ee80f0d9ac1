use Rattle.qm_board.specs.PassOf.{world_of}
use Rattle.qm_board.proofs.PublishedRows.{knows_bound}
use Rattle.qm_board.proofs.row_board.RowBoard.publish.Goals as goal

pub finish-requires-clause-bound : goal.finish-requires-clause-bound
finish-requires-clause-bound c = knows_bound (world_of c.args.self.now) c.args.portal c.args.row.now _ _ c.narrow_row.ensures.narrowed c.requires.bound

pub returns-clause-published : goal.returns-clause-published
returns-clause-published c = record { narrowed = _; row_is = c.narrow_row.ensures.narrowed; new_is = c.finish.ensures.finished }
