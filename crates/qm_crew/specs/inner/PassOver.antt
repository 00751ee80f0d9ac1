use Rattle.std.specs.Prelude.{◌≡◌}
use Rattle.qm_contacts.specs.World.{World}
use Rattle.qm_board.specs.PassOf.{world_of, IsPassOf}
use Rattle.qm_board.specs.declared.pass.Pass.{Pass}
use Rattle.qm_board.specs.declared.row_board.RowBoard.{RowBoard}

-- the board is one of the world, and the pass one of the board
pub record IsPassOver (world : World) (board : RowBoard) (pass : Pass) : Type 0 where
  pub same_world : world_of board ≡ world
  pub ours : IsPassOf board pass
