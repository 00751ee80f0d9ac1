use Rattle.std.specs.Prelude.{◌<◌, []}
use Rattle.qm_contacts.specs.World.{World}
use Rattle.qm_board.specs.PassOf.{findings_of}
use Rattle.qm_board.specs.declared.row_board.RowBoard.{RowBoard}
use Rattle.qm_crew.specs.declared.team.Workers.{Workers}
use Rattle.qm_crew.specs.inner.PassOver.{IsPassOver}
use Rattle.qm_crew.specs.inner.TurnsTaken.{LieAlong}

-- there is a worker, and the pass is one of the board of the world, before any turn
pub record AreReady (world : World) (board : RowBoard) (workers : Workers) : Type 0 where
  pub some : 0 < workers.count
  pub pass : IsPassOver world board workers.pass
  pub along : LieAlong world (findings_of workers.pass) []
