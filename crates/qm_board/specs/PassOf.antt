use Rattle.std.specs.Prelude.{◌≡◌, ℕ, List, [], Some}
use Rattle.qm_contacts.specs.World.{World}
use Rattle.qm_shared_rows.specs.Findings.{Findings}
use Rattle.qm_board.specs.BoardRule.{given_in}
use Rattle.qm_board.specs.declared.pass.Pass.{Pass}
use Rattle.qm_board.specs.declared.row_board.RowBoard.{RowBoard}

-- What a board is about, and what a pass has found on it.

abbrev pub world_of : RowBoard → World
world_of board = board.table.shared.key.0.value

-- the words of the rows with which the board began
abbrev pub given_of : RowBoard → List ℕ
given_of board = given_in (world_of board) board.table.shared.key.1.value.items

abbrev pub findings_of : Pass → Findings
findings_of pass = pass.seat.me.0.findings

-- the pass is one of this board
pub record IsPassOf (board : RowBoard) (pass : Pass) : Type 0 where
  pub same_table : pass.seat.table_id ≡ board.table.shared.table_id
  pub same_world : pass.seat.me.0.world ≡ Some (world_of board)
  pub same_given : pass.seat.me.0.given ≡ given_of board
  pub no_slots : pass.seat.me.1 ≡ []
