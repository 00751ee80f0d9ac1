use Rattle.std.specs.Prelude.{◌≡◌, List, Bool}
use Rattle.std.proofs.Common.{refl, sym, ap, ◌∙◌, subst}
use Rattle.qm_contacts.specs.World.{World}
use Rattle.qm_sight.specs.WordInSight.{LieWithin}
use Rattle.qm_board.specs.PassOf.{world_of, findings_of}
use Rattle.qm_board.specs.Ceilings.{ceiling_rows}
use Rattle.qm_board.specs.GoesOn.{HasMore}
use Rattle.qm_board.specs.declared.row_board.RowBoard.{RowBoard}
use Rattle.qm_board.specs.declared.board_rows.BoardRows.{BoardRows}
use Rattle.qm_board.specs.inner.WithinCeilings.{more_itself, more_in_turn, more_narrows}

-- A board as a source of rows: its world, its ceilings, and which later state goes on from which earlier one.

abbrev pub world_on : BoardRows → World
world_on rows = world_of rows.board.now

abbrev pub ceilings_on : BoardRows → List (List Bool)
ceilings_on rows = ceiling_rows (world_on rows) (findings_of rows.pass)

-- both have the same board, and the later pass has found all that the earlier one had
pub record GoesOnWithMore (old new : BoardRows) : Type 0 where
  pub same_board : new.board.now ≡ old.board.now
  pub more : HasMore (findings_of old.pass) (findings_of new.pass)

pub board_goes_on_itself : (rows : BoardRows) → GoesOnWithMore rows rows
board_goes_on_itself rows = record { same_board = refl; more = more_itself (findings_of rows.pass) }

pub board_goes_on_in_turn : (first second third : BoardRows) → GoesOnWithMore first second → GoesOnWithMore second third → GoesOnWithMore first third
board_goes_on_in_turn first second third one two = record {
  same_board = two.same_board ∙ one.same_board;
  more = more_in_turn (findings_of first.pass) (findings_of second.pass) (findings_of third.pass) one.more two.more;
}

pub one_board_world : (old new : BoardRows) → GoesOnWithMore old new → world_on new ≡ world_on old
one_board_world old new on = ap (λ (board : RowBoard). world_of board) on.same_board

pub none_wider : (old new : BoardRows) → GoesOnWithMore old new → LieWithin (ceilings_on new) (ceilings_on old)
none_wider old new on =
    subst (λ (world : World). LieWithin (ceiling_rows world (findings_of new.pass)) (ceilings_on old)) (sym (one_board_world old new on))
    (more_narrows (world_on old) (findings_of old.pass) (findings_of new.pass) on.more)
