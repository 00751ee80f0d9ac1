use Rattle.std.specs.Prelude.{◌≡◌, ℕ, ◌<◌, Bool, List, [], length, slice_index_or}
use Rattle.qm_lists.specs.Word.{IsWord}
use Rattle.qm_contacts.specs.World.{World}
use Rattle.qm_sight.specs.WordInSight.{LieWithin}
use Rattle.qm_shared_rows.specs.Opening.{given_word, first_pass}
use Rattle.qm_board.specs.WorldSets.{width_of}
use Rattle.qm_board.specs.Ceilings.{ceiling_rows}
use Rattle.qm_board.specs.PassOf.{world_of, given_of, findings_of, IsPassOf}
use Rattle.qm_board.specs.declared.pass.Pass.{Pass}
use Rattle.qm_board.specs.declared.row_board.RowBoard.{RowBoard}

-- The board is a new one of the world, with these rows: its first pass has a ceiling for each word of a row, which is that word,
-- and has found nothing else. So its ceilings lie within the rows.
pub record IsOpened (world : World) (rows : List (List Bool)) (board : RowBoard) (pass : Pass) : Type 0 where
  pub same_world : world_of board ≡ world
  pub pass_is : IsPassOf board pass
  pub given : List ℕ
  pub given_is : given_of board ≡ given
  pub found : findings_of pass ≡ first_pass (length world.portals) (width_of world) given
  pub within : LieWithin (ceiling_rows world (findings_of pass)) rows
  pub are_words : (portal k : ℕ) → portal < length world.portals → k < width_of world → IsWord (slice_index_or rows portal []) k (given_word (width_of world) given portal k)
