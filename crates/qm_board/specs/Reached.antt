use Rattle.std.specs.Prelude.{◌≡◌, ℕ, ◌+◌, ◌*◌, ◌<◌, Bool, false, List, [], length, slice_index_or}
use Rattle.qm_lists.specs.Word.{has_bit}
use Rattle.qm_contacts.specs.NumberedLeaves.{numbered_leaves}
use Rattle.qm_contacts.specs.World.{World}
use Rattle.qm_shared_rows.specs.Findings.{Findings}
use Rattle.qm_shared_rows.specs.SharedRows.{SharedRows, done_of, row_word}
use Rattle.qm_shared_rows.specs.Opening.{opening_of}
use Rattle.qm_shared_rows.specs.Steps.{IsPass}
use Rattle.qm_shared_rows.specs.Runs.{ComesFrom}
use Rattle.qm_board.specs.WorldSets.{sets_of}

-- The states that the rows of a board run through while passes work on it: the first is that of the rows given, and each later
-- one comes from it by a list of steps.

abbrev pub IsReachedState : World → List ℕ → SharedRows → Type 0
IsReachedState world given state = ComesFrom (sets_of world) (opening_of (sets_of world) given) state

-- in a state that is reached, a pass has found just this, and there it reads this as word k of the row of a portal
pub record IsReachedWord (world : World) (given : List ℕ) (pass : Findings) (portal k word : ℕ) : Type 0 where
  pub state : SharedRows
  pub comes : IsReachedState world given state
  pub id : ℕ
  pub pass_is : IsPass state id pass
  pub word_is : word ≡ row_word (sets_of world) state portal k

-- in a state that is reached, a portal is marked as done, and a pass has found just this
pub record IsReachedMark (world : World) (given : List ℕ) (portal : ℕ) (pass : Findings) : Type 0 where
  pub state : SharedRows
  pub comes : IsReachedState world given state
  pub done : done_of state portal ≡ 1
  pub id : ℕ
  pub pass_is : IsPass state id pass

-- the rows are those of a state that is reached, in which a pass has found just this
pub record AreReachedRows (world : World) (given : List ℕ) (pass : Findings) (rows : List (List Bool)) : Type 0 where
  pub state : SharedRows
  pub comes : IsReachedState world given state
  pub id : ℕ
  pub pass_is : IsPass state id pass
  pub rows_are : (portal k bit : ℕ) → portal < length world.portals → bit < 64 → 64 * k + bit < length (numbered_leaves world.tree) →
      slice_index_or (slice_index_or rows portal []) (64 * k + bit) false ≡ has_bit (row_word (sets_of world) state portal k) bit
