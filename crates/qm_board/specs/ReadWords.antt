use Rattle.std.specs.Prelude.{◌≡◌, ◌⊎◌, ℕ, ◌<◌, ◌==◌, Bool, length, Contains}
use Rattle.qm_contacts.specs.NumberedLeaves.{numbered_leaves}
use Rattle.qm_contacts.specs.World.{World}
use Rattle.qm_shared_rows.specs.Findings.{Findings, ceiling, done_word, with_found}
use Rattle.qm_shared_rows.specs.SharedRows.{BitsLieIn, HasOnly, HasAll, IsToBeKept}
use Rattle.qm_board.specs.WorldSets.{sets_of}

-- What a pass reads of a board.

-- word k of a portal's row, as a pass reads it that has found this before: it has all leaves in sight of the portal, only
-- numbered leaves, and lies within each ceiling of its place
pub record IsReadWord (world : World) (pass : Findings) (portal k word : ℕ) : Type 0 where
  pub sight : HasAll (IsToBeKept (sets_of world) portal) k word
  pub numbered : HasOnly (λ leaf. leaf < length (numbered_leaves world.tree)) k word
  pub within : (other : ℕ) → Contains pass.ceilings (ceiling portal k other) → BitsLieIn word other

-- a done word was found, which is 1 where the answer is true, and 0 where it is false; it is 1 where the portal was known as
-- done
pub record IsFoundDone (portal : ℕ) (answer : Bool) (old new : Findings) : Type 0 where
  pub word : ℕ
  pub found : new ≡ with_found (done_word portal word) old
  pub answer_is : answer ≡ (word == 1)
  pub zero_or_one : (word ≡ 0) ⊎ (word ≡ 1)
  pub known_done : Contains old.known portal → word ≡ 1
