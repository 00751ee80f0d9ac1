use Rattle.std.specs.Prelude.{◌≡◌, ℕ, ◌+◌, ◌<◌, Bool, List, [], ◌∷◌, length, slice_index}
use Rattle.qm_lists.specs.Word.{IsWord}
use Rattle.qm_contacts.specs.World.{World}
use Rattle.qm_shared_rows.specs.Findings.{Findings, ceiling, with_ceiling, with_known}
use Rattle.qm_board.specs.WorldSets.{width_of}

-- A row that a pass has published.

-- a ceiling more for each of these words of a portal's row, which begin with word k
abbrev pub with_words : ℕ → ℕ → List ℕ → Findings → Findings
with_words portal k [] pass = pass
with_words portal k (word ∷ words) pass = with_words portal (k + 1) words (with_ceiling (ceiling portal k word) pass)

-- the pass has found the first words of a row, so many, as ceilings of the portal
pub record HasWordsUpTo (portal : ℕ) (row : List Bool) (count : ℕ) (old new : Findings) : Type 0 where
  pub words : List ℕ
  pub one_each : length words ≡ count
  pub are_words : (k : ℕ) → k < count → IsWord row k (slice_index words k)
  pub new_is : new ≡ with_words portal 0 words old

-- it has found all words of the row so, and then that the portal is done
pub record IsPublished (world : World) (portal : ℕ) (row : List Bool) (old new : Findings) : Type 0 where
  pub narrowed : Findings
  pub row_is : HasWordsUpTo portal row (width_of world) old narrowed
  pub new_is : new ≡ with_known portal narrowed
