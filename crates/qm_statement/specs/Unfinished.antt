use Rattle.std.specs.Prelude.{◌⊎◌, ℕ, List, IsTrue}
use Rattle.qm_surroundings.specs.ShelfState.{ShelfState}
use Rattle.qm_surroundings.specs.ShelfChanges.{IsKeptElsewhere}
use Rattle.qm_surroundings.specs.WholeFiles.{HoldsTheSame, HoldsPrefix, HoldsExactly}

-- What has become of a file that a command writes, and of every other file.

-- the file has some of the first bytes of what is due in it
abbrev pub HoldsPart : ShelfState → List ℕ → (List ℕ → Type 0) → Type 0
HoldsPart after name IsDue = (bytes : List ℕ) × IsDue bytes × HoldsPrefix after name bytes

-- writing the file was not begun or not ended: it is as it was or has a part of what is due in it, and every other file is
-- as it was
pub record IsUnfinished (before after : ShelfState) (name : List ℕ) (IsDue : List ℕ → Type 0) : Type 0 where
  pub others : IsKeptElsewhere before after name
  pub part : IsTrue before.tells → HoldsTheSame before after name ⊎ HoldsPart after name IsDue

-- the file was written whole: it has exactly these bytes, and every other file is as it was
pub record IsWrittenAlone (before after : ShelfState) (name bytes : List ℕ) : Type 0 where
  pub others : IsKeptElsewhere before after name
  pub holds : IsTrue before.tells → HoldsExactly after name bytes
