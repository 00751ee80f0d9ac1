use Rattle.std.specs.Prelude.{ℕ, Bool, List, Option}
use Rattle.qm_surroundings.specs.HeldFile.{bytes_of_file}

-- a shelf at one moment: whether it tells what it holds, the bytes under each name, and its counts of faults
pub record ShelfState : Type 0 where
  pub tells : Bool
  pub held : List ℕ → Option (List ℕ)
  pub read_faults : List ℕ → ℕ
  pub write_faults : List ℕ → ℕ

-- the text under a name: a name that is not held has none
abbrev pub text_under : ShelfState → List ℕ → List ℕ
text_under shelf name = bytes_of_file (shelf.held name)
