use Rattle.std.specs.Prelude.{ℕ, ◌≡◌, ◌⊎◌, IsTrue, List, take, Some}
use Rattle.qm_lists.specs.Limit.{up_to_one_past}
use Rattle.qm_surroundings.specs.ShelfState.{ShelfState, text_under}

-- Files that are read and written whole.

-- where the shelf tells what it holds, these bytes are the text under a name, as far as it is read
abbrev pub IsReadFrom : ShelfState → List ℕ → ℕ → List ℕ → Type 0
IsReadFrom shelf name limit bytes = IsTrue shelf.tells → bytes ≡ up_to_one_past limit (text_under shelf name)

-- the file has exactly these bytes
abbrev pub HoldsExactly : ShelfState → List ℕ → List ℕ → Type 0
HoldsExactly shelf name bytes = shelf.held name ≡ Some bytes

-- the file has some of the first of these bytes: none, all, or any number between
abbrev pub HoldsPrefix : ShelfState → List ℕ → List ℕ → Type 0
HoldsPrefix shelf name bytes = (count : ℕ) × (shelf.held name ≡ Some (take count bytes))

-- the file is as it was
abbrev pub HoldsTheSame : ShelfState → ShelfState → List ℕ → Type 0
HoldsTheSame before after name = after.held name ≡ before.held name

-- writing these bytes was not begun or not ended: the file is as it was, or has some of the first of them
abbrev pub HoldsUnfinished : ShelfState → ShelfState → List ℕ → List ℕ → Type 0
HoldsUnfinished before after name bytes = HoldsTheSame before after name ⊎ HoldsPrefix after name bytes
