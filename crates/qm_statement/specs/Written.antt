use Rattle.std.specs.Prelude.{◌≡◌, ◌⊎◌, ℕ, List, Option, Some, None, IsTrue}
use Rattle.qm_surroundings.specs.ShelfState.{ShelfState}
use Rattle.qm_surroundings.specs.WholeFiles.{HoldsExactly}
use Rattle.qm_commands.specs.FileNames.{FileNames}

-- The files that a command writes: OUT, and FILE where a listing is made.

-- a name under which it writes
abbrev pub IsWrittenTo : FileNames → Option (List ℕ) → List ℕ → Type 0
IsWrittenTo files None name = name ≡ files.out_name
IsWrittenTo files (Some listing) name = (name ≡ files.out_name) ⊎ (files.listing_name ≡ Some name)

-- every other file is as it was
abbrev pub AreOthersKept : ShelfState → ShelfState → FileNames → Option (List ℕ) → Type 0
AreOthersKept before after files listing =
    (name : List ℕ) → (IsWrittenTo files listing name → ⊥) → after.held name ≡ before.held name

-- where the shelf tells what it holds, OUT has exactly these bytes
abbrev pub HoldsOut : ShelfState → ShelfState → FileNames → List ℕ → Type 0
HoldsOut before after files file = IsTrue before.tells → HoldsExactly after files.out_name file

-- where a listing is made, and the shelf tells what it holds, FILE has exactly its bytes
abbrev pub HoldsListing : ShelfState → ShelfState → FileNames → Option (List ℕ) → Type 0
HoldsListing before after files listing =
    IsTrue before.tells → (name bytes : List ℕ) → files.listing_name ≡ Some name → listing ≡ Some bytes → HoldsExactly after name bytes
