use Rattle.std.specs.Prelude.{◌≡◌, ◌≢◌, ℕ, List, [], ◌∷◌, Option, Some}

-- The names of a command's files.

-- MAP, which is read, OUT, which is written, and FILE, which holds the listing where one is asked for
pub record FileNames : Type 0 where
  pub map_name : List ℕ
  pub out_name : List ℕ
  pub listing_name : Option (List ℕ)

-- a name of a file as a word of its own: it is not empty, and does not begin with a hyphen
abbrev pub IsFileName : List ℕ → Type 0
IsFileName [] = ⊥
IsFileName (byte ∷ bytes) = byte ≢ 45

-- the names of a command's files are different from one another
pub record AreDifferent (files : FileNames) : Type 0 where
  pub map_and_out : files.map_name ≢ files.out_name
  pub map_and_listing : (name : List ℕ) → files.listing_name ≡ Some name → files.map_name ≢ name
  pub out_and_listing : (name : List ℕ) → files.listing_name ≡ Some name → files.out_name ≢ name
