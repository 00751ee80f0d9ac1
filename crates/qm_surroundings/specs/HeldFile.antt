use Rattle.std.specs.Prelude.{ℕ, ◌≡◌, List, [], ◌++◌, take, Option, unwrap_or}

-- The bytes that are held.

-- the bytes of a file: a name that is not held has none
abbrev pub bytes_of_file : Option (List ℕ) → List ℕ
bytes_of_file file = unwrap_or file []

-- a text grew by some of the first of these bytes: none, all, or any number between
abbrev pub ContinuesInto : List ℕ → List ℕ → List ℕ → Type 0
ContinuesInto before bytes after = (count : ℕ) × (after ≡ before ++ take count bytes)
