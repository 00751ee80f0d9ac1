use Rattle.std.specs.Prelude.{ℕ, List, [], ◌∷◌, Bool, true, if◌then◌else◌, nat_le}

-- bytes of any kind but blanks, in a row
abbrev pub Word : Type 0
Word = List ℕ

-- a byte that parts words: a space, a line end or any other up to 32
abbrev pub parts_words : ℕ → Bool
parts_words byte = nat_le byte 32

-- whether a text is at its end, or at a blank
abbrev pub is_at_gap : List ℕ → Bool
is_at_gap [] = true
is_at_gap (byte ∷ bytes) = parts_words byte

-- a byte put in front of the first word
abbrev pub lengthened : ℕ → List Word → List Word
lengthened byte [] = (byte ∷ []) ∷ []
lengthened byte (word ∷ words) = (byte ∷ word) ∷ words

-- the words of a text: the longest runs of bytes that are not blank, in order
abbrev pub words_of_text : List ℕ → List Word
words_of_text [] = []
words_of_text (byte ∷ bytes) =
    if parts_words byte then words_of_text bytes
    else (if is_at_gap bytes then (byte ∷ []) ∷ words_of_text bytes else lengthened byte (words_of_text bytes))
