use Rattle.std.specs.Prelude.{◌≡◌, ◌≢◌, ℕ, ◌<◌, ◌≤◌, List, [], ◌∷◌, ◌++◌, All}

-- a part of a text: bytes that part tokens, a comment, a token, or a quote that is not closed with all that follows
pub data TextPiece : Type 0 where
  blank : ℕ → TextPiece
  comment : List ℕ → TextPiece
  word : List ℕ → TextPiece
  quoted : List ℕ → TextPiece
  unclosed : List ℕ → TextPiece

-- the bytes of a piece: `//` and a comment, a `"`, the bytes between and a `"`
abbrev pub bytes_of_piece : TextPiece → List ℕ
bytes_of_piece (blank byte) = byte ∷ []
bytes_of_piece (comment bytes) = 47 ∷ 47 ∷ bytes
bytes_of_piece (word bytes) = bytes
bytes_of_piece (quoted bytes) = 34 ∷ bytes ++ 34 ∷ []
bytes_of_piece (unclosed bytes) = 34 ∷ bytes

-- a comment ends before a line end, or with the text
abbrev pub EndsLine : List ℕ → Type 0
EndsLine [] = Unit {0}
EndsLine (byte ∷ _) = byte ≡ 10

-- a word ends before a byte up to 32, or with the text
abbrev pub EndsWord : List ℕ → Type 0
EndsWord [] = Unit {0}
EndsWord (byte ∷ _) = byte ≤ 32

-- the bytes open a word: the first is no quote, and the first two are not `//`
abbrev pub OpensWord : List ℕ → Type 0
OpensWord [] = ⊥
OpensWord (first ∷ []) = first ≢ 34
OpensWord (first ∷ second ∷ _) = (first ≢ 34) × (first ≡ 47 → second ≢ 47)

-- the piece is spelled as its sort asks, and ends before these bytes
abbrev pub IsTextPiece : TextPiece → List ℕ → Type 0
IsTextPiece (blank byte) after = byte ≤ 32
IsTextPiece (comment bytes) after = All (λ byte. byte ≢ 10) bytes × EndsLine after
IsTextPiece (word bytes) after = OpensWord bytes × All (λ byte. 32 < byte) bytes × EndsWord after
IsTextPiece (quoted bytes) after = All (λ byte. byte ≢ 34) bytes
IsTextPiece (unclosed bytes) after = All (λ byte. byte ≢ 34) bytes × (after ≡ [])

-- the text is these pieces, one after another
abbrev pub ArePiecesOf : List ℕ → List TextPiece → Type 0
ArePiecesOf text [] = text ≡ []
ArePiecesOf text (piece ∷ pieces) =
    (after : List ℕ) × (text ≡ bytes_of_piece piece ++ after) × IsTextPiece piece after × ArePiecesOf after pieces
