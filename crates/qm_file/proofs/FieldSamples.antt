-- Worked rows: what a call may answer of a field of four bytes, and what it may not.
use Rattle.std.proofs.Common.{ℕ, negsuc, List, [], ◌∷◌, Ok, Err, refl}
use Rattle.std.specs.Int.{w32}
use Rattle.qm_formats.specs.Fields.{raw, signed, unsigned}
use Rattle.qm_formats.specs.FileParts.{short}
use Rattle.qm_file.specs.Answers.{AnswersField}

-- 1 stands at the place 1, its low byte first
abbrev bytes : List ℕ
bytes = 9 ∷ 1 ∷ 0 ∷ 0 ∷ 0 ∷ []

whole_row : AnswersField (Ok (1, 5)) ((unsigned short w32).read bytes 1)
unfolding unsigned raw
whole_row = refl

-- not the number with its high byte first, nor another end
high_first_row : AnswersField (Ok (16777216, 5)) ((unsigned short w32).read bytes 1) → ⊥
unfolding unsigned raw
high_first_row same = absurd cc

other_end_row : AnswersField (Ok (1, 4)) ((unsigned short w32).read bytes 1) → ⊥
unfolding unsigned raw
other_end_row same = absurd cc

-- at the place 2 the bytes end before a field does: the place of that is their end, and no number is answered
cut_row : AnswersField {X = ℕ} (Err (record { offset = 5 })) ((unsigned short w32).read bytes 2)
unfolding unsigned raw
cut_row = refl

other_place_row : AnswersField {X = ℕ} (Err (record { offset = 2 })) ((unsigned short w32).read bytes 2) → ⊥
unfolding unsigned raw
other_place_row same = absurd cc

none_read_row : (n next : ℕ) → AnswersField (Ok (n, next)) ((unsigned short w32).read bytes 2) → ⊥
unfolding unsigned raw
none_read_row n next same = absurd cc

-- four bytes 255 are -1 where the number may be negative
below_zero_row : AnswersField (Ok (negsuc 0, 4)) ((signed short w32).read (255 ∷ 255 ∷ 255 ∷ 255 ∷ []) 0)
unfolding signed unsigned raw
below_zero_row = refl
