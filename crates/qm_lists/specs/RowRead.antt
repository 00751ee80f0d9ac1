use Rattle.std.specs.Prelude.{◌≡◌, ◌<◌, ◌≤◌, ℕ, List, length, take, slice_index, Result, Ok, Err}
use Rattle.qm_lists.specs.Spelling.{SpellsRow, RunFaultKind}
use Rattle.qm_lists.specs.FirstWrong.{IsFaultOf}

-- What reading a row of so many bytes in some bytes answers: the row that the first of them spell, and how many these are;
-- or why they begin with no spelling of such a row.
abbrev pub IsRowRead : ℕ → List ℕ → Result (List ℕ × ℕ) RunFaultKind → Type 0
IsRowRead width bytes (Ok read) = (length read.0 ≡ width) × (read.1 ≤ length bytes) × SpellsRow (take read.1 bytes) read.0
IsRowRead width bytes (Err fault) = IsFaultOf width bytes fault

-- the answer, where each byte is below 256
abbrev pub IsRowReadOfBytes : ℕ → List ℕ → Result (List ℕ × ℕ) RunFaultKind → Type 0
IsRowReadOfBytes width bytes answer = ((i : ℕ) → slice_index bytes i < 256) → IsRowRead width bytes answer
