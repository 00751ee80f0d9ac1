use Rattle.std.specs.Prelude.{ℕ, ◌≡◌, ◌||◌, Bool, List, Option, is_none}
use Rattle.std.specs.NonZero.{non_zero_u64_get}
use Rattle.qm_shelf.specs.CallNumbers.{one_more, raised_if, is_listed}
use Rattle.qm_shelf.specs.NamedFiles.{file_under}
use Rattle.qm_shelf.specs.declared.mem_shelf.MemShelf.{MemShelf}

-- the bytes of the file under a name, and none where the name is not held
abbrev pub held : MemShelf → List ℕ → Option (List ℕ)
held shelf name = file_under shelf.files name

-- how many calls were made: the number of the next
abbrev pub calls : MemShelf → ℕ
calls shelf = shelf.calls.made

-- the numbers of the calls that fail
abbrev pub failing : MemShelf → List ℕ
failing shelf = shelf.calls.failing.items

-- the most bytes that a read gives
abbrev pub most_at_once : MemShelf → ℕ
most_at_once shelf = non_zero_u64_get shelf.most

-- how many reads failed
abbrev pub read_faults : MemShelf → ℕ
read_faults shelf = shelf.read_faults

-- how many creations and additions failed
abbrev pub write_faults : MemShelf → ℕ
write_faults shelf = shelf.write_faults

-- whether the next call is listed as one that fails
abbrev pub is_next_listed : MemShelf → Bool
is_next_listed shelf = is_listed (calls shelf) (failing shelf)

-- whether a read of a name fails: it is listed, or the name is not held
abbrev pub does_read_fail : MemShelf → List ℕ → Bool
does_read_fail shelf name = is_next_listed shelf || is_none (held shelf name)

-- one call more was made, and a count rose by one exactly where its kind of call failed
pub record IsCallCounted (before after : MemShelf) (read_fails write_fails : Bool) : Type 0 where
  pub calls_made : calls after ≡ one_more (calls before)
  pub listed : failing after ≡ failing before
  pub reads : read_faults after ≡ raised_if read_fails (read_faults before)
  pub writes : write_faults after ≡ raised_if write_fails (write_faults before)

-- the calls made, those listed and both counts are as before
pub record KeepsPlan (before after : MemShelf) : Type 0 where
  pub calls_made : calls after ≡ calls before
  pub listed : failing after ≡ failing before
  pub reads : read_faults after ≡ read_faults before
  pub writes : write_faults after ≡ write_faults before
