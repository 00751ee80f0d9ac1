-- What has to be read of bytes shows of all of them which tree file they are, and which fault they have.
use Rattle.std.proofs.Common.{◌≡◌, ◌<◌, ◌≤◌, ◌⊎◌, ℕ, ◌+◌, List, length, subst, inl, inr, arith}
use Rattle.std.proofs.lemmas.Bool.{cases_lt}
use Rattle.std.proofs.lemmas.List.{take_all, length-take-le}
use Rattle.qm_lists.specs.Limit.{up_to_one_past}
use Rattle.qm_formats.specs.FileParts.{FileFaultKind}
use Rattle.qm_formats.specs.FileLayout.{file_limit, IsFileOf}
use Rattle.qm_formats.specs.TreeFaults.{IsFaultOfFileBytes, too_many_bytes, in_part, behind_file}
use Rattle.qm_formats.specs.TreeFile.{TreeFile}

-- bytes that are no more than are read are read to their end
pub all_are_read : (bytes : List ℕ) → length bytes ≤ file_limit → up_to_one_past file_limit bytes ≡ bytes
unfolding up_to_one_past
all_are_read bytes fits = take_all (file_limit + 1) bytes (omega (arith, fits))

-- what is read of bytes is all of them, or it is too long, and so are they
cut_or_long : (limit : ℕ) (bytes : List ℕ) → (up_to_one_past limit bytes ≡ bytes) ⊎ ((limit < length bytes) × (limit < length (up_to_one_past limit bytes)))
unfolding up_to_one_past
cut_or_long limit bytes = elim (cases_lt limit (length bytes)) [
  | inl more ↦ inr (more, let long = length-take-le (limit + 1) bytes (omega (arith, more)) in omega (arith, long))
  | inr fits ↦ inl (take_all (limit + 1) bytes (omega (arith, fits)))
]

pub file_of_cut : (bytes : List ℕ) (file : TreeFile) → IsFileOf (up_to_one_past file_limit bytes) file → IsFileOf bytes file
file_of_cut bytes file is = elim (cut_or_long file_limit bytes) [
  | inl same ↦ subst (λ (b : List ℕ). IsFileOf b file) same is
  | inr long ↦ absurd (let more = long.1 in let fits = is.fits in omega (arith, more, fits))
]

-- bytes that are too long have this fault, and so has any other list that is too long
long_fault : (read bytes : List ℕ) (kind : FileFaultKind) (place : ℕ) → file_limit < length read → file_limit < length bytes → IsFaultOfFileBytes read kind place → IsFaultOfFileBytes bytes kind place
long_fault read bytes kind place read_more more (too_many_bytes its_more) = too_many_bytes more
long_fault read bytes kind place read_more more (in_part fault where_is fits has) = absurd (omega (arith, read_more, fits))
long_fault read bytes kind place read_more more (behind_file front left file fits is some bytes_are) = absurd (omega (arith, read_more, fits))

pub fault_of_cut : (bytes : List ℕ) (kind : FileFaultKind) (place : ℕ) → IsFaultOfFileBytes (up_to_one_past file_limit bytes) kind place → IsFaultOfFileBytes bytes kind place
fault_of_cut bytes kind place is = elim (cut_or_long file_limit bytes) [
  | inl same ↦ subst (λ (b : List ℕ). IsFaultOfFileBytes b kind place) same is
  | inr long ↦ long_fault (up_to_one_past file_limit bytes) bytes kind place long.1 long.0 is
]
