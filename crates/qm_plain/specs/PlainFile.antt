use Rattle.std.specs.Prelude.{◌≡◌, ◌≤◌, ℕ, Bool, ◌&&◌, ◌==◌, List, [], length, Option, Some, None, is_none, if◌then◌else◌}
use Rattle.qm_formats.specs.Layout.{Decoded, got, bad}
use Rattle.qm_formats.specs.FileParts.{FileFaultKind}
use Rattle.qm_formats.specs.TreeFile.{TreeFile, IsValidFile}
use Rattle.qm_formats.specs.FileLayout.{file_bytes, file_limit, read_file}

-- A plain tree file has version 2 and a tree alone. Sections keep their trees so, in a file of their own with the bound of the
-- file in which they stand.

pub record IsPlainFile (bound : ℕ) (file : TreeFile) : Type 0 where
  pub version : file.version ≡ 2
  pub bound_is : file.bound ≡ bound
  pub no_rows : file.rows ≡ None
  pub no_sections : file.sections ≡ []

-- these are the bytes of a plain file, and no more than are read
pub record ArePlainBytes (bound : ℕ) (bytes : List ℕ) (file : TreeFile) : Type 0 where
  pub is_plain : IsPlainFile bound file
  pub is_valid : IsValidFile file
  pub bytes_are : bytes ≡ file_bytes file
  pub fits : length bytes ≤ file_limit

-- whether a file is plain
abbrev pub is_plain : ℕ → TreeFile → Bool
is_plain bound file = (file.version == 2) && ((file.bound == bound) && (is_none file.rows && (length file.sections == 0)))

-- what is read, where it is a plain file
abbrev pub plain_of : ℕ → Decoded FileFaultKind TreeFile → Option TreeFile
plain_of bound (got file next) = if is_plain bound file then Some file else None
plain_of bound (bad fault place) = None

-- the plain file of bytes; none where they are not those of one
unfoldable pub read_plain : ℕ → List ℕ → Option TreeFile
read_plain bound bytes = plain_of bound (read_file bytes)
