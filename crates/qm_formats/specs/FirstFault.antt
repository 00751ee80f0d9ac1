use Rattle.std.specs.Prelude.{◌<◌, ℕ, ◌+◌, List, length}
use Rattle.qm_formats.specs.Layout.{Layout, each_from}
use Rattle.qm_formats.specs.Exact.{IsRightAt}
use Rattle.qm_formats.specs.FileParts.{FileFaultKind, short}

-- Which fault there is where parts of a file are due one after another: the first in the order of the parts, and its place.

-- where a part is due at a place of a file: which fault it has, and the place of the fault
abbrev pub Faults : Type 1
Faults = (file : List ℕ) (at : ℕ) → FileFaultKind → ℕ → Type 0

-- the file ends before so many bytes
abbrev pub EndsWithin : ℕ → List ℕ → ℕ → Type 0
EndsWithin size file at = length file < at + size

-- nothing that can stand at the place stands there
abbrev pub IsNoneAt : {X : Type 0} → Layout FileFaultKind X → List ℕ → ℕ → Type 0
IsNoneAt {X} layout file at = (x : X) (next : ℕ) → IsRightAt layout file at x next → ⊥

-- the file ends inside so many bytes, which may be any
pub data IsCutOff (size : ℕ) (file : List ℕ) (at : ℕ) : FileFaultKind → ℕ → Type 0 where
  cut_off : EndsWithin size file at → IsCutOff size file at short (length file)

-- the file ends inside a record; or all bytes of the record are there, and they are those of none that can stand there
pub data IsFaultOfRecord {X : Type 0} (layout : Layout FileFaultKind X) (Ends : List ℕ → ℕ → Type 0) (kind : FileFaultKind) (file : List ℕ) (at : ℕ) : FileFaultKind → ℕ → Type 0 where
  record_cut_off : Ends file at → IsFaultOfRecord layout Ends kind file at short (length file)
  no_record : (Ends file at → ⊥) → IsNoneAt layout file at → IsFaultOfRecord layout Ends kind file at kind at

-- a part has a fault; or it stands there, and what is due behind it has one
pub data IsFaultInTurn {X : Type 0} (first : Layout FileFaultKind X) (OfFirst : Faults) (OfNext : X → Faults) (file : List ℕ) (at : ℕ) (fault : FileFaultKind) (place : ℕ) : Type 0 where
  in_first : OfFirst file at fault place → IsFaultInTurn first OfFirst OfNext file at fault place
  behind_first : (x : X) (next : ℕ) → IsRightAt first file at x next → OfNext x file next fault place → IsFaultInTurn first OfFirst OfNext file at fault place

-- the same, where the part is a record of so many bytes
abbrev pub IsFaultFromRecord : {X : Type 0} → Layout FileFaultKind X → ℕ → FileFaultKind → (X → Faults) → Faults
IsFaultFromRecord layout size kind OfNext = IsFaultInTurn layout (IsFaultOfRecord layout (EndsWithin size) kind) OfNext

-- of so many values, of which the first has a number, some stand there, and the next has a fault
pub record IsFaultOfEach {X : Type 0} (layout : ℕ → Layout FileFaultKind X) (OfOne : ℕ → Faults) (number count : ℕ) (file : List ℕ) (at : ℕ) (fault : FileFaultKind) (place : ℕ) : Type 0 where
  pub values : List X
  pub next : ℕ
  pub few : length values < count
  pub stand : IsRightAt (each_from layout number (length values)) file at values next
  pub due : OfOne (number + length values) file next fault place
