use Rattle.std.specs.Prelude.{◌≡◌, ◌⊎◌, ℕ, List, Option, Result, Ok, Err, Some, IsTrue}
use Rattle.qm_surroundings.specs.ShelfState.{ShelfState}
use Rattle.qm_surroundings.specs.ShelfChanges.{IsKept, IsKeptElsewhere, MetNoFault}
use Rattle.qm_shelf.specs.FaultMeans.{WriteFaultMeans}
use Rattle.qm_surroundings.specs.WholeFiles.{HoldsExactly, HoldsUnfinished}
use Rattle.qm_shelf.specs.declared.shelf.ShelfFault.{ShelfFault}
use Rattle.qm_commands.specs.FileNames.{FileNames}
use Rattle.qm_statement.specs.Output.{Output}
use Rattle.qm_statement.specs.Written.{AreOthersKept, HoldsOut, HoldsListing}

-- How writing what a command makes ends.

-- all of it was written
pub record IsAllWritten (before after : ShelfState) (files : FileNames) (output : Output) : Type 0 where
  pub others : AreOthersKept before after files output.listing
  pub holds_out : HoldsOut before after files output.file
  pub holds_listing : HoldsListing before after files output.listing
  pub no_fault : MetNoFault before after

-- OUT was not written to its end, and nothing else was changed
pub record StopsInOut (before after : ShelfState) (files : FileNames) (output : Output) (fault : ShelfFault) : Type 0 where
  pub others : IsKeptElsewhere before after files.out_name
  pub part : IsTrue before.tells → HoldsUnfinished before after files.out_name output.file
  pub means : WriteFaultMeans before after files.out_name fault

-- OUT is whole, and FILE was not written to its end
pub record StopsInListing (before after : ShelfState) (files : FileNames) (output : Output) (fault : ShelfFault) : Type 0 where
  pub name : List ℕ
  pub is_asked : files.listing_name ≡ Some name
  pub bytes : List ℕ
  pub is_due : output.listing ≡ Some bytes
  pub others : AreOthersKept before after files output.listing
  pub holds_out : HoldsOut before after files output.file
  pub part : IsTrue before.tells → HoldsUnfinished before after name bytes
  pub means : WriteFaultMeans before after name fault

-- a file was written under a name, or not to its end
abbrev pub IsFileWriting : {T : Type 0} → ShelfState → ShelfState → List ℕ → List ℕ → Result T ShelfFault → Type 0
IsFileWriting before after name bytes (Ok _) =
    IsKeptElsewhere before after name × (IsTrue before.tells → HoldsExactly after name bytes) × MetNoFault before after
IsFileWriting before after name bytes (Err fault) =
    IsKeptElsewhere before after name × (IsTrue before.tells → HoldsUnfinished before after name bytes) × WriteFaultMeans before after name fault

-- a listing was written, or not to its end; nothing was changed where there is none, or no name for it
abbrev pub IsListingWriting : {T : Type 0} → ShelfState → ShelfState → Option (List ℕ) → Option (List ℕ) → Result T ShelfFault → Type 0
IsListingWriting before after (Some name) (Some bytes) result = IsFileWriting before after name bytes result
IsListingWriting before after name listing (Ok _) = IsKept before after × MetNoFault before after
IsListingWriting before after name listing (Err fault) = ⊥

abbrev pub IsWriting : {T : Type 0} → ShelfState → ShelfState → FileNames → Output → Result T ShelfFault → Type 0
IsWriting before after files output (Ok _) = IsAllWritten before after files output
IsWriting before after files output (Err fault) = StopsInOut before after files output fault ⊎ StopsInListing before after files output fault
