use Rattle.std.specs.Prelude.{◌≡◌, ℕ, IsTrue, ◌⊎◌, List, Some, Ok, Err}
use Rattle.qm_surroundings.specs.ShelfState.{ShelfState}
use Rattle.qm_surroundings.specs.ShelfChanges.{IsKept, MetNoFault, FailedToRead, FailedToWrite}
use Rattle.qm_surroundings.specs.WholeFiles.{HoldsTheSame, HoldsPrefix}
use Rattle.qm_mapfile.specs.declared.entity.MapFile.{MapFile}
use Rattle.qm_grammar.specs.declared.fault.MapFault.{MapFault}
use Rattle.qm_commands.specs.declared.map_command.MapCommand.{MapCommand}
use Rattle.qm_statement.specs.declared.status.Status.{Status}
use Rattle.qm_statement.specs.declared.status.Status.TheVariants as status
use Rattle.qm_statement.specs.declared.status.Status.TheVariants.{ReadFault, WriteFault}
use Rattle.qm_commands.specs.FileNames.{FileNames}
use Rattle.qm_statement.specs.FaultText.{fault_text}
use Rattle.qm_statement.specs.Output.{Output, IsOutputOf}
use Rattle.qm_statement.specs.TextMeans.{TextMeans}
use Rattle.qm_statement.specs.Texts.{read_fault_text, write_fault_text}
use Rattle.qm_statement.specs.Unfinished.{IsUnfinished}
use Rattle.qm_statement.specs.Written.{AreOthersKept, HoldsOut, HoldsListing}

-- What comes of a command that reads MAP, writes OUT and, where a listing is asked for and no entity leaks, writes FILE
-- after it.

-- what the command makes of the map that the text under MAP means
pub record IsOutputOfText (before : ShelfState) (command : MapCommand) (files : FileNames) (output : Output) : Type 0 where
  pub map : MapFile
  pub is_meant : TextMeans before files.map_name (Ok map)
  pub is_made : IsOutputOf command map output

-- the bytes that are due in OUT: those of what the command makes of the map that is meant
abbrev pub IsDueInOut : ShelfState → MapCommand → FileNames → List ℕ → Type 0
IsDueInOut before command files bytes = (output : Output) × IsOutputOfText before command files output × (output.file ≡ bytes)

-- writing OUT was not begun or not ended: it is as it was or has a part of what is due in it, and every other file, FILE
-- too, is as it was
abbrev pub IsOutUnfinished : ShelfState → ShelfState → MapCommand → FileNames → Type 0
IsOutUnfinished before after command files = IsUnfinished before after files.out_name (IsDueInOut before command files)

-- OUT is whole, and writing FILE was not begun or not ended: it is as it was or has some of the first bytes of the
-- listing that is due in it; and every other file is as it was
pub record IsListingUnfinished (before after : ShelfState) (command : MapCommand) (files : FileNames) (name : List ℕ) : Type 0 where
  pub is_asked : files.listing_name ≡ Some name
  pub output : Output
  pub is_due : IsOutputOfText before command files output
  pub listing : List ℕ
  pub is_listing : output.listing ≡ Some listing
  pub others : AreOthersKept before after files output.listing
  pub holds_out : HoldsOut before after files output.file
  pub part : IsTrue before.tells → HoldsTheSame before after name ⊎ HoldsPrefix after name listing

-- OUT is what the command makes of the map that is meant, and so is FILE where a listing is made; this status and this
-- text are due; and every other file is as it was, on a leak FILE too
pub record IsWritten (before after : ShelfState) (command : MapCommand) (files : FileNames) (status : Status) (text : List ℕ) : Type 0 where
  pub output : Output
  pub is_due : IsOutputOfText before command files output
  pub is_status : output.status ≡ status
  pub is_text : output.text ≡ text
  pub others : AreOthersKept before after files output.listing
  pub holds_out : HoldsOut before after files output.file
  pub holds_listing : HoldsListing before after files output.listing

-- memory ran out on the way: no call of the shelf failed, and OUT may be unfinished, or it is whole and FILE may be unfinished
pub record IsCutShort (before after : ShelfState) (command : MapCommand) (files : FileNames) : Type 0 where
  pub no_fault : MetNoFault before after
  pub unfinished : IsOutUnfinished before after command files ⊎ ((name : List ℕ) × IsListingUnfinished before after command files name)

-- what comes of it where memory does not run out: a status, and the text that is due with it
pub data ComesOf (before after : ShelfState) (command : MapCommand) (files : FileNames) : Status → List ℕ → Type 0 where
  -- MAP could not be read, and nothing was changed
  read_fault :
      FailedToRead before after files.map_name → IsKept before after →
      ComesOf before after command files ReadFault read_fault_text
  -- the text has a fault, and nothing was changed
  map_fault :
      {found : MapFault} → TextMeans before files.map_name (Err found) → IsKept before after → MetNoFault before after →
      ComesOf before after command files status.MapFault (fault_text found)
  -- OUT could not be written, or not to its end
  write_fault :
      {map : MapFile} → TextMeans before files.map_name (Ok map) →
      FailedToWrite before after files.out_name → IsOutUnfinished before after command files →
      ComesOf before after command files WriteFault write_fault_text
  -- OUT is whole, and FILE could not be written, or not to its end
  listing_fault :
      {name : List ℕ} → FailedToWrite before after name → IsListingUnfinished before after command files name →
      ComesOf before after command files WriteFault write_fault_text
  -- OUT is whole, and so is FILE where a listing is made
  written :
      {status : Status} {text : List ℕ} → IsWritten before after command files status text → MetNoFault before after →
      ComesOf before after command files status text
