use Rattle.std.specs.Prelude.{◌≡◌, ◌≤◌, ◌⊎◌, ℕ, Bool, true, false, List, Option, Some, None, length}
use Rattle.qm_mapfile.specs.declared.entity.MapFile.{MapFile}
use Rattle.qm_grammar.specs.Faults.{text_limit}
use Rattle.qm_grammar.specs.Meaning.{IsMapText}
use Rattle.qm_grammar.specs.Printed.{printed_map}
use Rattle.qm_contacts.specs.World.{World}
use Rattle.qm_formats.specs.TreeFile.{TreeFile}
use Rattle.qm_listing.specs.declared.listing.Listing.{Listing}
use Rattle.qm_listing.specs.Grammar.{listing_text}
use Rattle.qm_listing.specs.WorldListing.{IsListingOf}
use Rattle.qm_commands.specs.declared.map_command.MapCommand.{MapCommand}
use Rattle.qm_commands.specs.declared.map_command.MapCommand.TheVariants.{Compile, Format}
use Rattle.qm_commands.specs.declared.options.Options.{Options}
use Rattle.qm_statement.specs.declared.status.Status.{Status}
use Rattle.qm_statement.specs.declared.status.Status.TheVariants.{Done, Leak}
use Rattle.qm_statement.specs.declared.summary.Summary.{Summary}
use Rattle.qm_statement.specs.CompiledMap.{IsCompiledWithoutLeak, IsCompiledToLeak}
use Rattle.qm_statement.specs.Summary.{summary_text, format_summary}
use Rattle.qm_statement.specs.Texts.{leak_text}
use Rattle.qm_statement.specs.TreeBytes.{AreBytesOf}

-- What a command makes of a map.

-- the bytes of OUT, those of the listing where one is made, and the status and the text that are due once they are written
pub record Output : Type 0 where
  pub file : List ℕ
  pub listing : Option (List ℕ)
  pub status : Status
  pub text : List ℕ

-- the text of a listing of a world, where one is asked for
abbrev pub IsListed : Bool → World → Option (List ℕ) → Type 0
IsListed true world bytes = (listing : Listing) × IsListingOf world listing × (bytes ≡ Some (listing_text listing))
IsListed false world bytes = bytes ≡ None

-- `compile`, where no entity leaks: the bytes of the tree with its rows, the listing of its world where one is asked for, and
-- the summary
pub record IsOutputWithoutLeak (map : MapFile) (options : Options) (listed : Bool) (output : Output) : Type 0 where
  pub file : TreeFile
  pub world : World
  pub summary : Summary
  pub is_compiled : IsCompiledWithoutLeak map options file world summary
  pub is_file : AreBytesOf file output.file
  pub is_listed : IsListed listed world output.listing
  pub is_status : output.status ≡ Done
  pub is_text : output.text ≡ summary_text summary

-- `compile`, where an entity leaks: the bytes of the tree without rows, no listing, and that entity and its trail
pub record IsLeakOutput (map : MapFile) (output : Output) : Type 0 where
  pub file : TreeFile
  pub entity : ℕ
  pub trail : List ℕ
  pub is_compiled : IsCompiledToLeak map file entity trail
  pub is_file : AreBytesOf file output.file
  pub is_not_listed : output.listing ≡ None
  pub is_status : output.status ≡ Leak
  pub is_text : output.text ≡ leak_text entity trail

-- `format`: the canonical text of the map, and its counts; the text means the map, where it is within the limit
pub record IsFormatOutput (map : MapFile) (output : Output) : Type 0 where
  pub is_file : output.file ≡ printed_map map
  pub means_the_map : length (printed_map map) ≤ text_limit → IsMapText (printed_map map) map
  pub is_not_listed : output.listing ≡ None
  pub is_status : output.status ≡ Done
  pub is_text : output.text ≡ format_summary map

-- what a command makes of a map
unfoldable pub IsOutputOf : MapCommand → MapFile → Output → Type 0
IsOutputOf (Compile options listed) map output = IsOutputWithoutLeak map options listed output ⊎ IsLeakOutput map output
IsOutputOf Format map output = IsFormatOutput map output
