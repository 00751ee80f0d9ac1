use Rattle.std.specs.Prelude.{◌≡◌, ◌⊎◌, ◌<◌, ◌^◌, ℕ, List, Some, length, IsTrue}
use Rattle.qm_surroundings.specs.ShelfState.{ShelfState}
use Rattle.qm_surroundings.specs.WholeFiles.{HoldsTheSame, HoldsExactly}
use Rattle.qm_formats.specs.FileParts.{short, too_long}
use Rattle.qm_formats.specs.FileLayout.{file_limit}
use Rattle.qm_formats.specs.TreeFaults.{IsFaultOfFileBytes}
use Rattle.qm_listing.specs.declared.listing.Listing.{Listing}
use Rattle.qm_listing.specs.Grammar.{listing_text, can_stand}
use Rattle.qm_commands.specs.declared.map_command.MapCommand.{MapCommand}
use Rattle.qm_commands.specs.declared.map_command.MapCommand.TheVariants.{Compile}
use Rattle.qm_commands.specs.FileNames.{FileNames}
use Rattle.qm_commands.specs.Order.{Order, of_map, of_upgrade}
use Rattle.qm_commands.specs.Words.{AreWordsOf}
use Rattle.qm_statement.specs.ComesOf.{IsOutputOfText, IsDueInOut}
use Rattle.qm_statement.specs.Output.{Output}
use Rattle.qm_statement.specs.UpgradeComesOf.{IsUpgradeDue}

-- No tree file or listing is taken for whole that was cut off. However `compile` or `upgrade` ends, each file that it writes is as
-- it was, is whole, or has bytes that are refused when they are read; a listing so only if its numbers are short. This says nothing
-- of `format`, since the beginning of a text can be a map.

-- bytes that are refused in place of a tree file: their first fault is that they are too short, where they end, or that they are
-- more than are read
abbrev pub IsTreeRefused : List ℕ → List ℕ → Type 0
IsTreeRefused bytes part = IsFaultOfFileBytes part short (length part) ⊎ IsFaultOfFileBytes part too_long file_limit

-- the text has fewer than 2^62 bytes, and each listing whose text it is has fewer than 10^18 leaves: its counts have 18 digits at
-- most
pub record HasShortNumbers (text : List ℕ) : Type 0 where
  pub leaves : (listing : Listing) → text ≡ listing_text listing → listing.leaves < 10 ^ 18
  pub bytes : length text < 2 ^ 62

-- bytes that are refused in place of the text of a listing: they are the text of no listing, if the numbers of that text are short
abbrev pub IsListingRefused : List ℕ → List ℕ → Type 0
IsListingRefused text part = HasShortNumbers text → (other : Listing) → IsTrue (can_stand other) → part ≡ listing_text other → ⊥

-- the file has all bytes that are due in it
abbrev pub HoldsAll : ShelfState → List ℕ → (List ℕ → Type 0) → Type 0
HoldsAll after name IsDue = (bytes : List ℕ) × IsDue bytes × HoldsExactly after name bytes

-- the file has bytes that are refused in place of those that are due
abbrev pub HoldsRefused : ShelfState → List ℕ → (List ℕ → Type 0) → (List ℕ → List ℕ → Type 0) → Type 0
HoldsRefused after name IsDue IsRefused = (bytes : List ℕ) × (part : List ℕ) × IsDue bytes × HoldsExactly after name part × IsRefused bytes part

-- the file is as it was, has all bytes that are due in it, or has bytes that are refused in their place
abbrev pub IsNotTorn : ShelfState → ShelfState → List ℕ → (List ℕ → Type 0) → (List ℕ → List ℕ → Type 0) → Type 0
IsNotTorn before after name IsDue IsRefused =
    HoldsTheSame before after name ⊎ (HoldsAll after name IsDue ⊎ HoldsRefused after name IsDue IsRefused)

-- the bytes that are due in FILE: those of the listing of what the command makes of the map that is meant
abbrev pub IsDueInListing : ShelfState → MapCommand → FileNames → List ℕ → Type 0
IsDueInListing before command files bytes = (output : Output) × IsOutputOfText before command files output × (output.listing ≡ Some bytes)

-- so it is of OUT, and of FILE where a listing is asked for
pub record AreNotTorn (before after : ShelfState) (command : MapCommand) (files : FileNames) : Type 0 where
  pub out : IsNotTorn before after files.out_name (IsDueInOut before command files) IsTreeRefused
  pub listing : (name : List ℕ) → files.listing_name ≡ Some name → IsNotTorn before after name (IsDueInListing before command files) IsListingRefused

-- what a command leaves that writes files which can be read again
abbrev pub LeavesNoneTorn : Order → ShelfState → ShelfState → Type 0
LeavesNoneTorn (of_map (Compile options listed) files) before after = AreNotTorn before after (Compile options listed) files
LeavesNoneTorn (of_upgrade tree_name out_name) before after = IsNotTorn before after out_name (IsUpgradeDue before tree_name) IsTreeRefused
LeavesNoneTorn _ before after = Unit {0}

-- where the shelf tells what it holds, no file is taken for whole that a command left torn
unfoldable pub NoneIsTorn : List (List ℕ) → ShelfState → ShelfState → Type 0
NoneIsTorn words before after = IsTrue before.tells → (order : Order) → AreWordsOf order words → LeavesNoneTorn order before after
