use Rattle.std.specs.Prelude.{◌≡◌, ℕ, false, List}
use Rattle.qm_surroundings.specs.ShelfState.{ShelfState}
use Rattle.qm_contacts.specs.World.{World}
use Rattle.qm_formats.specs.TreeFile.{TreeFile}
use Rattle.qm_rooms.specs.Rooms.{rooms_map}
use Rattle.qm_commands.specs.declared.options.Options.{Options}
use Rattle.qm_statement.specs.declared.status.Status.{Status}
use Rattle.qm_statement.specs.declared.status.Status.TheVariants.{Done}
use Rattle.qm_statement.specs.declared.summary.Summary.{Summary}
use Rattle.qm_statement.specs.CompiledMap.{IsCompiledWithoutLeak}
use Rattle.qm_statement.specs.Summary.{summary_text}
use Rattle.qm_statement.specs.Untouched.{IsUntouched}

-- What comes of a command that compiles a generated map.

-- one worker finds finer rows, and there is no section
abbrev pub one_worker : Options
one_worker = record { threads = 1; fast = false; hulls = false; models = false; faces = false }

-- the summary of the map of so many rooms that is generated from a number: of its tree and rows, which it compiles to without
-- a leak
pub record IsSummaryOfRooms (rooms number : ℕ) (text : List ℕ) : Type 0 where
  pub file : TreeFile
  pub world : World
  pub summary : Summary
  pub is_compiled : IsCompiledWithoutLeak (rooms_map rooms number) one_worker file world summary
  pub is_text : text ≡ summary_text summary

-- what comes of it where memory does not run out: the summary, and no file is touched
pub data DemoComesOf (before after : ShelfState) (rooms number : ℕ) : Status → List ℕ → Type 0 where
  summed_up :
      {text : List ℕ} → IsSummaryOfRooms rooms number text → IsUntouched before after →
      DemoComesOf before after rooms number Done text
