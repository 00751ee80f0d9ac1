use Rattle.std.specs.Prelude.{◌≡◌, ℕ, List}
use Rattle.qm_mapfile.specs.declared.entity.MapFile.{MapFile}
use Rattle.qm_partition.specs.Tree.{Tree}
use Rattle.qm_contacts.specs.Leak.{Origin}
use Rattle.qm_contacts.specs.World.{World}
use Rattle.qm_formats.specs.TreeFile.{TreeFile}
use Rattle.qm_statement.specs.declared.summary.Summary.{Summary}
use Rattle.qm_statement.specs.Built.{IsBuilt}
use Rattle.qm_statement.specs.CompiledMap.{NoneLeaks, IsCompiledWithoutLeak}
use Rattle.qm_statement.specs.DemoComesOf.{one_worker}
use Rattle.qm_statement.specs.Summary.{summary_text}

-- The summary of a map in which no entity leaks.

-- no entity leaks in the tree of the map
abbrev pub LeaksNowhere : MapFile → Type 0
LeaksNowhere map = (tree : Tree) (origins : List Origin) → IsBuilt map tree origins → NoneLeaks tree origins

-- the summary of what the map compiles to with one worker
pub record IsSummaryOfMap (map : MapFile) (text : List ℕ) : Type 0 where
  pub file : TreeFile
  pub world : World
  pub summary : Summary
  pub is_compiled : IsCompiledWithoutLeak map one_worker file world summary
  pub is_text : text ≡ summary_text summary
