use Rattle.std.specs.Prelude.{◌≡◌, ℕ, Bool, true, false, List, ◌++◌, length, sum_by, count_by, codes, if◌then◌else◌}
use Rattle.qm_mapfile.specs.declared.entity.MapFile.{MapFile}
use Rattle.qm_drawn.specs.Solids.{drawn_solids}
use Rattle.qm_solids.specs.Flat.{HasFlat}
use Rattle.qm_partition.specs.Counting.{node_count, leaf_count, leaves_of}
use Rattle.qm_partition.specs.Tree.{Tree}
use Rattle.qm_contacts.specs.Leak.{Origin}
use Rattle.qm_contacts.specs.Filled.{NoneTakesPart, IsSealed}
use Rattle.qm_contacts.specs.NumberedLeaves.{is_numbered}
use Rattle.qm_contacts.specs.Portals.{HasPassages}
use Rattle.qm_coarse_rows.specs.Seen.{seen_of}
use Rattle.qm_statement.specs.declared.summary.Summary.{Summary}
use Rattle.qm_statement.specs.Texts.{line, line_of_count}

-- The summary that a command prints where it is done: a line for each count.

-- what is said where no entity leaks
abbrev pub IsVerdict : Tree → List Origin → Bool → Type 0
IsVerdict tree origins true = IsSealed tree origins
IsVerdict tree origins false = NoneTakesPart tree origins

-- the summary of a map, its tree, and the tree that is written with its rows: of the world, the brushes that are not clip
-- count, and a portal counts once for both ways through it
pub record IsSummary (map : MapFile) (tree : Tree) (origins : List Origin) (written : Tree) (rows : List (List Bool)) (summary : Summary) : Type 0 where
  pub verdict : IsVerdict tree origins summary.sealed
  pub brushes : summary.brushes ≡ length (drawn_solids map)
  pub flat : HasFlat (drawn_solids map) summary.flat
  pub planes : summary.planes ≡ length written.planes
  pub nodes : summary.nodes ≡ node_count written.shape
  pub leaves : summary.leaves ≡ leaf_count written.shape
  pub numbered : summary.numbered ≡ count_by is_numbered (leaves_of written.shape)
  pub filled : summary.filled ≡ count_by (λ found. found.filled) (leaves_of written.shape)
  pub portals : HasPassages written summary.portals
  pub seen : summary.seen ≡ seen_of rows

-- the lines of what a tree has
unfoldable pub tree_lines : Summary → List ℕ
tree_lines summary =
    line_of_count (codes "planes") summary.planes
    ++ (line_of_count (codes "nodes") summary.nodes
    ++ (line_of_count (codes "leaves") summary.leaves
    ++ (line_of_count (codes "numbered") summary.numbered ++ line_of_count (codes "filled") summary.filled)))

-- the lines of a summary
unfoldable pub summary_text : Summary → List ℕ
summary_text summary =
    line (if summary.sealed then codes "sealed" else codes "no entity")
    ++ (line_of_count (codes "brushes") summary.brushes
    ++ (line_of_count (codes "flat") summary.flat
    ++ (tree_lines summary
    ++ (line_of_count (codes "portals") summary.portals ++ line_of_count (codes "seen") summary.seen))))

-- how many brushes all entities have
abbrev pub brush_count : MapFile → ℕ
brush_count map = sum_by (λ entity. length entity.brushes) map.entities

-- how many entities a map has, and how many brushes
unfoldable pub format_summary : MapFile → List ℕ
format_summary map =
    line_of_count (codes "entities") (length map.entities) ++ line_of_count (codes "brushes") (brush_count map)
