use Rattle.std.specs.Prelude.{ℕ, Bool, List, [], ◌∷◌, ◌++◌, Option, codes, if◌then◌else◌}
use Rattle.std.specs.Int.{w64, to_le_bytes}
use Rattle.qm_partition.specs.Tree.{Tree}
use Rattle.qm_formats.specs.TreeFile.{TreeFile, small_bound}
use Rattle.qm_formats.specs.FileLayout.{Header, rows_layout, tree_layout, header_of}

-- Version 1 by itself: 41 bytes, then the planes, the nodes, the leaves and the rows.

-- a tree and its rows as a file of version 1
abbrev pub first_version : Tree → Option (List (List Bool)) → TreeFile
first_version tree rows = record { version = 1; bound = small_bound; tree = tree; rows = rows; sections = [] }

-- the 41 bytes: the magic bytes, four counts, and whether rows are there
unfoldable pub first_version_header : Header → List ℕ
first_version_header header =
    codes "QMTREE01"
    ++ (to_le_bytes w64 header.planes ++ (to_le_bytes w64 header.nodes ++ (to_le_bytes w64 header.leaves ++ (to_le_bytes w64 header.numbered ++ ((if header.has_rows then 1 else 0) ∷ [])))))

-- the bytes of a tree and its rows in version 1
unfoldable pub first_version_bytes : Tree → Option (List (List Bool)) → List ℕ
first_version_bytes tree rows =
    let header = header_of (first_version tree rows) in
    first_version_header header ++ ((tree_layout header).bytes_of tree ++ (rows_layout header).bytes_of rows)
