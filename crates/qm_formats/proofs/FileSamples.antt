-- Worked rows: the files of a world without brushes.
use Rattle.std.proofs.Common.{◌≡◌, ℕ, Bool, true, false, List, [], ◌∷◌, ◌++◌, Option, Some, codes, replicate, refl}
use Rattle.qm_contents.specs.declared.contents.Contents.TheVariants.{Empty}
use Rattle.qm_partition.specs.Partition.{leaf}
use Rattle.qm_partition.specs.Tree.{Tree}
use Rattle.qm_formats.specs.Layout.{got, bad}
use Rattle.qm_formats.specs.Fields.{raw, unsigned, signed, fixed_before, unwritten}
use Rattle.qm_lists.specs.Spelling.{runs_of}
use Rattle.qm_lists.proofs.FirstFaults.{row_or_fault}
use Rattle.qm_formats.specs.Runs.{row_read, read_runs, in_runs}
use Rattle.qm_formats.specs.RowBits.{packed, unpacked, is_clear_past, row_bits}
use Rattle.qm_formats.specs.FileParts.{section_form, is_leaf, leaf_layout}
use Rattle.qm_formats.specs.TreeFile.{Section, TreeFile, IsValidFile, large_bound}
use Rattle.qm_formats.specs.Upgraded.{upgraded}
use Rattle.qm_formats.specs.FirstVersion.{first_version, first_version_header, first_version_bytes}
use Rattle.qm_partition.proofs.NumberedNodes.{numbered_or_not, pass_as_numbered}
use Rattle.qm_formats.specs.FileLayout.{magic_layout, bound_layout, section_count_layout, file_header_layout, are_numbered, numbered_answer, are_ordered, own_row_layout, planes_layout, nodes_layout, leaves_layout, rows_layout, tree_layout, section_head_layout, section_layout, sections_layout, file_layout, file_bytes, read_file}
use Rattle.qm_formats.proofs.ValidFiles.{right_valid}

abbrev tree : Tree
tree = record { planes = []; shape = leaf (record { contents = Empty; filled = false }) }

-- its one leaf sees itself
abbrev rows : Option (List (List Bool))
rows = Some ((true ∷ []) ∷ [])

-- ---- version 1

-- what stands from byte 8 to byte 40: no planes, no nodes, a leaf, a numbered leaf, and that rows are there
abbrev counts : List ℕ
counts = replicate 16 0 ++ (1 ∷ replicate 7 0) ++ (1 ∷ replicate 7 0) ++ (1 ∷ [])

-- what stands behind the header: the leaf and its row
abbrev leaf_and_row : List ℕ
leaf_and_row = 255 ∷ 255 ∷ 255 ∷ 255 ∷ 0 ∷ 1 ∷ []

first_bytes : first_version_bytes tree rows ≡ codes "QMTREE01" ++ counts ++ leaf_and_row
unfolding first_version_bytes first_version_header rows_layout own_row_layout row_bits in_runs runs_of packed tree_layout planes_layout nodes_layout leaves_layout leaf_layout signed unsigned raw
first_bytes = refl

first_valid : IsValidFile (first_version tree rows)
unfolding file_layout file_header_layout magic_layout bound_layout section_count_layout unwritten unsigned signed raw tree_layout planes_layout nodes_layout leaves_layout leaf_layout is_leaf are_ordered are_numbered numbered_answer numbered_or_not pass_as_numbered rows_layout own_row_layout row_bits sections_layout
first_valid = right_valid (first_version tree rows) refl

-- ---- version 2

-- what stands from byte 41 to byte 48: the bound, and how many sections there are
abbrev bound_and_sections : ℕ → List ℕ
bound_and_sections count = 0 ∷ 16 ∷ 0 ∷ 0 ∷ count ∷ 0 ∷ 0 ∷ 0 ∷ []

second_bytes : file_bytes (upgraded (first_version tree rows)) ≡ codes "QMTREE02" ++ counts ++ bound_and_sections 0 ++ leaf_and_row
unfolding file_bytes file_layout file_header_layout magic_layout fixed_before bound_layout section_count_layout unwritten unsigned signed raw tree_layout planes_layout nodes_layout leaves_layout leaf_layout rows_layout own_row_layout row_bits in_runs runs_of packed sections_layout
second_bytes = refl

-- a section of kind 7 without bytes
abbrev seventh : List ℕ
seventh = 7 ∷ replicate 11 0

-- of two sections of one kind, the second is wrong
two_of_a_kind : read_file (codes "QMTREE02" ++ counts ++ bound_and_sections 2 ++ leaf_and_row ++ seventh ++ seventh) ≡ bad section_form 67
unfolding read_file file_layout file_header_layout magic_layout fixed_before bound_layout section_count_layout unwritten unsigned signed raw tree_layout planes_layout nodes_layout leaves_layout leaf_layout is_leaf are_ordered are_numbered numbered_answer numbered_or_not pass_as_numbered rows_layout own_row_layout row_bits in_runs read_runs row_read row_or_fault packed unpacked is_clear_past sections_layout section_layout section_head_layout
two_of_a_kind = refl

-- ---- the larger cube, and three sections

abbrev three_sections : List Section
three_sections = record { kind = 1; bytes = [] } ∷ record { kind = 7; bytes = 65 ∷ [] } ∷ record { kind = 4294967295; bytes = 0 ∷ 255 ∷ [] } ∷ []

abbrev with_sections : TreeFile
with_sections = record { version = 2; bound = large_bound; tree = tree; rows = rows; sections = three_sections }

sections_valid : IsValidFile with_sections
unfolding file_layout file_header_layout magic_layout bound_layout section_count_layout unwritten unsigned signed raw tree_layout planes_layout nodes_layout leaves_layout leaf_layout is_leaf are_ordered are_numbered numbered_answer numbered_or_not pass_as_numbered rows_layout own_row_layout row_bits sections_layout section_layout section_head_layout
sections_valid = right_valid with_sections refl

-- what stands behind the row: of each section its kind, how many bytes it has, and these
abbrev section_parts : List ℕ
section_parts =
    1 ∷ replicate 11 0
    ++ (7 ∷ 0 ∷ 0 ∷ 0 ∷ 1 ∷ replicate 7 0 ++ 65 ∷ [])
    ++ (255 ∷ 255 ∷ 255 ∷ 255 ∷ 2 ∷ replicate 7 0 ++ 0 ∷ 255 ∷ [])

sections_read : read_file (codes "QMTREE02" ++ counts ++ (0 ∷ 128 ∷ 0 ∷ 0 ∷ 3 ∷ 0 ∷ 0 ∷ 0 ∷ []) ++ leaf_and_row ++ section_parts) ≡ got with_sections 94
unfolding read_file file_layout file_header_layout magic_layout fixed_before bound_layout section_count_layout unwritten unsigned signed raw tree_layout planes_layout nodes_layout leaves_layout leaf_layout is_leaf are_ordered are_numbered numbered_answer numbered_or_not pass_as_numbered rows_layout own_row_layout row_bits in_runs read_runs row_read row_or_fault packed unpacked is_clear_past sections_layout section_layout section_head_layout
sections_read = refl
