-- Worked rows: which files are plain, and the plain file of a world without brushes, read in its bytes.
use Rattle.std.proofs.Common.{◌≡◌, ℕ, true, false, List, [], ◌∷◌, ◌++◌, Some, None, codes, replicate, refl}
use Rattle.qm_contents.specs.declared.contents.Contents.TheVariants.{Empty}
use Rattle.qm_partition.specs.Partition.{leaf}
use Rattle.qm_partition.specs.Tree.{Tree}
use Rattle.qm_formats.specs.Fields.{raw, unsigned, signed, fixed_before, unwritten}
use Rattle.qm_formats.specs.FileParts.{is_leaf, leaf_layout}
use Rattle.qm_formats.specs.TreeFile.{TreeFile}
use Rattle.qm_partition.proofs.NumberedNodes.{numbered_or_not, pass_as_numbered}
use Rattle.qm_formats.specs.FileLayout.{magic_layout, bound_layout, section_count_layout, file_header_layout, are_numbered, numbered_answer, are_ordered, planes_layout, nodes_layout, leaves_layout, rows_layout, tree_layout, sections_layout, file_layout, read_file}
use Rattle.qm_plain.specs.PlainFile.{is_plain, read_plain}

abbrev tree : Tree
tree = record { planes = []; shape = leaf (record { contents = Empty; filled = false }) }

abbrev plain : TreeFile
plain = record { version = 2; bound = 32768; tree = tree; rows = None; sections = [] }

plain_row : is_plain 32768 plain ≡ true
plain_row = refl

-- of another cube, of version 1, with rows, with a section
other_bound_row : is_plain 4096 plain ≡ false
other_bound_row = refl

first_version_row : is_plain 4096 (record { version = 1; bound = 4096; tree = tree; rows = None; sections = [] }) ≡ false
first_version_row = refl

with_rows_row : is_plain 32768 (record { version = 2; bound = 32768; tree = tree; rows = Some ((true ∷ []) ∷ []); sections = [] }) ≡ false
with_rows_row = refl

with_section_row : is_plain 32768 (record { version = 2; bound = 32768; tree = tree; rows = None; sections = record { kind = 7; bytes = [] } ∷ [] }) ≡ false
with_section_row = refl

-- no planes, no nodes, a leaf, a numbered leaf, no rows; the bound; no sections; the leaf
abbrev plain_bytes : List ℕ
plain_bytes =
    codes "QMTREE02" ++ replicate 16 0 ++ (1 ∷ replicate 7 0) ++ (1 ∷ replicate 7 0) ++ (0 ∷ 0 ∷ 128 ∷ 0 ∷ 0 ∷ replicate 4 0) ++ (255 ∷ 255 ∷ 255 ∷ 255 ∷ 0 ∷ [])

read_row : read_plain 32768 plain_bytes ≡ Some plain
unfolding read_plain read_file file_layout file_header_layout magic_layout fixed_before bound_layout section_count_layout unwritten unsigned signed raw tree_layout planes_layout nodes_layout leaves_layout leaf_layout is_leaf are_ordered are_numbered numbered_answer numbered_or_not pass_as_numbered rows_layout sections_layout
read_row = refl

-- for another bound there is none in these bytes, nor where a byte is missing
other_cube_row : read_plain 4096 plain_bytes ≡ None
unfolding read_plain read_file file_layout file_header_layout magic_layout fixed_before bound_layout section_count_layout unwritten unsigned signed raw tree_layout planes_layout nodes_layout leaves_layout leaf_layout is_leaf are_ordered are_numbered numbered_answer numbered_or_not pass_as_numbered rows_layout sections_layout
other_cube_row = refl

no_bytes_row : read_plain 32768 [] ≡ None
unfolding read_plain read_file file_layout file_header_layout magic_layout fixed_before bound_layout section_count_layout unwritten unsigned signed raw tree_layout planes_layout nodes_layout leaves_layout leaf_layout is_leaf are_ordered are_numbered numbered_answer numbered_or_not pass_as_numbered rows_layout sections_layout
no_bytes_row = refl
