-- Worked rows: the fault of each kind in altered files of a world without brushes.
use Rattle.std.proofs.Common.{◌≡◌, ◌<◌, ℕ, true, List, [], ◌∷◌, ◌++◌, length, take, set, codes, replicate, refl}
use Rattle.qm_lists.specs.Spelling.{runs_of}
use Rattle.qm_lists.proofs.FirstFaults.{row_or_fault}
use Rattle.qm_partition.proofs.NumberedNodes.{numbered_or_not, pass_as_numbered}
use Rattle.qm_space.specs.ThreePoints.{factor_of, common_factor}
use Rattle.qm_numbers.specs.Gcd.{gcd, gcd_within}
use Rattle.qm_formats.specs.Layout.{bad}
use Rattle.qm_formats.specs.Fields.{are_bytes, raw, unsigned, signed, fixed_before, unwritten}
use Rattle.qm_formats.specs.Runs.{row_read, read_runs, in_runs}
use Rattle.qm_formats.specs.RowBits.{packed, unpacked, is_clear_past, row_bits}
use Rattle.qm_formats.specs.FileParts.{FileFaultKind, short, magic, counts, plane_form, node_order, leaf_form, row_form, trailing, too_long, header_form, section_form, is_plane, plane_layout, child_layout, node_layout, is_leaf, leaf_layout}
use Rattle.qm_formats.specs.FileLayout.{magic_layout, bound_layout, section_count_layout, file_header_layout, are_numbered, numbered_answer, are_ordered, own_row_layout, planes_layout, nodes_layout, leaves_layout, rows_layout, tree_layout, section_head_layout, section_layout, sections_layout, file_layout, read_file}
use Rattle.qm_formats.proofs.ExactFields.{bytes-are}
use Rattle.qm_formats.specs.TreeFaults.{IsFaultOfFileBytes, too_many_bytes}
use Rattle.qm_formats.proofs.TreeFaults.{tree_fault_in_words, tree_fault_again}

-- the header of version 2, a leaf of air, and the row in which it sees itself
abbrev file : List ℕ
file =
    codes "QMTREE02" ++ replicate 16 0 ++ (1 ∷ replicate 7 0) ++ (1 ∷ replicate 7 0) ++ (1 ∷ 0 ∷ 16 ∷ replicate 6 0)
    ++ (255 ∷ 255 ∷ 255 ∷ 255 ∷ 0 ∷ 1 ∷ [])

by_reading : (bytes : List ℕ) (fault : FileFaultKind) (place : ℕ) → are_bytes bytes ≡ true → read_file bytes ≡ bad fault place → IsFaultOfFileBytes bytes fault place
by_reading bytes fault place are failed = tree_fault_in_words bytes (bytes-are bytes are) fault place failed

-- cut in the header and before the row; the version 3; 2^32 planes; two leaves; two numbered leaves; 2 for whether rows follow
of_header :
    IsFaultOfFileBytes (take 47 file) short 47 × IsFaultOfFileBytes (take 54 file) short 54 × IsFaultOfFileBytes (set file 7 51) magic 7
    × IsFaultOfFileBytes (set file 12 1) counts 8 × IsFaultOfFileBytes (set file 24 2) counts 24 × IsFaultOfFileBytes (set file 32 2) counts 32 × IsFaultOfFileBytes (set file 40 2) counts 40
unfolding read_file file_layout file_header_layout magic_layout fixed_before bound_layout section_count_layout unwritten unsigned signed raw tree_layout planes_layout nodes_layout leaves_layout leaf_layout is_leaf are_ordered are_numbered numbered_answer numbered_or_not pass_as_numbered rows_layout own_row_layout row_bits in_runs read_runs row_read row_or_fault packed unpacked is_clear_past sections_layout section_layout section_head_layout
of_header = (by_reading _ _ _ refl refl, by_reading _ _ _ refl refl, by_reading _ _ _ refl refl, by_reading _ _ _ refl refl, by_reading _ _ _ refl refl, by_reading _ _ _ refl refl, by_reading _ _ _ refl refl)

-- the bound 4097; a plane of zeros; a node of a plane that is not there; the code 0; no numbered leaf, where one is not solid
of_tree :
    IsFaultOfFileBytes (set file 41 1) header_form 41 × IsFaultOfFileBytes (take 49 (set file 8 1) ++ replicate 20 0) plane_form 49
    × IsFaultOfFileBytes (set (set file 16 1) 24 2 ++ replicate 14 0) node_order 49
    × IsFaultOfFileBytes (set (set (set (set file 49 0) 50 0) 51 0) 52 0) leaf_form 49 × IsFaultOfFileBytes (set (set file 32 0) 40 0) counts 32
unfolding read_file file_layout file_header_layout magic_layout fixed_before bound_layout section_count_layout unwritten unsigned signed raw tree_layout planes_layout nodes_layout leaves_layout is_plane plane_layout child_layout node_layout is_leaf leaf_layout rows_layout own_row_layout row_bits in_runs runs_of read_runs row_read row_or_fault packed unpacked is_clear_past sections_layout section_layout section_head_layout are_ordered are_numbered numbered_answer numbered_or_not pass_as_numbered common_factor factor_of gcd gcd_within
of_tree = (by_reading _ _ _ refl refl, by_reading _ _ _ refl refl, by_reading _ _ _ refl refl, by_reading _ _ _ refl refl, by_reading _ _ _ refl refl)

-- a run of no zeros, and one past the row's end; a bit past the last leaf; no bit for the own leaf; a section of kind 0; one of the kind before; a section cut
-- off; a byte more
of_rest :
    IsFaultOfFileBytes (set file 54 0 ++ 0 ∷ []) row_form 54 × IsFaultOfFileBytes (set file 54 0 ++ 2 ∷ []) row_form 54 × IsFaultOfFileBytes (set file 54 3) row_form 54 × IsFaultOfFileBytes (set file 54 0 ++ 1 ∷ []) row_form 54
    × IsFaultOfFileBytes (set file 45 1 ++ replicate 12 0) section_form 55 × IsFaultOfFileBytes (set file 45 2 ++ 7 ∷ replicate 11 0 ++ 7 ∷ replicate 11 0) section_form 67
    × IsFaultOfFileBytes (set file 45 1 ++ 7 ∷ replicate 3 0 ++ 2 ∷ replicate 8 0) short 68 × IsFaultOfFileBytes (file ++ 0 ∷ []) trailing 55
unfolding read_file file_layout file_header_layout magic_layout fixed_before bound_layout section_count_layout unwritten unsigned signed raw tree_layout planes_layout nodes_layout leaves_layout is_plane plane_layout child_layout node_layout is_leaf leaf_layout rows_layout own_row_layout row_bits in_runs runs_of read_runs row_read row_or_fault packed unpacked is_clear_past sections_layout section_layout section_head_layout are_ordered are_numbered numbered_answer numbered_or_not pass_as_numbered common_factor factor_of gcd gcd_within
of_rest = (by_reading _ _ _ refl refl, by_reading _ _ _ refl refl, by_reading _ _ _ refl refl, by_reading _ _ _ refl refl, by_reading _ _ _ refl refl, by_reading _ _ _ refl refl, by_reading _ _ _ refl refl, by_reading _ _ _ refl refl)

of_long : (bytes : List ℕ) → 1073741824 < length bytes → IsFaultOfFileBytes bytes too_long 1073741824
of_long bytes more = too_many_bytes more

-- the file itself has no fault
of_none : (fault : FileFaultKind) (place : ℕ) → IsFaultOfFileBytes file fault place → ⊥
unfolding read_file file_layout file_header_layout magic_layout fixed_before bound_layout section_count_layout unwritten unsigned signed raw tree_layout planes_layout nodes_layout leaves_layout is_plane plane_layout child_layout node_layout is_leaf leaf_layout rows_layout own_row_layout row_bits in_runs runs_of read_runs row_read row_or_fault packed unpacked is_clear_past sections_layout section_layout section_head_layout are_ordered are_numbered numbered_answer numbered_or_not pass_as_numbered common_factor factor_of gcd gcd_within
of_none fault place is = let e : read_file file ≡ bad fault place = tree_fault_again file (bytes-are file refl) fault place is in cc
