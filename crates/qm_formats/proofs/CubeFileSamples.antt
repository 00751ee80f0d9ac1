-- Worked rows: the file of a world with one cube, and what is read where it is altered.
use Rattle.std.proofs.Common.{◌≡◌, ℕ, Bool, true, false, List, [], ◌∷◌, ◌++◌, length, take, set, Some, refl}
use Rattle.qm_numbers.specs.Gcd.{gcd, gcd_within}
use Rattle.qm_numbers.proofs.Divisors.{divisor_of_four}
use Rattle.qm_space.specs.ThreePoints.{factor_of, common_factor}
use Rattle.qm_partition.proofs.Samples.{cube_tree}
use Rattle.qm_formats.specs.Layout.{bad}
use Rattle.qm_formats.specs.Fields.{raw, unsigned, signed, fixed_before, unwritten}
use Rattle.qm_lists.specs.Spelling.{runs_of}
use Rattle.qm_lists.proofs.FirstFaults.{row_or_fault}
use Rattle.qm_formats.specs.Runs.{row_read, read_runs, in_runs}
use Rattle.qm_formats.specs.RowBits.{packed, unpacked, is_clear_past, row_bits}
use Rattle.qm_formats.specs.FileParts.{FileFaultKind, short, magic, counts, plane_form, node_order, leaf_form, row_form, trailing, header_form, is_plane, plane_layout, child_layout, node_layout, is_leaf, leaf_layout}
use Rattle.qm_formats.specs.TreeFile.{TreeFile}
use Rattle.qm_formats.specs.Upgraded.{upgraded}
use Rattle.qm_formats.specs.FirstVersion.{first_version}
use Rattle.qm_partition.proofs.NumberedNodes.{numbered_or_not, pass_as_numbered}
use Rattle.qm_formats.specs.FileLayout.{magic_layout, bound_layout, section_count_layout, file_header_layout, are_numbered, numbered_answer, are_ordered, own_row_layout, planes_layout, nodes_layout, leaves_layout, rows_layout, tree_layout, section_head_layout, section_layout, sections_layout, file_layout, file_bytes, read_file}

-- the rows of the six leaves round the cube: of those above and below it, neither sees the other
abbrev whole_row : List Bool
whole_row = true ∷ true ∷ true ∷ true ∷ true ∷ true ∷ []

abbrev row_above : List Bool
row_above = true ∷ true ∷ true ∷ false ∷ true ∷ true ∷ []

abbrev row_below : List Bool
row_below = true ∷ true ∷ false ∷ true ∷ true ∷ true ∷ []

abbrev first : TreeFile
first = first_version cube_tree (Some (whole_row ∷ whole_row ∷ row_above ∷ row_below ∷ whole_row ∷ whole_row ∷ []))

first_length : length (file_bytes first) ≡ 322
unfolding file_bytes file_layout file_header_layout magic_layout fixed_before bound_layout section_count_layout unwritten unsigned signed raw tree_layout planes_layout nodes_layout leaves_layout plane_layout child_layout node_layout leaf_layout rows_layout own_row_layout row_bits in_runs runs_of packed sections_layout
first_length = refl

-- in version 2
abbrev bytes : List ℕ
bytes = file_bytes (upgraded first)

second_length : length bytes ≡ 330
unfolding file_bytes file_layout file_header_layout magic_layout fixed_before bound_layout section_count_layout unwritten unsigned signed raw tree_layout planes_layout nodes_layout leaves_layout plane_layout child_layout node_layout leaf_layout rows_layout own_row_layout row_bits in_runs runs_of packed sections_layout
second_length = refl

-- what is read of some bytes: of those cut, with a byte more, and with some replaced
abbrev IsRefused : List ℕ → FileFaultKind → ℕ → Type 0
IsRefused altered fault place = read_file altered ≡ bad fault place

of_cut : IsRefused (take 40 bytes) short 40 × IsRefused (take 329 bytes) short 329
unfolding file_bytes read_file file_layout file_header_layout magic_layout fixed_before bound_layout section_count_layout unwritten unsigned signed raw tree_layout planes_layout nodes_layout leaves_layout is_plane plane_layout child_layout node_layout is_leaf leaf_layout rows_layout own_row_layout row_bits in_runs runs_of read_runs row_read row_or_fault packed unpacked is_clear_past sections_layout section_layout section_head_layout are_ordered are_numbered numbered_answer numbered_or_not pass_as_numbered common_factor factor_of divisor_of_four gcd gcd_within
of_cut = (refl, refl)

of_more : IsRefused (bytes ++ 0 ∷ []) trailing 330
unfolding file_bytes read_file file_layout file_header_layout magic_layout fixed_before bound_layout section_count_layout unwritten unsigned signed raw tree_layout planes_layout nodes_layout leaves_layout is_plane plane_layout child_layout node_layout is_leaf leaf_layout rows_layout own_row_layout row_bits in_runs runs_of read_runs row_read row_or_fault packed unpacked is_clear_past sections_layout section_layout section_head_layout are_ordered are_numbered numbered_answer numbered_or_not pass_as_numbered common_factor factor_of divisor_of_four gcd gcd_within
of_more = refl

-- the version 3; 8 leaves; the bound 5000
of_header : IsRefused (set bytes 7 51) magic 7 × IsRefused (set bytes 24 8) counts 24 × IsRefused (set (set bytes 41 136) 42 19) header_form 41
unfolding file_bytes read_file file_layout file_header_layout magic_layout fixed_before bound_layout section_count_layout unwritten unsigned signed raw tree_layout planes_layout nodes_layout leaves_layout is_plane plane_layout child_layout node_layout is_leaf leaf_layout rows_layout own_row_layout row_bits in_runs runs_of read_runs row_read row_or_fault packed unpacked is_clear_past sections_layout section_layout section_head_layout are_ordered are_numbered numbered_answer numbered_or_not pass_as_numbered common_factor factor_of divisor_of_four gcd gcd_within
of_header = (refl, refl, refl)

-- a plane of zeros; node 2 in front of node 0; the contents 0; a row without its own place
of_parts : IsRefused (set bytes 49 0) plane_form 49 × IsRefused (set bytes 173 2) node_order 169 × IsRefused (set (set (set (set bytes 289 0) 290 0) 291 0) 292 0) leaf_form 289 × IsRefused (set bytes 329 31) row_form 329
unfolding file_bytes read_file file_layout file_header_layout magic_layout fixed_before bound_layout section_count_layout unwritten unsigned signed raw tree_layout planes_layout nodes_layout leaves_layout is_plane plane_layout child_layout node_layout is_leaf leaf_layout rows_layout own_row_layout row_bits in_runs runs_of read_runs row_read row_or_fault packed unpacked is_clear_past sections_layout section_layout section_head_layout are_ordered are_numbered numbered_answer numbered_or_not pass_as_numbered common_factor factor_of divisor_of_four gcd gcd_within
of_parts = (refl, refl, refl, refl)
