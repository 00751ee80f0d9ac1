-- The bytes of a file, part by part.
use Rattle.std.proofs.Common.{◌≡◌, ℕ, ◌+◌, Bool, List, [], ◌∷◌, ◌++◌, Option, Some, None, refl, ap}
use Rattle.std.specs.List.{flat_map}
use Rattle.qm_partition.specs.Counting.{leaves_of}
use Rattle.qm_partition.specs.Numbering.{nodes_of}
use Rattle.qm_formats.specs.Layout.{bytes_of_each}
use Rattle.qm_lists.specs.Spelling.{runs_of}
use Rattle.qm_formats.specs.Runs.{in_runs}
use Rattle.qm_formats.specs.RowBits.{packed, row_bits}
use Rattle.qm_formats.specs.FileParts.{plane_layout, node_layout, leaf_layout}
use Rattle.qm_formats.specs.TreeFile.{Section, TreeFile}
use Rattle.qm_formats.specs.FileLayout.{Header, file_header_layout, own_row_layout, planes_layout, nodes_layout, leaves_layout, rows_layout, section_layout, sections_layout, tree_layout, header_of, file_layout, file_bytes}
use Rattle.qm_formats.proofs.ManyBytes.{many_bytes}
use Rattle.qm_formats.proofs.SectionBytes.{section_bytes}
use Rattle.qm_file.specs.inner.RowsBytes.{rows_bytes}

own_rows_bytes : (places k : ℕ) (rows : List (List Bool)) → bytes_of_each (own_row_layout places) k rows ≡ flat_map (λ row. runs_of (packed row)) rows
unfolding own_row_layout row_bits in_runs
own_rows_bytes places k [] = refl
own_rows_bytes places k (row ∷ rows) = ap (λ (rest : List ℕ). runs_of (packed row) ++ rest) (own_rows_bytes places (k + 1) rows)

all_rows_bytes : (header : Header) (rows : Option (List (List Bool))) → (rows_layout header).bytes_of rows ≡ rows_bytes rows
unfolding rows_layout
all_rows_bytes header None = refl
all_rows_bytes header (Some rows) = own_rows_bytes header.numbered 0 rows

all_sections_bytes : (header : Header) (sections : List Section) → (sections_layout header).bytes_of sections ≡ flat_map (section_layout 0).bytes_of sections
unfolding sections_layout
all_sections_bytes header sections = section_bytes 0 0 sections

pub file_bytes-parts : (file : TreeFile) → file_bytes file ≡ file_header_layout.bytes_of (header_of file) ++ ((flat_map plane_layout.bytes_of file.tree.planes ++ (flat_map node_layout.bytes_of (nodes_of file.tree.shape 0 0) ++ flat_map leaf_layout.bytes_of (leaves_of file.tree.shape))) ++ (rows_bytes file.rows ++ flat_map (section_layout 0).bytes_of file.sections))
unfolding file_bytes file_layout tree_layout planes_layout nodes_layout leaves_layout
file_bytes-parts file =
    let planes = many_bytes plane_layout 0 file.tree.planes in
    let nodes = many_bytes node_layout 0 (nodes_of file.tree.shape 0 0) in
    let leaves = many_bytes leaf_layout 0 (leaves_of file.tree.shape) in
    let rows = all_rows_bytes (header_of file) file.rows in
    let sections = all_sections_bytes (header_of file) file.sections in
    λ i. file_header_layout.bytes_of (header_of file) ++ ((planes i ++ (nodes i ++ leaves i)) ++ (rows i ++ sections i))
