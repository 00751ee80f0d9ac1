-- Files of version 1 have the bytes of that version by itself, and are read as such.
use Rattle.std.proofs.Common.{◌≡◌, ◌≤◌, ℕ, Bool, true, false, List, ◌++◌, length, Option, refl, sym, append-nil}
use Rattle.std.specs.Prelude.{is_some}
use Rattle.qm_partition.specs.Tree.{Tree}
use Rattle.qm_formats.specs.Layout.{got}
use Rattle.qm_formats.specs.Fields.{raw, unsigned, fixed_before, unwritten}
use Rattle.qm_formats.specs.TreeFile.{IsValidFile, small_bound}
use Rattle.qm_formats.specs.FileLayout.{Header, magic_layout, bound_layout, section_count_layout, file_header_layout, rows_layout, tree_layout, sections_layout, header_of, file_layout, file_bytes, file_limit, read_file}
use Rattle.qm_formats.specs.FirstVersion.{first_version, first_version_header, first_version_bytes}
use Rattle.qm_formats.proofs.WholeFile.{read_file_again}

header_bytes :
    (planes nodes leaves numbered : ℕ) (has_rows : Bool) →
    let header : Header = record { version = 1; planes = planes; nodes = nodes; leaves = leaves; numbered = numbered; has_rows = has_rows; bound = small_bound; sections = 0 } in
    file_header_layout.bytes_of header ≡ first_version_header header
unfolding file_header_layout magic_layout bound_layout section_count_layout fixed_before unwritten unsigned raw first_version_header
header_bytes planes nodes leaves numbered true = refl
header_bytes planes nodes leaves numbered false = refl

pub first_version_file : (tree : Tree) (rows : Option (List (List Bool))) → file_bytes (first_version tree rows) ≡ first_version_bytes tree rows
unfolding file_bytes file_layout sections_layout first_version_bytes
first_version_file tree rows =
    let header = header_of (first_version tree rows) in
    let of_header = header_bytes header.planes header.nodes header.leaves header.numbered (is_some rows) in
    let of_rows = append-nil ((rows_layout header).bytes_of rows) in
    λ i. of_header i ++ ((tree_layout header).bytes_of tree ++ of_rows i)

pub first_version_read : (tree : Tree) (rows : Option (List (List Bool))) → IsValidFile (first_version tree rows) → length (first_version_bytes tree rows) ≤ file_limit → read_file (first_version_bytes tree rows) ≡ got (first_version tree rows) (length (first_version_bytes tree rows))
first_version_read tree rows valid fits = read_file_again (first_version_bytes tree rows) (first_version tree rows) (record { valid = valid; bytes_are = sym (first_version_file tree rows); fits = fits })
