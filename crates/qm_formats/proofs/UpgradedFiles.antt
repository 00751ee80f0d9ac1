-- A file in version 2: it is valid where the file is, and eight bytes longer than one of version 1.
use Rattle.std.proofs.Common.{◌≡◌, ℕ, ◌+◌, ◌++◌, length, refl, sym, subst, arith, inl, inr}
use Rattle.std.proofs.lemmas.List.{length-append}
use Rattle.qm_formats.specs.Fields.{raw, unsigned, fixed_before, unwritten}
use Rattle.qm_formats.specs.TreeFile.{TreeFile, IsValidFile}
use Rattle.qm_formats.specs.Upgraded.{upgraded}
use Rattle.qm_formats.specs.FileLayout.{Header, magic_layout, bound_layout, section_count_layout, file_header_layout, planes_layout, nodes_layout, leaves_layout, rows_layout, tree_layout, sections_layout, header_of, file_layout, file_bytes}

valid_in_second : (file : TreeFile) → IsValidFile file → IsValidFile (upgraded file)
valid_in_second file valid =
    record {
      of_version = inr (record { version = refl; bound = elim (valid.of_version) [ inl first ↦ inl first.bound | inr second ↦ second.bound ] });
      well_made = valid.well_made;
      few_nodes = valid.few_nodes;
      reduced = valid.reduced;
      rows = valid.rows;
      sections = valid.sections;
    }

-- a file of version 2 stays as it is
pub upgraded_again : (file : TreeFile) → file.version ≡ 2 → upgraded file ≡ file
upgraded_again file is = λ i. record file { version = sym is i }

-- ---- eight bytes more

-- a header in another version
abbrev in_version : Header → ℕ → Header
in_version header version = record header { version = version }

short_header : (header : Header) → length (file_header_layout.bytes_of (in_version header 1)) ≡ 41
unfolding file_header_layout magic_layout bound_layout section_count_layout fixed_before unwritten unsigned raw
short_header header = refl

long_header : (header : Header) → length (file_header_layout.bytes_of (in_version header 2)) ≡ 49
unfolding file_header_layout magic_layout bound_layout section_count_layout fixed_before unwritten unsigned raw
long_header header = refl

first_header : (file : TreeFile) → file.version ≡ 1 → length (file_header_layout.bytes_of (header_of file)) ≡ 41
first_header file is = subst (λ (version : ℕ). length (file_header_layout.bytes_of (in_version (header_of file) version)) ≡ 41) (sym is) (short_header (header_of file))

pub upgraded_length : (file : TreeFile) → file.version ≡ 1 → length (file_bytes (upgraded file)) ≡ length (file_bytes file) + 8
unfolding file_bytes file_layout tree_layout planes_layout nodes_layout leaves_layout rows_layout sections_layout
upgraded_length file is =
    let header = header_of file in
    let behind = (tree_layout header).bytes_of file.tree ++ ((rows_layout header).bytes_of file.rows ++ (sections_layout header).bytes_of file.sections) in
    let first : length (file_bytes file) ≡ length (file_header_layout.bytes_of header) + length behind = length-append (file_header_layout.bytes_of header) behind in
    let second : length (file_bytes (upgraded file)) ≡ length (file_header_layout.bytes_of (in_version header 2)) + length behind = length-append (file_header_layout.bytes_of (in_version header 2)) behind in
    omega (arith, first, second, first_header file is, long_header header)

pub upgraded_valid : (file : TreeFile) → IsValidFile file → IsValidFile (upgraded file) × ((upgraded file).version ≡ 2) × (file.version ≡ 1 → length (file_bytes (upgraded file)) ≡ length (file_bytes file) + 8)
upgraded_valid file valid = (valid_in_second file valid, refl, upgraded_length file)
