-- The bytes of a valid tree file are bytes, and so are the first of them.
use Rattle.std.proofs.Common.{◌≡◌, ◌≤◌, ℕ, zero, suc, Bool, true, false, cond, ltb, eqb, List, [], ◌∷◌, ◌++◌, length, codes, replicate, refl, sym, ap, ◌∙◌, arith}
use Rattle.std.specs.Int.{Width, w8, w32, w64, byte_len, cast_unsigned}
use Rattle.std.proofs.lemmas.Bool.{and_parts, and_from, lt-ltb}
use Rattle.qm_lists.specs.Spelling.{SpellsRow, runs_of}
use Rattle.qm_lists.proofs.Spellings.{spells_runs_of}
use Rattle.qm_partition.specs.Counting.{leaves_of}
use Rattle.qm_partition.specs.Numbering.{nodes_of}
use Rattle.qm_formats.specs.Layout.{each, many}
use Rattle.qm_formats.specs.Fields.{AreBytes, are_bytes, raw, unsigned, signed, fixed_before, unwritten}
use Rattle.qm_formats.specs.Runs.{in_runs}
use Rattle.qm_formats.specs.RowBits.{packed, row_bits}
use Rattle.qm_formats.specs.FileParts.{FileFaultKind, short, plane_layout, child_layout, node_layout, leaf_layout}
use Rattle.qm_formats.specs.TreeFile.{Section, TreeFile, IsValidFile}
use Rattle.qm_formats.specs.FileLayout.{Header, magic_layout, count_layout, flag_layout, bound_layout, section_count_layout, file_header_layout, own_row_layout, planes_layout, nodes_layout, leaves_layout, rows_layout, tree_layout, section_head_layout, section_layout, sections_layout, header_of, file_layout, file_bytes, IsFileOf}
use Rattle.qm_formats.proofs.ExactFields.{bytes-are, are_bytes-from, low_first_bytes}
use Rattle.qm_formats.proofs.PackedRows.{packed-bytes}
use Rattle.qm_formats.proofs.ValidFiles.{valid_right}
use Rattle.qm_formats.proofs.InBytes.{IsInBytes, front_bytes, recast_in_bytes, tested_in_bytes, followed_by_in_bytes, part_in_bytes, last_part_in_bytes, choice_in_bytes, each_in_bytes, many_in_bytes, each_after_in_bytes, present_in_bytes}

-- ---- fields

raw_in_bytes : (count : ℕ) → IsInBytes (raw short count)
unfolding raw
raw_in_bytes count = record { are = λ bytes right. (and_parts (eqb (length bytes) count) (are_bytes bytes) right).1 }

unsigned_in_bytes : (width : Width) → IsInBytes (unsigned short width)
unfolding unsigned raw
unsigned_in_bytes width = record { are = λ n right. low_first_bytes 0 (byte_len width) n }

signed_in_bytes : (width : Width) → IsInBytes (signed short width)
unfolding signed unsigned raw
signed_in_bytes width = record { are = λ z right. low_first_bytes 0 (byte_len width) (cast_unsigned width z) }

unwritten_in_bytes : (value : ℕ) → IsInBytes (unwritten {F = FileFaultKind} value)
unfolding unwritten
unwritten_in_bytes value = record { are = λ n right. refl }

-- ---- rows

-- what stands behind zeros
behind_zeros : (n : ℕ) (row : List ℕ) → are_bytes (replicate n zero ++ row) ≡ true → are_bytes row ≡ true
behind_zeros zero row are = are
behind_zeros (suc n) row are = behind_zeros n row are

-- what spells bytes is bytes
spelling_bytes : (bytes row : List ℕ) → SpellsRow bytes row → are_bytes row ≡ true → are_bytes bytes ≡ true
spelling_bytes [] row spells are = refl
spelling_bytes (suc byte ∷ bytes) row spells are =
    let both = and_parts (ltb (suc byte) 256) (are_bytes spells.0) (ap are_bytes (sym spells.1) ∙ are) in
    and_from (ltb (suc byte) 256) (are_bytes bytes) both.0 (spelling_bytes bytes spells.0 spells.2 both.1)
spelling_bytes (zero ∷ []) row spells are = absurd spells
spelling_bytes (zero ∷ count ∷ bytes) row spells are =
    let most : count ≤ 255 = spells.3 in
    and_from (ltb count 256) (are_bytes bytes) (lt-ltb count 256 (omega (arith, most))) (spelling_bytes bytes spells.0 spells.5 (behind_zeros count spells.0 (ap are_bytes (sym spells.1) ∙ are)))

own_row_in_bytes : (places k : ℕ) → IsInBytes (own_row_layout places k)
unfolding own_row_layout row_bits in_runs
own_row_in_bytes places k = record { are = λ row right. spelling_bytes (runs_of (packed row)) (packed row) (spells_runs_of (packed row)) (are_bytes-from (packed row) (packed-bytes row)) }

-- ---- records

plane_in_bytes : IsInBytes plane_layout
unfolding plane_layout
plane_in_bytes =
    tested_in_bytes _ _ _ _ (
    part_in_bytes (λ h. h.nx) _ _ (signed_in_bytes w32) (λ nx.
    part_in_bytes (λ h. h.ny) _ _ (signed_in_bytes w32) (λ ny.
    part_in_bytes (λ h. h.nz) _ _ (signed_in_bytes w32) (λ nz.
    last_part_in_bytes (λ h. h.d) _ _ (signed_in_bytes w64)))))

child_in_bytes : IsInBytes child_layout
unfolding child_layout
child_in_bytes = recast_in_bytes _ _ (signed short w64) (signed_in_bytes w64)

node_in_bytes : IsInBytes node_layout
unfolding node_layout
node_in_bytes =
    part_in_bytes (λ here. here.plane) _ _ (unsigned_in_bytes w32) (λ plane.
    part_in_bytes (λ here. here.front) _ _ child_in_bytes (λ front.
    last_part_in_bytes (λ here. here.back) _ _ child_in_bytes))

leaf_in_bytes : IsInBytes leaf_layout
unfolding leaf_layout
leaf_in_bytes = recast_in_bytes _ _ _ (tested_in_bytes _ _ _ _ (followed_by_in_bytes (signed short w32) (unsigned short w8) (signed_in_bytes w32) (unsigned_in_bytes w8)))

section_in_bytes : (before : ℕ) → IsInBytes (section_layout before)
unfolding section_layout section_head_layout
section_in_bytes before =
    part_in_bytes (λ section. (section.kind, length section.bytes)) _ _ (tested_in_bytes _ _ _ _ (followed_by_in_bytes (unsigned short w32) (unsigned short w64) (unsigned_in_bytes w32) (unsigned_in_bytes w64))) (λ head.
    last_part_in_bytes (λ section. section.bytes) _ _ (raw_in_bytes head.1))

-- ---- the file

magic_of : (is_first : Bool) → are_bytes (codes "QMTREE0" ++ (cond is_first 49 50 ∷ [])) ≡ true
magic_of true = refl
magic_of false = refl

magic_in_bytes : IsInBytes magic_layout
unfolding magic_layout fixed_before raw
magic_in_bytes = record { are = λ version right. magic_of (eqb version 1) }

count_in_bytes : (test : ℕ → Bool) → IsInBytes (count_layout test)
count_in_bytes test = tested_in_bytes test _ _ (unsigned short w64) (unsigned_in_bytes w64)

flag_in_bytes : IsInBytes flag_layout
flag_in_bytes = recast_in_bytes _ _ _ (tested_in_bytes _ _ _ (unsigned short w8) (unsigned_in_bytes w8))

bound_in_bytes : (version : ℕ) → IsInBytes (bound_layout version)
unfolding bound_layout
bound_in_bytes version = choice_in_bytes (eqb version 1) _ _ (unwritten_in_bytes _) (tested_in_bytes _ _ _ (unsigned short w32) (unsigned_in_bytes w32))

section_count_in_bytes : (version : ℕ) → IsInBytes (section_count_layout version)
unfolding section_count_layout
section_count_in_bytes version = choice_in_bytes (eqb version 1) _ _ (unwritten_in_bytes _) (unsigned_in_bytes w32)

header_in_bytes : IsInBytes file_header_layout
unfolding file_header_layout
header_in_bytes =
    part_in_bytes (λ header. header.version) _ _ magic_in_bytes (λ version.
    part_in_bytes (λ header. header.planes) _ _ (count_in_bytes _) (λ planes.
    part_in_bytes (λ header. header.nodes) _ _ (unsigned_in_bytes w64) (λ nodes.
    part_in_bytes (λ header. header.leaves) _ _ (count_in_bytes _) (λ leaves.
    part_in_bytes (λ header. header.numbered) _ _ (count_in_bytes _) (λ numbered.
    part_in_bytes (λ header. header.has_rows) _ _ flag_in_bytes (λ has_rows.
    part_in_bytes (λ header. header.bound) _ _ (bound_in_bytes version) (λ bound.
    last_part_in_bytes (λ header. header.sections) _ _ (section_count_in_bytes version))))))))

tree_in_bytes : (header : Header) → IsInBytes (tree_layout header)
unfolding tree_layout planes_layout nodes_layout leaves_layout
tree_in_bytes header =
    part_in_bytes (λ tree. tree.planes) _ _ (many_in_bytes plane_layout plane_in_bytes header.planes) (λ planes.
    part_in_bytes (λ tree. nodes_of tree.shape 0 0) _ _ (tested_in_bytes _ _ _ (many node_layout header.nodes) (many_in_bytes node_layout node_in_bytes header.nodes)) (λ nodes.
    last_part_in_bytes (λ tree. leaves_of tree.shape) _ _ (tested_in_bytes _ _ _ (many leaf_layout header.leaves) (many_in_bytes leaf_layout leaf_in_bytes header.leaves))))

rows_in_bytes : (header : Header) → IsInBytes (rows_layout header)
unfolding rows_layout
rows_in_bytes header =
    present_in_bytes (each (own_row_layout header.numbered) header.numbered) (each_in_bytes (own_row_layout header.numbered) (own_row_in_bytes header.numbered) 0 header.numbered) header.has_rows

sections_in_bytes : (header : Header) → IsInBytes (sections_layout header)
unfolding sections_layout
sections_in_bytes header = each_after_in_bytes (λ (section : Section). section.kind) section_layout section_in_bytes 0 header.sections

file_in_bytes : IsInBytes file_layout
unfolding file_layout
file_in_bytes =
    part_in_bytes header_of _ _ header_in_bytes (λ header.
    part_in_bytes (λ file. file.tree) _ _ (tree_in_bytes header) (λ tree.
    part_in_bytes (λ file. file.rows) _ _ (rows_in_bytes header) (λ rows.
    last_part_in_bytes (λ file. file.sections) _ _ (sections_in_bytes header))))

valid_bytes : (file : TreeFile) → IsValidFile file → are_bytes (file_bytes file) ≡ true
unfolding file_bytes
valid_bytes file valid = file_in_bytes.are file (valid_right file valid)

-- ---- bytes of a file

pub bytes_of_file : (bytes : List ℕ) (file : TreeFile) → IsFileOf bytes file → AreBytes bytes
bytes_of_file bytes file is = bytes-are bytes (ap are_bytes is.bytes_are ∙ valid_bytes file is.valid)

pub first_bytes_of_file : (file : TreeFile) (front behind : List ℕ) → IsValidFile file → file_bytes file ≡ front ++ behind → AreBytes front
first_bytes_of_file file front behind valid is = bytes-are front (front_bytes front behind (ap are_bytes (sym is) ∙ valid_bytes file valid))
