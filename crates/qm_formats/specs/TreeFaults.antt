use Rattle.std.specs.Prelude.{◌≡◌, ◌<◌, ◌≤◌, ◌^◌, ◌++◌, ℕ, ◌+◌, ◌*◌, IsTrue, List, [], ◌∷◌, length, take, drop, codes, count_by, nat_lt, nat_le, ◌==◌, if◌then◌else◌}
use Rattle.std.specs.Int.{w64}
use Rattle.qm_partition.specs.declared.node.Leaf.{Leaf}
use Rattle.qm_contacts.specs.NumberedLeaves.{is_numbered}
use Rattle.qm_lists.specs.FirstWrong.{EndTooEarly}
use Rattle.qm_formats.specs.Layout.{many, each_after}
use Rattle.qm_formats.specs.Fields.{unsigned, first_difference}
use Rattle.qm_formats.specs.RowBits.{row_width}
use Rattle.qm_formats.specs.Exact.{IsRightAt}
use Rattle.qm_formats.specs.FileParts.{FileFaultKind, short, magic, counts, plane_form, node_order, leaf_form, row_form, trailing, too_long, header_form, section_form, plane_layout, leaf_layout}
use Rattle.qm_formats.specs.TreeFile.{Section, TreeFile}
use Rattle.qm_formats.specs.FileLayout.{Header, magic_layout, count_layout, flag_layout, bound_layout, file_header_layout, own_row_layout, planes_layout, nodes_layout, rows_layout, tree_layout, section_head_layout, section_layout, file_limit, IsFileOf}
use Rattle.qm_formats.specs.FirstFault.{Faults, EndsWithin, IsNoneAt, IsCutOff, IsFaultOfRecord, IsFaultInTurn, IsFaultFromRecord, IsFaultOfEach}

-- Which fault the bytes of a tree file have: the first in the order of its parts, and its place. Each record has its length and its fault.

-- the file ends inside the eight magic bytes; or they are there, and from one of them on they are those of neither version
pub data IsMagicFault (file : List ℕ) (at : ℕ) : FileFaultKind → ℕ → Type 0 where
  magic_cut_off : length file < at + 8 → IsMagicFault file at short (length file)
  other_magic : at + 8 ≤ length file → IsNoneAt magic_layout file at → IsMagicFault file at magic (at + first_difference (codes "QMTREE0") (take 8 (drop at file)))

-- how many bytes a number takes that version 1 does not have
abbrev pub size_since_second : ℕ → ℕ → ℕ
size_since_second version size = if version == 1 then 0 else size

-- the magic bytes with the version; how many planes there are, and nodes, and leaves, and numbered leaves; whether rows are
-- there; the bound; and how many sections there are
abbrev pub IsHeaderFault : Faults
IsHeaderFault =
    IsFaultInTurn magic_layout IsMagicFault (λ version.
    IsFaultFromRecord (count_layout (λ planes. nat_lt planes (2 ^ 32))) 8 counts (λ planes.
    IsFaultInTurn (unsigned short w64) (IsCutOff 8) (λ nodes.
    IsFaultFromRecord (count_layout (λ leaves. leaves == nodes + 1)) 8 counts (λ leaves.
    IsFaultFromRecord (count_layout (λ numbered. nat_le numbered leaves)) 8 counts (λ numbered.
    IsFaultFromRecord flag_layout 1 counts (λ has_rows.
    IsFaultFromRecord (bound_layout version) (size_since_second version 4) header_form (λ bound.
    IsCutOff (size_since_second version 4))))))))

abbrev pub IsPlaneFault : Faults
IsPlaneFault = IsFaultOfRecord plane_layout (EndsWithin 20) plane_form

-- all nodes are one record
abbrev pub IsNodesFault : Header → Faults
IsNodesFault header = IsFaultOfRecord (nodes_layout header) (EndsWithin (header.nodes * 20)) node_order

abbrev pub IsLeafFault : Faults
IsLeafFault = IsFaultOfRecord leaf_layout (EndsWithin 5) leaf_form

-- a leaf has a fault; or all leaves stand there, and not so many of them are numbered as the header says at its place 32
pub data IsLeavesFault (header : Header) (file : List ℕ) (at : ℕ) : FileFaultKind → ℕ → Type 0 where
  in_leaf : (fault : FileFaultKind) (place : ℕ) → IsFaultOfEach (λ _. leaf_layout) (λ _. IsLeafFault) 0 header.leaves file at fault place → IsLeavesFault header file at fault place
  other_count : (leaves : List Leaf) (next : ℕ) → IsRightAt (many leaf_layout header.leaves) file at leaves next → (count_by is_numbered leaves ≡ header.numbered → ⊥) → IsLeavesFault header file at counts 32

abbrev pub IsTreeFault : Header → Faults
IsTreeFault header =
    IsFaultInTurn (planes_layout header) (IsFaultOfEach (λ _. plane_layout) (λ _. IsPlaneFault) 0 header.planes) (λ planes.
    IsFaultInTurn (nodes_layout header) (IsNodesFault header) (λ nodes.
    IsLeavesFault header))

-- the file ends inside a row of so many places, whose runs say how long it is
abbrev pub RowEnds : ℕ → List ℕ → ℕ → Type 0
RowEnds places file at = EndTooEarly (row_width places) (drop at file)

-- the row of the numbered leaf k
abbrev pub IsRowFault : ℕ → ℕ → Faults
IsRowFault numbered k = IsFaultOfRecord (own_row_layout numbered k) (RowEnds numbered) row_form

abbrev pub IsRowsFault : Header → Faults
IsRowsFault header file at fault place =
    IsTrue header.has_rows × IsFaultOfEach (own_row_layout header.numbered) (IsRowFault header.numbered) 0 header.numbered file at fault place

-- the kind and the length of a section, which is behind one of a kind, and then its bytes
abbrev pub IsSectionFault : ℕ → Faults
IsSectionFault before = IsFaultFromRecord (section_head_layout before) 12 section_form (λ head. IsCutOff head.1)

-- the kind of the last section; a number where there is none
abbrev pub last_kind : ℕ → List Section → ℕ
last_kind before [] = before
last_kind before (section ∷ sections) = last_kind section.kind sections

-- of so many sections, the first behind one of a kind, some stand there, and the next has a fault
pub record IsSectionsFault (before count : ℕ) (file : List ℕ) (at : ℕ) (fault : FileFaultKind) (place : ℕ) : Type 0 where
  pub sections : List Section
  pub next : ℕ
  pub few : length sections < count
  pub stand : IsRightAt (each_after (λ (section : Section). section.kind) section_layout before (length sections)) file at sections next
  pub due : IsSectionFault (last_kind before sections) file next fault place

-- the header, the tree, the rows and the sections
abbrev pub IsFaultOfParts : Faults
IsFaultOfParts =
    IsFaultInTurn file_header_layout IsHeaderFault (λ header.
    IsFaultInTurn (tree_layout header) (IsTreeFault header) (λ tree.
    IsFaultInTurn (rows_layout header) (IsRowsFault header) (λ rows.
    IsSectionsFault 0 header.sections)))

-- there are more bytes than are read; or a part has a fault; or bytes follow a whole file
pub data IsFaultOfFileBytes (bytes : List ℕ) : FileFaultKind → ℕ → Type 0 where
  too_many_bytes : file_limit < length bytes → IsFaultOfFileBytes bytes too_long file_limit
  in_part : (fault : FileFaultKind) (place : ℕ) → length bytes ≤ file_limit → IsFaultOfParts bytes 0 fault place → IsFaultOfFileBytes bytes fault place
  behind_file : (front left : List ℕ) (file : TreeFile) → length bytes ≤ file_limit → IsFileOf front file → 0 < length left → bytes ≡ front ++ left → IsFaultOfFileBytes bytes trailing (length front)
