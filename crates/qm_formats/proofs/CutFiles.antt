-- A tree file that is cut is too short, or too long as it is.
use Rattle.std.proofs.Common.{◌≡◌, ◌<◌, ℕ, Bool, cond, ltb, eqb, List, ◌++◌, length, codes, sym, ap, arith, inl, inr}
use Rattle.std.specs.Prelude.{IsTrue}
use Rattle.std.specs.Int.{w8, w32, w64}
use Rattle.std.proofs.lemmas.List.{length-append}
use Rattle.qm_partition.specs.Counting.{leaves_of}
use Rattle.qm_partition.specs.Numbering.{nodes_of}
use Rattle.qm_formats.specs.Layout.{Decoded, got, bad, Layout, decoded_then, each, many, read_to_end}
use Rattle.qm_formats.specs.Fields.{unsigned, signed}
use Rattle.qm_formats.specs.Exact.{IsExact}
use Rattle.qm_formats.specs.FileParts.{short, magic, trailing, too_long, plane_layout, child_layout, node_layout, leaf_layout}
use Rattle.qm_formats.specs.TreeFile.{Section, TreeFile, IsValidFile}
use Rattle.qm_formats.specs.FileLayout.{Header, magic_layout, count_layout, flag_layout, bound_layout, section_count_layout, file_header_layout, own_row_layout, planes_layout, nodes_layout, leaves_layout, rows_layout, tree_layout, section_head_layout, section_layout, sections_layout, header_of, file_layout, file_bytes, file_limit, read_file}
use Rattle.qm_formats.proofs.ReadToEnd.{read_own}
use Rattle.qm_formats.proofs.ExactFile.{file_exact}
use Rattle.qm_formats.proofs.ValidFiles.{valid_right}
use Rattle.qm_formats.proofs.Cuttable.{IsCuttable, seen_as_cuttable, recast_cuttable, tested_cuttable, followed_by_cuttable, part_cuttable, last_part_cuttable, each_cuttable, each_after_cuttable, choice_cuttable, present_cuttable}
use Rattle.qm_formats.proofs.CutFields.{raw_cuttable, unsigned_cuttable, signed_cuttable, fixed_before_cuttable, unwritten_cuttable}
use Rattle.qm_formats.proofs.CutRows.{own_row_cuttable}

-- ---- the records

plane_cuttable : IsCuttable short plane_layout
unfolding plane_layout
plane_cuttable =
    tested_cuttable short _ _ _ _ (
    part_cuttable short (λ h. h.nx) _ _ (signed_cuttable short w32) (λ nx.
    part_cuttable short (λ h. h.ny) _ _ (signed_cuttable short w32) (λ ny.
    part_cuttable short (λ h. h.nz) _ _ (signed_cuttable short w32) (λ nz.
    last_part_cuttable short (λ h. h.d) _ _ (signed_cuttable short w64)))))

child_cuttable : IsCuttable short child_layout
unfolding child_layout
child_cuttable = recast_cuttable short _ _ (signed short w64) (signed_cuttable short w64)

node_cuttable : IsCuttable short node_layout
unfolding node_layout
node_cuttable =
    part_cuttable short (λ here. here.plane) _ _ (unsigned_cuttable short w32) (λ plane.
    part_cuttable short (λ here. here.front) _ _ child_cuttable (λ front.
    last_part_cuttable short (λ here. here.back) _ _ child_cuttable))

leaf_cuttable : IsCuttable short leaf_layout
unfolding leaf_layout
leaf_cuttable =
    recast_cuttable short _ _ _ (tested_cuttable short _ _ _ _ (followed_by_cuttable short (signed short w32) (unsigned short w8) (signed_cuttable short w32) (unsigned_cuttable short w8)))

section_cuttable : (before : ℕ) → IsCuttable short (section_layout before)
unfolding section_layout section_head_layout
section_cuttable before =
    part_cuttable short (λ section. (section.kind, length section.bytes)) _ _ (tested_cuttable short _ _ _ _ (followed_by_cuttable short (unsigned short w32) (unsigned short w64) (unsigned_cuttable short w32) (unsigned_cuttable short w64))) (λ head.
    last_part_cuttable short (λ section. section.bytes) _ _ (raw_cuttable short head.1))

-- ---- the file

count_cuttable : (test : ℕ → Bool) → IsCuttable short (count_layout test)
count_cuttable test = tested_cuttable short test _ _ (unsigned short w64) (unsigned_cuttable short w64)

magic_cuttable : IsCuttable short magic_layout
unfolding magic_layout
magic_cuttable = seen_as_cuttable short _ _ _ _ (fixed_before_cuttable short magic (codes "QMTREE0") _)

flag_cuttable : IsCuttable short flag_layout
flag_cuttable = recast_cuttable short _ _ _ (tested_cuttable short _ _ _ (unsigned short w8) (unsigned_cuttable short w8))

bound_cuttable : (version : ℕ) → IsCuttable short (bound_layout version)
unfolding bound_layout
bound_cuttable version = choice_cuttable short (eqb version 1) _ _ (unwritten_cuttable short _) (tested_cuttable short _ _ _ (unsigned short w32) (unsigned_cuttable short w32))

section_count_cuttable : (version : ℕ) → IsCuttable short (section_count_layout version)
unfolding section_count_layout
section_count_cuttable version = choice_cuttable short (eqb version 1) _ _ (unwritten_cuttable short _) (unsigned_cuttable short w32)

header_cuttable : IsCuttable short file_header_layout
unfolding file_header_layout
header_cuttable =
    part_cuttable short (λ header. header.version) _ _ magic_cuttable (λ version.
    part_cuttable short (λ header. header.planes) _ _ (count_cuttable _) (λ planes.
    part_cuttable short (λ header. header.nodes) _ _ (unsigned_cuttable short w64) (λ nodes.
    part_cuttable short (λ header. header.leaves) _ _ (count_cuttable _) (λ leaves.
    part_cuttable short (λ header. header.numbered) _ _ (count_cuttable _) (λ numbered.
    part_cuttable short (λ header. header.has_rows) _ _ flag_cuttable (λ has_rows.
    part_cuttable short (λ header. header.bound) _ _ (bound_cuttable version) (λ bound.
    last_part_cuttable short (λ header. header.sections) _ _ (section_count_cuttable version))))))))

tree_cuttable : (header : Header) → IsCuttable short (tree_layout header)
unfolding tree_layout planes_layout nodes_layout leaves_layout
tree_cuttable header =
    part_cuttable short (λ tree. tree.planes) _ _ (each_cuttable short (λ _. plane_layout) (λ _. plane_cuttable) 0 header.planes) (λ planes.
    part_cuttable short (λ tree. nodes_of tree.shape 0 0) _ _ (tested_cuttable short _ _ _ (many node_layout header.nodes) (each_cuttable short (λ _. node_layout) (λ _. node_cuttable) 0 header.nodes)) (λ nodes.
    last_part_cuttable short (λ tree. leaves_of tree.shape) _ _ (tested_cuttable short _ _ _ (many leaf_layout header.leaves) (each_cuttable short (λ _. leaf_layout) (λ _. leaf_cuttable) 0 header.leaves))))

rows_cuttable : (header : Header) → IsCuttable short (rows_layout header)
unfolding rows_layout
rows_cuttable header =
    present_cuttable short (each (own_row_layout header.numbered) header.numbered) (each_cuttable short (own_row_layout header.numbered) (own_row_cuttable header.numbered) 0 header.numbered) header.has_rows

sections_cuttable : (header : Header) → IsCuttable short (sections_layout header)
unfolding sections_layout
sections_cuttable header = each_after_cuttable short (λ (section : Section). section.kind) section_layout section_cuttable 0 header.sections

pub file_cuttable : IsCuttable short file_layout
unfolding file_layout
file_cuttable =
    part_cuttable short header_of _ _ header_cuttable (λ header.
    part_cuttable short (λ file. file.tree) _ _ (tree_cuttable header) (λ tree.
    part_cuttable short (λ file. file.rows) _ _ (rows_cuttable header) (λ rows.
    last_part_cuttable short (λ file. file.sections) _ _ (sections_cuttable header))))

-- ---- no proper prefix of a file is one

module _ {F X : Type 0} (ends : F) (layout : Layout F X) (exact : IsExact layout) (cuttable : IsCuttable ends layout) where
  -- a proper prefix of the bytes of a value is too short
  pub prefix_short : (x : X) (front behind : List ℕ) → IsTrue (layout.right x) → layout.bytes_of x ≡ front ++ behind → 0 < length behind → layout.read front 0 ≡ bad ends (length front)
  prefix_short x front behind right bytes some =
      let long = length-append front behind in
      let whole = read_own layout exact (front ++ behind) x right (sym bytes) in
      elim (cuttable.cut front behind 0 x (length (front ++ behind)) (omega arith) whole) [
        | inl read ↦ absurd (let fits = read.1 in omega (arith, fits, long, some))
        | inr is_short ↦ is_short
      ]

  prefix_to_end : (behind_it : F) (x : X) (front behind : List ℕ) → IsTrue (layout.right x) → layout.bytes_of x ≡ front ++ behind → 0 < length behind → read_to_end layout behind_it front ≡ bad ends (length front)
  prefix_to_end behind_it x front behind right bytes some =
      ap (λ (answer : Decoded F X). decoded_then answer (λ x next. cond (ltb next (length front)) (bad behind_it next) (got x next))) (prefix_short x front behind right bytes some)

pub prefix_cut_off : (content : TreeFile) (front behind : List ℕ) → IsValidFile content → file_bytes content ≡ front ++ behind → 0 < length behind → read_file front ≡ cond (ltb file_limit (length front)) (bad too_long file_limit) (bad short (length front))
unfolding read_file file_bytes
prefix_cut_off content front behind valid bytes some =
    ap (λ (answer : Decoded _ _). cond (ltb file_limit (length front)) (bad too_long file_limit) answer) (prefix_to_end short file_layout file_exact file_cuttable trailing content front behind (valid_right content valid) bytes some)
