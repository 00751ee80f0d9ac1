-- The fault that reading a tree file gives is the first in the order of its parts, in words.
use Rattle.std.proofs.Common.{◌≡◌, ◌<◌, ◌≤◌, ◌⊎◌, ◌^◌, ◌&&◌, ℕ, zero, suc, ◌+◌, ◌-◌, ◌*◌, Bool, true, false, cond, eqb, ltb, leb, get_or, List, [], ◌∷◌, ◌++◌, length, take, drop, codes, Some, Result, Ok, Err, refl, sym, ap, ◌∙◌, subst, append_assoc, take-append-drop, arith, inl, inr}
use Rattle.std.specs.Prelude.{count_by}
use Rattle.std.specs.Int.{w8, w32, w64}
use Rattle.std.proofs.lemmas.Bool.{and_parts, and_from, cases_lt, lt-ltb, le-ltb, ltb-true, eq-eqb, eqb-true}
use Rattle.std.proofs.lemmas.List.{length-append, length-drop, get_or-drop}
use Rattle.qm_partition.specs.declared.node.Leaf.{Leaf as LeafRecord}
use Rattle.qm_partition.specs.Counting.{leaves_of}
use Rattle.qm_partition.specs.Numbering.{nodes_of}
use Rattle.qm_contacts.specs.NumberedLeaves.{is_numbered}
use Rattle.qm_lists.specs.Spelling.{SpellsRow, RunFaultKind}
use Rattle.qm_lists.specs.Spelling as runs
use Rattle.qm_lists.specs.RowRead.{IsRowRead}
use Rattle.qm_lists.specs.FirstWrong.{BeginsSpelling, IsFirstWrong, EndTooEarly}
use Rattle.qm_formats.specs.Layout.{Decoded, got, bad, Layout, decoded_map, decoded_then, choice, many, each, each_after, present, read_to_end}
use Rattle.qm_formats.specs.Fields.{AreBytes, raw, unsigned, signed, first_difference, fixed_before, unwritten}
use Rattle.qm_formats.specs.Runs.{row_read, read_runs, row_answer, in_runs}
use Rattle.qm_formats.specs.RowBits.{row_width, row_bits}
use Rattle.qm_formats.specs.Exact.{StandsAt, IsRightAt, IsExact}
use Rattle.qm_formats.specs.FileParts.{FileFaultKind, short, magic, counts, plane_form, node_order, leaf_form, row_form, trailing, too_long, header_form, section_form, plane_layout, child_layout, node_layout, leaf_layout, is_leaf}
use Rattle.qm_formats.specs.TreeFile.{Section, TreeFile}
use Rattle.qm_formats.specs.FileLayout.{Header, is_version, magic_layout, count_layout, flag_layout, is_bound, bound_layout, section_count_layout, file_header_layout, own_row_layout, planes_layout, nodes_layout, leaves_layout, rows_layout, tree_layout, section_head_layout, section_layout, sections_layout, header_of, file_layout, file_bytes, file_limit, read_file, IsFileOf}
use Rattle.qm_formats.proofs.ExactParts.{recast_exact, tested_exact, each_exact}
use Rattle.qm_formats.proofs.ExactFields.{byte_exact, unsigned_64_exact}
use Rattle.qm_formats.proofs.ExactRecords.{plane_exact, leaf_exact, flag_number, number_flag}
use Rattle.qm_formats.proofs.ExactRows.{own_row_exact}
use Rattle.qm_formats.proofs.ExactFile.{magic_exact, bound_exact, header_exact, planes_exact, nodes_exact, rows_exact, tree_exact, section_head_exact, section_exact, file_exact}
use Rattle.qm_formats.proofs.ValidFiles.{right_valid, valid_right}
use Rattle.qm_formats.proofs.ShortFaults.{map_bad, then_bad, chosen_bad, chosen_end, stands_from}
use Rattle.qm_formats.proofs.Standing.{stands_nothing, stands_both, stands_first, stands_second}
use Rattle.qm_formats.specs.FirstFault.{Faults, EndsWithin, IsNoneAt, IsCutOff, IsFaultOfRecord, IsFaultOfEach}
use Rattle.qm_formats.specs.TreeFaults.{size_since_second, IsMagicFault, magic_cut_off, other_magic, IsHeaderFault, IsPlaneFault, IsNodesFault, IsLeafFault, IsLeavesFault, in_leaf, other_count, IsTreeFault, RowEnds, IsRowFault, IsRowsFault, last_kind, IsSectionFault, IsSectionsFault, IsFaultOfParts, IsFaultOfFileBytes, too_many_bytes, in_part, behind_file}
use Rattle.qm_formats.proofs.SizedRecords.{IsSized, raw_sized, seen_as_sized, unsigned_sized, signed_sized, unwritten_sized, part_sized, last_part_sized, followed_by_sized, choice_sized, many_sized}
use Rattle.qm_formats.proofs.RecordFaults.{GivesFaults, IsRecord, sized_record, seen_as_record, tested_record, record_faults, sized_faults, last_part_faults, part_faults, each_faults}

-- ---- the header

count_record : (test : ℕ → Bool) → IsRecord (count_layout test) (EndsWithin 8) counts
count_record test = tested_record (EndsWithin 8) counts test (unsigned short w64) (sized_record (unsigned short w64) 8 counts (unsigned_sized w64))

count_exact : (test : ℕ → Bool) → IsExact (count_layout test)
count_exact test = tested_exact test counts (λ _ at. at) (unsigned short w64) (unsigned_64_exact short)

count_faults : (test : ℕ → Bool) → GivesFaults (count_layout test) (IsFaultOfRecord (count_layout test) (EndsWithin 8) counts)
count_faults test = record_faults (count_layout test) (EndsWithin 8) counts (count_exact test) (count_record test)

flag_exact : IsExact flag_layout
flag_exact =
    recast_exact _ _ _ (tested_exact (λ n. leb n 1) counts (λ _ at. at) (unsigned short w8) (byte_exact short)) (λ n right. flag_number n (and_parts ((unsigned short w8).right n) (leb n 1) right).1) (λ flag right. number_flag flag)

flag_faults : GivesFaults flag_layout (IsFaultOfRecord flag_layout (EndsWithin 1) counts)
flag_faults =
    record_faults flag_layout (EndsWithin 1) counts flag_exact (seen_as_record (EndsWithin 1) counts _ _ _ _ (tested_record (EndsWithin 1) counts (λ n. leb n 1) (unsigned short w8) (sized_record (unsigned short w8) 1 counts (unsigned_sized w8))))

choice_record : {X : Type 0} (is_first : Bool) (first second : Layout FileFaultKind X) (n m : ℕ) (kind : FileFaultKind) → IsRecord first (EndsWithin n) kind → IsRecord second (EndsWithin m) kind → IsRecord (choice is_first first second) (EndsWithin (cond is_first n m)) kind
choice_record true first second n m kind of_first of_second = of_first
choice_record false first second n m kind of_first of_second = of_second

bound_faults : (version : ℕ) → GivesFaults (bound_layout version) (IsFaultOfRecord (bound_layout version) (EndsWithin (size_since_second version 4)) header_form)
unfolding bound_layout
bound_faults version =
    record_faults _ (EndsWithin (size_since_second version 4)) header_form (bound_exact version) (
    choice_record (eqb version 1) (unwritten _) _ 0 4 header_form (sized_record (unwritten _) 0 header_form (unwritten_sized _)) (
    tested_record (EndsWithin 4) header_form is_bound (unsigned short w32) (sized_record (unsigned short w32) 4 header_form (unsigned_sized w32))))

section_count_faults : (version : ℕ) → GivesFaults (section_count_layout version) (IsCutOff (size_since_second version 4))
unfolding section_count_layout
section_count_faults version = sized_faults _ (size_since_second version 4) (choice_sized (eqb version 1) (unwritten 0) (unsigned short w32) 0 4 (unwritten_sized 0) (unsigned_sized w32))

-- the magic bytes that a file has at a place
abbrev magic_at : List ℕ → ℕ → List ℕ
magic_at file at = take 8 (drop at file)

abbrev MagicFails : List ℕ → ℕ → FileFaultKind → ℕ → Type 0
MagicFails file at fault place = ((length file < at + 8) × (fault ≡ short) × (place ≡ length file)) ⊎ ((at + 8 ≤ length file) × (fault ≡ magic) × (place ≡ at + first_difference (codes "QMTREE0") (magic_at file at)))

raw_value : (count : ℕ) (file : List ℕ) (at : ℕ) (x : List ℕ) (next : ℕ) → (raw short count).read file at ≡ got x next → x ≡ take count (drop at file)
unfolding raw
raw_value count file at x next is = end_value (ltb (length file) (at + count)) short (length file) (take count (drop at file)) (at + count) x next is
  where
    end_value : (b : Bool) (fault : FileFaultKind) (place : ℕ) (x : List ℕ) (mid : ℕ) (y : List ℕ) (next : ℕ) → cond b (bad fault place) (got x mid) ≡ got y next → y ≡ x
    end_value true fault place x mid y next is = absurd cc
    end_value false fault place x mid y next is = cc

abbrev magic_start : List ℕ
magic_start = codes "QMTREE0"

abbrev last_of : List ℕ → ℕ
last_of found = get_or found (length magic_start) 0

-- what is read of eight bytes that are there
abbrev behind_magic : ℕ → List ℕ → ℕ → Decoded FileFaultKind (List ℕ)
behind_magic at found next = cond ((eqb (first_difference magic_start found) (length magic_start)) && is_version (last_of found - 48)) (got found next) (bad magic (at + first_difference magic_start found))

magic_fails : (file : List ℕ) (at : ℕ) (fault : FileFaultKind) (place : ℕ) → at ≤ length file → magic_layout.read file at ≡ bad fault place → MagicFails file at fault place
unfolding magic_layout fixed_before
magic_fails file at fault place within failed =
    let inner = map_bad last_of (decoded_then ((raw short 8).read file at) (behind_magic at)) fault place (map_bad (λ digit. digit - 48) _ fault place failed) in
    elim (then_bad ((raw short 8).read file at) (behind_magic at) fault place inner) [
      | inl cut ↦ inl ((raw_sized 8).alone file at fault place within cut)
      | inr read ↦
          let found = read.0 in
          let ends = (raw_sized 8).ends file at found read.1 within read.2 in
          let other = chosen_bad ((eqb (first_difference magic_start found) (length magic_start)) && is_version (last_of found - 48)) found read.1 magic (at + first_difference magic_start found) fault place read.3 in
          let here = ends.0 in
          let fits = ends.1 in
          inr (omega (arith, here, fits), other.1, other.2 ∙ ap (λ (xs : List ℕ). at + first_difference magic_start xs) (raw_value 8 file at found read.1 read.2))
    ]

magic_found : (file : List ℕ) (at : ℕ) (fault : FileFaultKind) (place : ℕ) → magic_layout.read file at ≡ bad fault place → MagicFails file at fault place → IsMagicFault file at fault place
magic_found file at fault place failed (inl cut) =
    subst (λ (f : FileFaultKind). IsMagicFault file at f place) (sym cut.1) (subst (IsMagicFault file at short) (sym cut.2) (magic_cut_off cut.0))
magic_found file at fault place failed (inr other) =
    subst (λ (f : FileFaultKind). IsMagicFault file at f place) (sym other.1) (subst (IsMagicFault file at magic) (sym other.2) (other_magic other.0 (λ x next right. let e = sym failed ∙ magic_exact.again file at x next right in absurd cc)))

magic_short : (file : List ℕ) (at : ℕ) → at ≤ length file → length file < at + 8 → magic_layout.read file at ≡ bad short (length file)
unfolding magic_layout fixed_before
magic_short file at within less = ap (λ (answer : Decoded FileFaultKind (List ℕ)). decoded_map (λ digit. digit - 48) (decoded_map last_of (decoded_then answer (behind_magic at)))) ((raw_sized 8).cut file at within less)

magic_by_answer : (file : List ℕ) (at : ℕ) → AreBytes file → at ≤ length file → at + 8 ≤ length file → IsNoneAt magic_layout file at → (answer : Decoded FileFaultKind ℕ) → magic_layout.read file at ≡ answer → answer ≡ bad magic (at + first_difference (codes "QMTREE0") (magic_at file at))
magic_by_answer file at are within fits none (got x next) read = absurd (none x next (magic_exact.found file at x next are within read))
magic_by_answer file at are within fits none (bad fault place) read = elim (magic_fails file at fault place within read) [
  | inl cut ↦ absurd (let less = cut.0 in omega (arith, less, fits))
  | inr other ↦ λ i. bad (other.1 i) (other.2 i)
]

magic_again : (file : List ℕ) (at : ℕ) (fault : FileFaultKind) (place : ℕ) → AreBytes file → at ≤ length file → IsMagicFault file at fault place → magic_layout.read file at ≡ bad fault place
magic_again file at fault place are within (magic_cut_off less) = magic_short file at within less
magic_again file at fault place are within (other_magic fits none) = magic_by_answer file at are within fits none (magic_layout.read file at) refl

magic_faults : GivesFaults magic_layout IsMagicFault
magic_faults = record { found = λ file at fault place are within failed. magic_found file at fault place failed (magic_fails file at fault place within failed); again = magic_again }

header_faults : GivesFaults file_header_layout IsHeaderFault
unfolding file_header_layout
header_faults =
    part_faults _ _ (λ header. header.version) _ _ magic_exact magic_faults (λ version _.
    part_faults _ _ (λ header. header.planes) _ _ (count_exact (λ planes. ltb planes (2 ^ 32))) (count_faults (λ planes. ltb planes (2 ^ 32))) (λ planes _.
    part_faults _ _ (λ header. header.nodes) _ _ (unsigned_64_exact short) (sized_faults (unsigned short w64) 8 (unsigned_sized w64)) (λ nodes _.
    part_faults _ _ (λ header. header.leaves) _ _ (count_exact (λ leaves. eqb leaves (nodes + 1))) (count_faults (λ leaves. eqb leaves (nodes + 1))) (λ leaves _.
    part_faults _ _ (λ header. header.numbered) _ _ (count_exact (λ numbered. leb numbered leaves)) (count_faults (λ numbered. leb numbered leaves)) (λ numbered _.
    part_faults _ _ (λ header. header.has_rows) _ _ flag_exact flag_faults (λ has_rows _.
    part_faults _ _ (λ header. header.bound) _ _ (bound_exact version) (bound_faults version) (λ bound _.
    last_part_faults (IsCutOff (size_since_second version 4)) (λ header. header.sections) (section_count_layout version) _ (section_count_faults version))))))))

-- ---- the tree

plane_record : IsRecord plane_layout (EndsWithin 20) plane_form
unfolding plane_layout
plane_record =
    tested_record (EndsWithin 20) plane_form _ _ (sized_record _ 20 plane_form (
    part_sized (λ h. h.nx) _ _ 4 16 (signed_sized w32) (λ nx. part_sized (λ h. h.ny) _ _ 4 12 (signed_sized w32) (λ ny. part_sized (λ h. h.nz) _ _ 4 8 (signed_sized w32) (λ nz. last_part_sized 8 (λ h. h.d) _ _ (signed_sized w64))))))

planes_faults : (header : Header) → GivesFaults (planes_layout header) (IsFaultOfEach (λ _. plane_layout) (λ _. IsPlaneFault) 0 header.planes)
unfolding planes_layout
planes_faults header = each_faults (λ _. plane_layout) (λ _. IsPlaneFault) (λ _. plane_exact) (λ _. record_faults plane_layout (EndsWithin 20) plane_form plane_exact plane_record) 0 header.planes

child_sized : IsSized child_layout 8
unfolding child_layout
child_sized = seen_as_sized 8 _ _ _ (signed short w64) (signed_sized w64)

node_sized : IsSized node_layout 20
unfolding node_layout
node_sized = part_sized (λ here. here.plane) _ _ 4 16 (unsigned_sized w32) (λ plane. part_sized (λ here. here.front) _ _ 8 8 child_sized (λ front. last_part_sized 8 (λ here. here.back) _ _ child_sized))

nodes_record : (header : Header) → IsRecord (nodes_layout header) (EndsWithin (header.nodes * 20)) node_order
unfolding nodes_layout
nodes_record header = tested_record (EndsWithin (header.nodes * 20)) node_order _ _ (sized_record (many node_layout header.nodes) (header.nodes * 20) node_order (many_sized node_layout 20 node_sized 0 header.nodes))

nodes_faults : (header : Header) → GivesFaults (nodes_layout header) (IsNodesFault header)
nodes_faults header = record_faults (nodes_layout header) (EndsWithin (header.nodes * 20)) node_order (nodes_exact header) (nodes_record header)

leaf_record : IsRecord leaf_layout (EndsWithin 5) leaf_form
unfolding leaf_layout
leaf_record = seen_as_record (EndsWithin 5) leaf_form _ _ _ _ (tested_record (EndsWithin 5) leaf_form is_leaf _ (sized_record _ 5 leaf_form (followed_by_sized (signed short w32) (unsigned short w8) 4 1 (signed_sized w32) (unsigned_sized w8))))

each_leaf_faults : (count : ℕ) → GivesFaults (many leaf_layout count) (IsFaultOfEach (λ _. leaf_layout) (λ _. IsLeafFault) 0 count)
each_leaf_faults count = each_faults (λ _. leaf_layout) (λ _. IsLeafFault) (λ _. leaf_exact) (λ _. record_faults leaf_layout (EndsWithin 5) leaf_form leaf_exact leaf_record) 0 count

module _ (header : Header) where
  abbrev is_counted : List LeafRecord → Bool
  is_counted leaves = eqb (count_by is_numbered leaves) header.numbered

  abbrev all_leaves : Layout FileFaultKind (List LeafRecord)
  all_leaves = many leaf_layout header.leaves

  all_exact : IsExact all_leaves
  all_exact = each_exact (λ _. leaf_layout) (λ _. leaf_exact) 0 header.leaves

  abbrev behind_leaves : List LeafRecord → ℕ → Decoded FileFaultKind (List LeafRecord)
  behind_leaves leaves next = cond (is_counted leaves) (got leaves next) (bad counts 32)

  not_equal : (n m : ℕ) → eqb n m ≡ false → n ≡ m → ⊥
  not_equal n m is same = let e = sym is ∙ eq-eqb n m same in cc

  unequal : (n m : ℕ) (b : Bool) → eqb n m ≡ b → (n ≡ m → ⊥) → eqb n m ≡ false
  unequal n m true is other = absurd (other (eqb-true n m is))
  unequal n m false is other = is

  leaves_found : (file : List ℕ) (at : ℕ) (fault : FileFaultKind) (place : ℕ) → AreBytes file → at ≤ length file → (leaves_layout header).read file at ≡ bad fault place → IsLeavesFault header file at fault place
  unfolding leaves_layout
  leaves_found file at fault place are within failed =
      elim (then_bad (all_leaves.read file at) behind_leaves fault place failed) [
        | inl here ↦ in_leaf fault place ((each_leaf_faults header.leaves).found file at fault place are within here)
        | inr later ↦
            let leaves = later.0 in
            let other = chosen_bad (is_counted leaves) leaves later.1 counts 32 fault place later.3 in
            subst (λ (f : FileFaultKind). IsLeavesFault header file at f place) (sym other.1) (
            subst (IsLeavesFault header file at counts) (sym other.2) (
            other_count leaves later.1 (all_exact.found file at leaves later.1 are within later.2) (not_equal (count_by is_numbered leaves) header.numbered other.0)))
      ]

  leaves_again : (file : List ℕ) (at : ℕ) (fault : FileFaultKind) (place : ℕ) → AreBytes file → at ≤ length file → IsLeavesFault header file at fault place → (leaves_layout header).read file at ≡ bad fault place
  unfolding leaves_layout
  leaves_again file at fault place are within (in_leaf kind where_is has) = ap (λ (answer : Decoded FileFaultKind (List LeafRecord)). decoded_then answer behind_leaves) ((each_leaf_faults header.leaves).again file at kind where_is are within has)
  leaves_again file at fault place are within (other_count leaves next right other) =
      ap (λ (answer : Decoded FileFaultKind (List LeafRecord)). decoded_then answer behind_leaves) (all_exact.again file at leaves next right)
      ∙ ap (λ (b : Bool). cond b (got leaves next) (bad counts 32)) (unequal (count_by is_numbered leaves) header.numbered (is_counted leaves) refl other)

  leaves_faults : GivesFaults (leaves_layout header) (IsLeavesFault header)
  leaves_faults = record { found = leaves_found; again = leaves_again }

  tree_faults : GivesFaults (tree_layout header) (IsTreeFault header)
  unfolding tree_layout
  tree_faults =
      part_faults _ _ (λ tree. tree.planes) _ _ (planes_exact header) (planes_faults header) (λ planes _.
      part_faults _ _ (λ tree. nodes_of tree.shape 0 0) _ _ (nodes_exact header) (nodes_faults header) (λ nodes _.
      last_part_faults (IsLeavesFault header) (λ tree. leaves_of tree.shape) (leaves_layout header) _ leaves_faults))

-- ---- rows

below_256 : (file : List ℕ) (at : ℕ) → AreBytes file → AreBytes (drop at file)
below_256 file at are i = rw (get_or-drop at file i 0) (are (at + i))

row_is_read : (width : ℕ) (bytes : List ℕ) → AreBytes bytes → IsRowRead width bytes (read_runs width bytes)
unfolding read_runs
row_is_read width bytes are = (row_read width bytes).1 are

-- bytes that are wrong somewhere begin no spelling
wrong_begins_none : (width : ℕ) (bytes : List ℕ) (fault : RunFaultKind) → IsFirstWrong width bytes fault → BeginsSpelling width bytes → ⊥
wrong_begins_none width bytes fault wrong begins =
    let front = wrong.whole ++ wrong.begun in
    let one = front ++ wrong.byte ∷ [] in
    let parts : bytes ≡ one ++ wrong.behind = wrong.stands ∙ sym (append_assoc front (wrong.byte ∷ []) wrong.behind) in
    let same : bytes ++ begins.0 ≡ one ++ (wrong.behind ++ begins.0) = ap (λ (xs : List ℕ). xs ++ begins.0) parts ∙ append_assoc one wrong.behind begins.0 in
    wrong.no_more (wrong.behind ++ begins.0, begins.1, begins.2, subst (λ (xs : List ℕ). SpellsRow xs begins.1) same begins.3)

module _ (width : ℕ) (file : List ℕ) (at : ℕ) where
  abbrev row_bytes : List ℕ
  row_bytes = drop at file

  runs_cut : (answer : Result (List ℕ × ℕ) RunFaultKind) → IsRowRead width row_bytes answer → EndTooEarly width row_bytes → row_answer short row_form file at answer ≡ bad short (length file)
  runs_cut (Ok read) is ends = absurd (ends.no_front (take read.1 row_bytes) read.0 (drop read.1 row_bytes) is.0 is.2 (sym (take-append-drop read.1 row_bytes)))
  runs_cut (Err runs.short) is ends = refl
  runs_cut (Err runs.zero_count) is ends = absurd (wrong_begins_none width row_bytes runs.zero_count is ends.begins)
  runs_cut (Err runs.split_run) is ends = absurd (wrong_begins_none width row_bytes runs.split_run is ends.begins)
  runs_cut (Err runs.overrun) is ends = absurd (wrong_begins_none width row_bytes runs.overrun is ends.begins)

  abbrev RunsFail : FileFaultKind → ℕ → Type 0
  RunsFail fault place = (EndTooEarly width row_bytes × (fault ≡ short) × (place ≡ length file)) ⊎ ((EndTooEarly width row_bytes → ⊥) × (fault ≡ row_form) × (place ≡ at))

  runs_wrong : (answer : Result (List ℕ × ℕ) RunFaultKind) (fault : FileFaultKind) (place : ℕ) → IsRowRead width row_bytes answer → row_answer short row_form file at answer ≡ bad fault place → RunsFail fault place
  runs_wrong (Ok read) fault place is failed = absurd cc
  runs_wrong (Err runs.short) fault place is failed = inl (is, cc, cc)
  runs_wrong (Err runs.zero_count) fault place is failed = inr ((λ ends. wrong_begins_none width row_bytes runs.zero_count is ends.begins), cc, cc)
  runs_wrong (Err runs.split_run) fault place is failed = inr ((λ ends. wrong_begins_none width row_bytes runs.split_run is ends.begins), cc, cc)
  runs_wrong (Err runs.overrun) fault place is failed = inr ((λ ends. wrong_begins_none width row_bytes runs.overrun is ends.begins), cc, cc)

runs_record : (width : ℕ) → IsRecord (in_runs short row_form width) (λ file at. EndTooEarly width (drop at file)) row_form
unfolding in_runs
runs_record width =
    record {
      cut = λ file at are within ends. runs_cut width file at (read_runs width (drop at file)) (row_is_read width (drop at file) (below_256 file at are)) ends;
      wrong = λ file at fault place are within failed. runs_wrong width file at (read_runs width (drop at file)) fault place (row_is_read width (drop at file) (below_256 file at are)) failed;
    }

row_record : (places k : ℕ) → IsRecord (own_row_layout places k) (RowEnds places) row_form
unfolding own_row_layout row_bits
row_record places k = tested_record (RowEnds places) row_form _ _ (seen_as_record (RowEnds places) row_form _ _ _ _ (tested_record (RowEnds places) row_form _ _ (runs_record (row_width places))))

rows_each : (header : Header) → GivesFaults (each (own_row_layout header.numbered) header.numbered) (IsFaultOfEach (own_row_layout header.numbered) (IsRowFault header.numbered) 0 header.numbered)
rows_each header =
    let numbered = header.numbered in
    each_faults (own_row_layout numbered) (IsRowFault numbered) (own_row_exact numbered) (λ k. record_faults (own_row_layout numbered k) (RowEnds numbered) row_form (own_row_exact numbered k) (row_record numbered k)) 0 numbered

module _ {X : Type 0} (layout : Layout FileFaultKind X) (HasFault : Faults) (is : GivesFaults layout HasFault) where
  option_found : (is_there : Bool) (file : List ℕ) (at : ℕ) (fault : FileFaultKind) (place : ℕ) → AreBytes file → at ≤ length file → (present layout is_there).read file at ≡ bad fault place → (is_there ≡ true) × HasFault file at fault place
  option_found true file at fault place are within failed = (refl, is.found file at fault place are within (map_bad (λ (x : X). Some x) (layout.read file at) fault place failed))
  option_found false file at fault place are within failed = absurd cc

  option_again : (is_there : Bool) (file : List ℕ) (at : ℕ) (fault : FileFaultKind) (place : ℕ) → AreBytes file → at ≤ length file → (is_there ≡ true) × HasFault file at fault place → (present layout is_there).read file at ≡ bad fault place
  option_again true file at fault place are within has = ap (decoded_map (λ (x : X). Some x)) (is.again file at fault place are within has.1)
  option_again false file at fault place are within has = absurd (let e = has.0 in cc)

rows_faults : (header : Header) → GivesFaults (rows_layout header) (IsRowsFault header)
unfolding rows_layout
rows_faults header = record { found = option_found _ _ (rows_each header) header.has_rows; again = option_again _ _ (rows_each header) header.has_rows }

-- ---- sections

section_head_record : (before : ℕ) → IsRecord (section_head_layout before) (EndsWithin 12) section_form
unfolding section_head_layout
section_head_record before = tested_record (EndsWithin 12) section_form _ _ (sized_record _ 12 section_form (followed_by_sized (unsigned short w32) (unsigned short w64) 4 8 (unsigned_sized w32) (unsigned_sized w64)))

section_faults : (before : ℕ) → GivesFaults (section_layout before) (IsSectionFault before)
unfolding section_layout
section_faults before =
    part_faults _ _ (λ section. (section.kind, length section.bytes)) _ _ (section_head_exact before) (record_faults (section_head_layout before) (EndsWithin 12) section_form (section_head_exact before) (section_head_record before)) (λ head _.
    last_part_faults (IsCutOff head.1) (λ section. section.bytes) (raw short head.1) _ (sized_faults (raw short head.1) head.1 (raw_sized head.1)))

abbrev sections_from : ℕ → ℕ → Layout FileFaultKind (List Section)
sections_from before count = each_after (λ (section : Section). section.kind) section_layout before count

abbrev section_first : Section → List Section → List Section
section_first section sections = section ∷ sections

sections_found : (before count : ℕ) (file : List ℕ) (at : ℕ) (fault : FileFaultKind) (place : ℕ) → AreBytes file → at ≤ length file → (sections_from before count).read file at ≡ bad fault place → IsSectionsFault before count file at fault place
sections_found before zero file at fault place are within failed = absurd cc
sections_found before (suc count) file at fault place are within failed =
    elim (then_bad ((section_layout before).read file at) (λ section next. decoded_map (section_first section) ((sections_from section.kind count).read file next)) fault place failed) [
      | inl here ↦
          record {
            sections = [];
            next = at;
            few = omega arith;
            stand = record { right = refl; stands = stands_nothing file at within };
            due = (section_faults before).found file at fault place are within here;
          }
      | inr later ↦
          let section = later.0 in
          let right = (section_exact before).found file at section later.1 are within later.2 in
          let others = sections_found section.kind count file later.1 fault place are right.stands.within (map_bad (section_first section) ((sections_from section.kind count).read file later.1) fault place later.3) in
          let few = others.few in
          let rest = sections_from section.kind (length others.sections) in
          record {
            sections = section ∷ others.sections;
            next = others.next;
            few = omega (arith, few);
            stand = record {
              right = and_from ((section_layout before).right section) (rest.right others.sections) right.right others.stand.right;
              stands = stands_both file at ((section_layout before).bytes_of section) later.1 (rest.bytes_of others.sections) others.next right.stands others.stand.stands;
            };
            due = others.due;
          }
    ]

sections_again : (before : ℕ) (sections : List Section) (count : ℕ) (file : List ℕ) (at next : ℕ) (fault : FileFaultKind) (place : ℕ) → AreBytes file → at ≤ length file → length sections < count → IsRightAt (sections_from before (length sections)) file at sections next → IsSectionFault (last_kind before sections) file next fault place → (sections_from before count).read file at ≡ bad fault place
sections_again before sections zero file at next fault place are within few stand due = absurd (omega (arith, few))
sections_again before [] (suc count) file at next fault place are within few stand due =
    let ends = stand.stands.ends in
    let here : next ≡ at = omega (arith, ends) in
    let moved = subst (λ (n : ℕ). IsSectionFault before file n fault place) here due in
    ap (λ (answer : Decoded FileFaultKind Section). decoded_then answer (λ section next. decoded_map (section_first section) ((sections_from section.kind count).read file next))) ((section_faults before).again file at fault place are within moved)
sections_again before (section ∷ sections) (suc count) file at next fault place are within few stand due =
    let rest = sections_from section.kind (length sections) in
    let rights = and_parts ((section_layout before).right section) (rest.right sections) stand.right in
    let own = (section_layout before).bytes_of section in
    let first = stands_first file at own (rest.bytes_of sections) next stand.stands in
    let second = stands_second file at own (rest.bytes_of sections) next stand.stands in
    ap (λ (answer : Decoded FileFaultKind Section). decoded_then answer (λ section next. decoded_map (section_first section) ((sections_from section.kind count).read file next))) ((section_exact before).again file at section (at + length own) (record { right = rights.0; stands = first }))
    ∙ ap (decoded_map (section_first section)) (sections_again section.kind sections count file (at + length own) next fault place are first.within (omega (arith, few)) (record { right = rights.1; stands = second }) due)

sections_faults : (header : Header) → GivesFaults (sections_layout header) (IsSectionsFault 0 header.sections)
unfolding sections_layout
sections_faults header =
    record {
      found = sections_found 0 header.sections;
      again = λ file at fault place are within has. sections_again 0 has.sections header.sections file at has.next fault place are within has.few has.stand has.due;
    }

-- ---- the file

parts_faults : GivesFaults file_layout IsFaultOfParts
unfolding file_layout
parts_faults =
    part_faults _ _ header_of _ _ header_exact header_faults (λ header of_header.
    part_faults _ _ (λ file. file.tree) _ _ (tree_exact header of_header) (tree_faults header) (λ tree _.
    part_faults _ _ (λ file. file.rows) _ _ (rows_exact header) (rows_faults header) (λ rows _.
    last_part_faults (IsSectionsFault 0 header.sections) (λ file. file.sections) (sections_layout header) _ (sections_faults header))))

module _ (bytes : List ℕ) (are : AreBytes bytes) where
  abbrev to_end : TreeFile → ℕ → Decoded FileFaultKind TreeFile
  to_end file next = cond (ltb next (length bytes)) (bad trailing next) (got file next)

  abbrev IsFault : FileFaultKind → ℕ → Type 0
  IsFault fault place = IsFaultOfFileBytes bytes fault place

  of_kind : (kind fault : FileFaultKind) (n place : ℕ) → kind ≡ fault → n ≡ place → IsFault kind n → IsFault fault place
  of_kind kind fault n place same here is = subst (λ (f : FileFaultKind). IsFault f place) same (subst (IsFault kind) here is)

  read_small : length bytes ≤ file_limit → read_file bytes ≡ read_to_end file_layout trailing bytes
  unfolding read_file
  read_small fits = ap (λ (b : Bool). cond b (bad too_long file_limit) (read_to_end file_layout trailing bytes)) (le-ltb file_limit (length bytes) fits)

  read_large : file_limit < length bytes → read_file bytes ≡ bad too_long file_limit
  unfolding read_file
  read_large more = ap (λ (b : Bool). cond b (bad too_long file_limit) (read_to_end file_layout trailing bytes)) (lt-ltb file_limit (length bytes) more)

  fault_within : (fault : FileFaultKind) (place : ℕ) → length bytes ≤ file_limit → read_to_end file_layout trailing bytes ≡ bad fault place → IsFault fault place
  unfolding file_bytes
  fault_within fault place fits failed =
      elim (then_bad (file_layout.read bytes 0) to_end fault place failed) [
        | inl inside ↦ in_part fault place fits (parts_faults.found bytes 0 fault place are (omega arith) inside)
        | inr read ↦
            let file = read.0 in
            let next = read.1 in
            let ends = chosen_end (ltb next (length bytes)) file next trailing next fault place read.3 in
            let found = file_exact.found bytes 0 file next are (omega arith) read.2 in
            let front = file_bytes file in
            let less = ltb-true next (length bytes) ends.0 in
            let place_is = found.stands.ends in
            let dropped = length-drop next bytes in
            let whole : IsFileOf front file = record { valid = right_valid file found.right; bytes_are = refl; fits = omega (arith, place_is, less, fits) } in
            of_kind trailing fault (length front) place (sym ends.1) (omega (arith, place_is) ∙ sym ends.2) (behind_file front (drop next bytes) file fits whole (omega (arith, dropped, less)) found.stands.stands)
      ]

  pub tree_fault_in_words : (fault : FileFaultKind) (place : ℕ) → read_file bytes ≡ bad fault place → IsFaultOfFileBytes bytes fault place
  tree_fault_in_words fault place failed =
      elim (cases_lt file_limit (length bytes)) [
        | inl more ↦
            let e = sym (read_large more) ∙ failed in
            let same : too_long ≡ fault = cc in
            let here : file_limit ≡ place = cc in
            of_kind too_long fault file_limit place same here (too_many_bytes more)
        | inr fits ↦ fault_within fault place fits (sym (read_small fits) ∙ failed)
      ]

  trailing_again : (front left : List ℕ) (file : TreeFile) → length bytes ≤ file_limit → IsFileOf front file → 0 < length left → bytes ≡ front ++ left → read_file bytes ≡ bad trailing (length front)
  unfolding file_bytes
  trailing_again front left file fits is some bytes_are =
      let stands = stands_from bytes 0 front left (omega arith) bytes_are in
      let here : 0 + length front ≡ length front = omega arith in
      let read = file_exact.again bytes 0 file (length front) (record { right = valid_right file is.valid; stands = subst (λ (part : List ℕ). StandsAt bytes 0 part (length front)) is.bytes_are (subst (StandsAt bytes 0 front) here stands) }) in
      let long = ap length bytes_are in
      let both = length-append front left in
      read_small fits ∙ ap (λ (answer : Decoded FileFaultKind TreeFile). decoded_then answer to_end) read
      ∙ ap (λ (b : Bool). cond b (bad trailing (length front)) (got file (length front))) (lt-ltb (length front) (length bytes) (omega (arith, long, both, some)))

  pub tree_fault_again : (fault : FileFaultKind) (place : ℕ) → IsFaultOfFileBytes bytes fault place → read_file bytes ≡ bad fault place
  tree_fault_again fault place (too_many_bytes more) = read_large more
  tree_fault_again fault place (in_part kind where_is fits has) =
      read_small fits ∙ ap (λ (answer : Decoded FileFaultKind TreeFile). decoded_then answer to_end) (parts_faults.again bytes 0 kind where_is are (omega arith) has)
  tree_fault_again fault place (behind_file front left file fits is some bytes_are) = trailing_again front left file fits is some bytes_are
