-- A tree file is read exactly.
use Rattle.std.proofs.Common.{◌≡◌, ◌<◌, ℕ, zero, suc, ◌+◌, ◌-◌, ◌^◌, Bool, true, false, cond, eqb, ltb, leb, ◌&&◌, List, [], ◌∷◌, length, Option, Some, None, codes, refl, sym, ap, subst, ◌∙◌, arith, inl, inr}
use Rattle.std.specs.Prelude.{is_some, count_by}
use Rattle.std.proofs.lemmas.Bool.{and_parts, or_cases, ltb-true, eqb-true}
use Rattle.std.specs.Int.{w8, w32, w64}
use Rattle.std.specs.List.{list_all}
use Rattle.qm_space.specs.Plane.{Plane}
use Rattle.qm_partition.specs.declared.node.Node.{Node as NodeRecord}
use Rattle.qm_partition.specs.declared.node.Leaf.{Leaf as LeafRecord}
use Rattle.qm_partition.specs.Tree.{Tree}
use Rattle.qm_partition.specs.Counting.{leaves_of}
use Rattle.qm_partition.specs.Numbering.{nodes_of, AreNumbered}
use Rattle.qm_partition.specs.Arrays.{partition_of, tree_of}
use Rattle.qm_partition.proofs.OwnArrays.{partition_of-numbered}
use Rattle.qm_contacts.specs.NumberedLeaves.{is_numbered}
use Rattle.qm_formats.specs.Layout.{Layout, right_each, right_each_after, right_option, followed_by, each, many}
use Rattle.qm_formats.specs.Fields.{are_bytes, raw, unsigned, fixed_before, unwritten}
use Rattle.qm_formats.specs.Exact.{IsExact}
use Rattle.qm_formats.specs.FileParts.{short, magic, counts, node_order, header_form, section_form, plane_layout, node_layout, leaf_layout}
use Rattle.qm_formats.specs.TreeFile.{Section, small_bound}
use Rattle.qm_formats.specs.FileLayout.{Header, is_version, magic_layout, count_layout, flag_layout, is_bound, bound_layout, section_count_layout, file_header_layout, numbered_answer, are_numbered, are_ordered, own_row_layout, planes_layout, nodes_layout, leaves_layout, rows_layout, tree_layout, section_head_layout, section_layout, sections_layout, header_of, file_layout}
use Rattle.qm_formats.proofs.ExactParts.{seen_as_exact, recast_exact, tested_exact, followed_by_exact, choice_exact, part_exact, last_part_exact, IsAny, exact_of_parts, each_exact, each_after_exact, present_exact}
use Rattle.qm_formats.proofs.ExactFields.{raw_exact, byte_exact, unsigned_32_exact, unsigned_64_exact, fixed_before_exact, unwritten_exact}
use Rattle.qm_formats.proofs.ExactRecords.{plane_exact, node_exact, leaf_exact, flag_number, number_flag}
use Rattle.qm_formats.proofs.ExactRows.{own_row_exact}
use Rattle.qm_partition.proofs.NumberedNodes.{numbered-partition, numbered_or_not}

-- ---- the header

-- the digit of a version
abbrev digit_of : ℕ → ℕ
digit_of version = cond (eqb version 1) 49 50

digit_back : (digit : ℕ) → is_version (digit - 48) ≡ true → digit_of (digit - 48) ≡ digit
digit_back digit is =
    elim (or_cases (eqb (digit - 48) 1) (eqb (digit - 48) 2) is) [
      | inl first ↦ let e = eqb-true (digit - 48) 1 first in ap digit_of e ∙ omega (arith, e)
      | inr second ↦ let e = eqb-true (digit - 48) 2 second in ap digit_of e ∙ omega (arith, e)
    ]

-- a version is read again from its digit, which is a byte
abbrev IsReadAgain : ℕ → Type 0
IsReadAgain version = (digit_of version - 48 ≡ version) × ((ltb (digit_of version) 256 && is_version (digit_of version - 48)) ≡ true)

version_back : (version : ℕ) → is_version version ≡ true → IsReadAgain version
version_back version is =
    elim (or_cases (eqb version 1) (eqb version 2) is) [
      | inl first ↦ subst IsReadAgain (sym (eqb-true version 1 first)) (refl, refl)
      | inr second ↦ subst IsReadAgain (sym (eqb-true version 2 second)) (refl, refl)
    ]

pub magic_exact : IsExact magic_layout
unfolding magic_layout fixed_before
magic_exact =
    seen_as_exact (λ digit. digit - 48) digit_of is_version (fixed_before short magic (codes "QMTREE0") (λ digit. is_version (digit - 48))) (fixed_before_exact short magic (codes "QMTREE0") (λ digit. is_version (digit - 48)) refl) (λ digit right.
    let passed = (and_parts (ltb digit 256) (is_version (digit - 48)) right).1 in
    (digit_back digit passed, passed)) version_back

count_exact : (test : ℕ → Bool) → IsExact (count_layout test)
count_exact test = tested_exact test counts (λ _ at. at) (unsigned short w64) (unsigned_64_exact short)

flag_exact : IsExact flag_layout
flag_exact =
    recast_exact _ _ _ (tested_exact (λ n. leb n 1) counts (λ _ at. at) (unsigned short w8) (byte_exact short)) (λ n right. flag_number n (and_parts ((unsigned short w8).right n) (leb n 1) right).1) (λ flag right. number_flag flag)

pub bound_exact : (version : ℕ) → IsExact (bound_layout version)
unfolding bound_layout
bound_exact version =
    choice_exact (eqb version 1) (unwritten small_bound) _ (unwritten_exact small_bound) (tested_exact is_bound header_form (λ _ at. at) (unsigned short w32) (unsigned_32_exact short))

pub section_count_exact : (version : ℕ) → IsExact (section_count_layout version)
unfolding section_count_layout
section_count_exact version = choice_exact (eqb version 1) (unwritten 0) (unsigned short w32) (unwritten_exact 0) (unsigned_32_exact short)

pub header_exact : IsExact file_header_layout
unfolding file_header_layout
header_exact =
    exact_of_parts _ (
    part_exact _ _ _ _ magic_exact (λ version _.
    part_exact _ _ _ _ (count_exact (λ planes. ltb planes (2 ^ 32))) (λ planes _.
    part_exact _ _ _ _ (unsigned_64_exact short) (λ nodes _.
    part_exact _ _ _ _ (count_exact (λ leaves. eqb leaves (nodes + 1))) (λ leaves _.
    part_exact _ _ _ _ (count_exact (λ numbered. leb numbered leaves)) (λ numbered _.
    part_exact _ _ _ _ flag_exact (λ has_rows _.
    part_exact _ _ _ _ (bound_exact version) (λ bound _.
    last_part_exact _ _ _ _ (section_count_exact version) (λ sections _. record {
      before = record { before = record { before = record { before = record { before = record { before = record { before = record { before = tt; is = refl }; is = refl }; is = refl }; is = refl }; is = refl }; is = refl }; is = refl };
      is = refl;
    }) (λ header known.
    let of_rows = known.before in
    let of_numbered = of_rows.before in
    let of_leaves = of_numbered.before in
    let of_nodes = of_leaves.before in
    let of_planes = of_nodes.before in
    let of_version = of_planes.before in
    λ i. record {
      version = sym of_version.is i;
      planes = sym of_planes.is i;
      nodes = sym of_nodes.is i;
      leaves = sym of_leaves.is i;
      numbered = sym of_numbered.is i;
      has_rows = sym of_rows.is i;
      bound = sym known.is i;
      sections = header.sections;
    })))))))))

-- ---- planes, nodes, leaves and rows

pub planes_exact : (header : Header) → IsExact (planes_layout header)
unfolding planes_layout
planes_exact header = each_exact (λ _. plane_layout) (λ _. plane_exact) 0 header.planes

pub nodes_exact : (header : Header) → IsExact (nodes_layout header)
unfolding nodes_layout
nodes_exact header = tested_exact (are_ordered header.planes) node_order (λ _ at. at) (many node_layout header.nodes) (each_exact (λ _. node_layout) (λ _. node_exact) 0 header.nodes)

pub leaves_exact : (header : Header) → IsExact (leaves_layout header)
unfolding leaves_layout
leaves_exact header =
    tested_exact (λ found. eqb (count_by is_numbered found) header.numbered) counts (λ _ _. 32) (many leaf_layout header.leaves) (each_exact (λ _. leaf_layout) (λ _. leaf_exact) 0 header.leaves)

pub rows_exact : (header : Header) → IsExact (rows_layout header)
unfolding rows_layout
rows_exact header = present_exact (each (own_row_layout header.numbered) header.numbered) (each_exact (own_row_layout header.numbered) (own_row_exact header.numbered) 0 header.numbered) header.has_rows

-- right values are as many as are due
pub right_each_length : {F X : Type 0} (layout : ℕ → Layout F X) (k count : ℕ) (xs : List X) → right_each layout k count xs ≡ true → length xs ≡ count
right_each_length layout k zero [] right = refl
right_each_length layout k zero (x ∷ xs) right = absurd cc
right_each_length layout k (suc count) [] right = absurd cc
right_each_length layout k (suc count) (x ∷ xs) right = ap (λ (n : ℕ). suc n) (right_each_length layout (k + 1) count xs (and_parts ((layout k).right x) (right_each layout (k + 1) count xs) right).1)

pub right_each_after_length : {F X : Type 0} (key : X → ℕ) (layout : ℕ → Layout F X) (before count : ℕ) (xs : List X) → right_each_after key layout before count xs ≡ true → length xs ≡ count
right_each_after_length key layout before zero [] right = refl
right_each_after_length key layout before zero (x ∷ xs) right = absurd cc
right_each_after_length key layout before (suc count) [] right = absurd cc
right_each_after_length key layout before (suc count) (x ∷ xs) right =
    ap (λ (n : ℕ). suc n) (right_each_after_length key layout (key x) count xs (and_parts ((layout before).right x) (right_each_after key layout (key x) count xs) right).1)

right_option_there : {F X : Type 0} (layout : Layout F X) (is_there : Bool) (x : Option X) → right_option layout is_there x ≡ true → is_some x ≡ is_there
right_option_there layout true (Some x) right = refl
right_option_there layout true None right = absurd cc
right_option_there layout false (Some x) right = absurd cc
right_option_there layout false None right = refl

-- what a header says that can stand in a file
pub record AreRightCounts (header : Header) : Type 0 where
  pub of_version : is_version header.version ≡ true
  pub few_planes : header.planes < 2 ^ 32
  pub one_leaf_more : header.leaves ≡ header.nodes + 1
  pub of_bound : (bound_layout header.version).right header.bound ≡ true
  pub of_sections : (section_count_layout header.version).right header.sections ≡ true

pub right_counts : (header : Header) → file_header_layout.right header ≡ true → AreRightCounts header
unfolding file_header_layout magic_layout
right_counts header right =
    let sections = (section_count_layout header.version).right header.sections in
    let bound = (bound_layout header.version).right header.bound in
    let flag = flag_layout.right header.has_rows in
    let numbered = (count_layout (λ numbered. leb numbered header.leaves)).right header.numbered in
    let leaves = (count_layout (λ leaves. eqb leaves (header.nodes + 1))).right header.leaves in
    let nodes = (unsigned short w64).right header.nodes in
    let planes = (count_layout (λ planes. ltb planes (2 ^ 32))).right header.planes in
    let behind_version = and_parts (is_version header.version) (planes && (nodes && (leaves && (numbered && (flag && (bound && sections)))))) right in
    let behind_planes = and_parts planes (nodes && (leaves && (numbered && (flag && (bound && sections))))) behind_version.1 in
    let behind_nodes = and_parts nodes (leaves && (numbered && (flag && (bound && sections)))) behind_planes.1 in
    let behind_leaves = and_parts leaves (numbered && (flag && (bound && sections))) behind_nodes.1 in
    let behind_numbered = and_parts numbered (flag && (bound && sections)) behind_leaves.1 in
    let behind_flag = and_parts flag (bound && sections) behind_numbered.1 in
    let behind_bound = and_parts bound sections behind_flag.1 in
    record {
      of_version = behind_version.0;
      few_planes = ltb-true header.planes (2 ^ 32) (and_parts ((unsigned short w64).right header.planes) (ltb header.planes (2 ^ 32)) behind_planes.0).1;
      one_leaf_more = eqb-true header.leaves (header.nodes + 1) (and_parts ((unsigned short w64).right header.leaves) (eqb header.leaves (header.nodes + 1)) behind_leaves.0).1;
      of_bound = behind_bound.0;
      of_sections = behind_bound.1;
    }

-- planes, nodes and leaves that can stand in a file, each by itself
pub record CanStand (header : Header) (planes : List Plane) (nodes : List NodeRecord) (leaves : List LeafRecord) : Type 0 where
  pub of_header : file_header_layout.right header ≡ true
  pub of_planes : (planes_layout header).right planes ≡ true
  pub of_nodes : (nodes_layout header).right nodes ≡ true
  pub of_leaves : (leaves_layout header).right leaves ≡ true

-- the tests of each, where they can stand in a file
pub record AreRight (header : Header) (planes : List Plane) (nodes : List NodeRecord) (leaves : List LeafRecord) : Type 0 where
  pub of_planes : (many plane_layout header.planes).right planes ≡ true
  pub of_nodes : (many node_layout header.nodes).right nodes ≡ true
  pub named : list_all (λ here. ltb here.plane header.planes) nodes ≡ true
  pub numbered : are_numbered nodes ≡ true
  pub of_leaves : (many leaf_layout header.leaves).right leaves ≡ true
  pub counted : eqb (count_by is_numbered leaves) header.numbered ≡ true

pub right_parts : (header : Header) (planes : List Plane) (nodes : List NodeRecord) (leaves : List LeafRecord) → CanStand header planes nodes leaves → AreRight header planes nodes leaves
unfolding planes_layout nodes_layout leaves_layout are_ordered
right_parts header planes nodes leaves can =
    let test_nodes = and_parts ((many node_layout header.nodes).right nodes) (are_ordered header.planes nodes) can.of_nodes in
    let test_leaves = and_parts ((many leaf_layout header.leaves).right leaves) (eqb (count_by is_numbered leaves) header.numbered) can.of_leaves in
    let ordered = and_parts (list_all (λ here. ltb here.plane header.planes) nodes) (are_numbered nodes) test_nodes.1 in
    record {
      of_planes = can.of_planes;
      of_nodes = test_nodes.0;
      named = ordered.0;
      numbered = ordered.1;
      of_leaves = test_leaves.0;
      counted = test_leaves.1;
    }

-- what planes, nodes and leaves are that can stand in a file
pub record AreCounted (header : Header) (planes : List Plane) (nodes : List NodeRecord) (leaves : List LeafRecord) : Type 0 where
  pub plane_count : length planes ≡ header.planes
  pub node_count : length nodes ≡ header.nodes
  pub leaf_count : length leaves ≡ header.leaves
  pub numbered : AreNumbered (partition_of nodes leaves) nodes leaves
  pub numbered_count : count_by is_numbered leaves ≡ header.numbered

pub counted_parts : (header : Header) (planes : List Plane) (nodes : List NodeRecord) (leaves : List LeafRecord) → CanStand header planes nodes leaves → AreCounted header planes nodes leaves
unfolding are_numbered numbered_answer numbered_or_not
counted_parts header planes nodes leaves can =
    let are = right_parts header planes nodes leaves can in
    let node_count = right_each_length (λ _. node_layout) 0 header.nodes nodes are.of_nodes in
    let leaf_count = right_each_length (λ _. leaf_layout) 0 header.leaves leaves are.of_leaves in
    let counts = right_counts header can.of_header in
    record {
      plane_count = right_each_length (λ _. plane_layout) 0 header.planes planes are.of_planes;
      node_count = node_count;
      leaf_count = leaf_count;
      numbered = numbered-partition nodes leaves are.numbered (omega (arith, node_count, leaf_count, counts.one_leaf_more));
      numbered_count = eqb-true (count_by is_numbered leaves) header.numbered are.counted;
    }

-- the parts of a tree that can stand in a file can
pub stand_of_tree : (header : Header) (tree : Tree) → file_header_layout.right header ≡ true → (tree_layout header).right tree ≡ true → CanStand header tree.planes (nodes_of tree.shape 0 0) (leaves_of tree.shape)
unfolding tree_layout
stand_of_tree header tree right_header right =
    let nodes = nodes_of tree.shape 0 0 in
    let leaves = leaves_of tree.shape in
    let of_nodes = (nodes_layout header).right nodes in
    let of_leaves = (leaves_layout header).right leaves in
    let planes = and_parts ((planes_layout header).right tree.planes) (of_nodes && of_leaves) right in
    let others = and_parts of_nodes of_leaves planes.1 in
    record { of_header = right_header; of_planes = planes.0; of_nodes = others.0; of_leaves = others.1 }

pub own_tree : (tree : Tree) → tree_of tree.planes (nodes_of tree.shape 0 0) (leaves_of tree.shape) ≡ tree
own_tree tree =
    let own = partition_of-numbered tree.shape (nodes_of tree.shape 0 0) (leaves_of tree.shape) (record { nodes_are = refl; leaves_are = refl }) in
    λ i. record { planes = tree.planes; shape = own i }

pub tree_exact : (header : Header) → file_header_layout.right header ≡ true → IsExact (tree_layout header)
unfolding tree_layout
tree_exact header of_header =
    exact_of_parts _ (
    part_exact IsAny (λ tree. tree.planes) (planes_layout header) _ (planes_exact header) (λ planes of_planes.
    part_exact _ (λ tree. nodes_of tree.shape 0 0) (nodes_layout header) _ (nodes_exact header) (λ nodes of_nodes.
    last_part_exact _ (λ tree. leaves_of tree.shape) (leaves_layout header) (λ leaves. tree_of planes nodes leaves) (leaves_exact header) (λ leaves of_leaves.
    let are = counted_parts header planes nodes leaves (record { of_header = of_header; of_planes = of_planes; of_nodes = of_nodes; of_leaves = of_leaves }) in
    record { before = record { before = record { before = tt; is = refl }; is = sym are.numbered.nodes_are }; is = sym are.numbered.leaves_are }) (λ tree known.
    (λ i. tree_of (sym known.before.is i) (sym known.is i) (leaves_of tree.shape)) ∙ own_tree tree))))

-- ---- sections

pub section_head_exact : (before : ℕ) → IsExact (section_head_layout before)
unfolding section_head_layout
section_head_exact before =
    tested_exact (λ head. ltb before head.0) section_form (λ _ at. at) (followed_by (unsigned short w32) (unsigned short w64)) (followed_by_exact (unsigned short w32) (unsigned short w64) (unsigned_32_exact short) (unsigned_64_exact short))

-- right bytes are as many as are due
right_raw_length : (count : ℕ) (bytes : List ℕ) → (raw short count).right bytes ≡ true → length bytes ≡ count
unfolding raw
right_raw_length count bytes right = eqb-true (length bytes) count (and_parts (eqb (length bytes) count) (are_bytes bytes) right).0

pub section_exact : (before : ℕ) → IsExact (section_layout before)
unfolding section_layout
section_exact before =
    exact_of_parts _ (
    part_exact _ _ _ _ (section_head_exact before) (λ head _.
    last_part_exact _ _ _ _ (raw_exact short head.1) (λ bytes right.
    let long = right_raw_length head.1 bytes right in
    record { before = record { before = tt; is = λ i. (head.0, long i) }; is = refl }) (λ section known.
    λ i. record { kind = (sym known.is i).0; bytes = section.bytes })))

pub sections_exact : (header : Header) → IsExact (sections_layout header)
unfolding sections_layout
sections_exact header = each_after_exact (λ (section : Section). section.kind) section_layout section_exact 0 header.sections

-- ---- the file

-- the parts behind a header that can stand there
record CanStandBehind (header : Header) (tree : Tree) (rows : Option (List (List Bool))) (sections : List Section) : Type 0 where
  of_header : file_header_layout.right header ≡ true
  of_tree : (tree_layout header).right tree ≡ true
  of_rows : (rows_layout header).right rows ≡ true
  of_sections : (sections_layout header).right sections ≡ true

-- the header is that of the parts behind it
own_header :
    (header : Header) (tree : Tree) (rows : Option (List (List Bool))) (sections : List Section) →
    CanStandBehind header tree rows sections →
    header_of (record { version = header.version; bound = header.bound; tree = tree; rows = rows; sections = sections }) ≡ header
unfolding rows_layout sections_layout
own_header header tree rows sections can =
    let are = counted_parts header tree.planes (nodes_of tree.shape 0 0) (leaves_of tree.shape) (stand_of_tree header tree can.of_header can.of_tree) in
    let there = right_option_there (each (own_row_layout header.numbered) header.numbered) header.has_rows rows can.of_rows in
    let count = right_each_after_length (λ (section : Section). section.kind) section_layout 0 header.sections sections can.of_sections in
    λ i. record {
      version = header.version;
      planes = are.plane_count i;
      nodes = are.node_count i;
      leaves = are.leaf_count i;
      numbered = are.numbered_count i;
      has_rows = there i;
      bound = header.bound;
      sections = count i;
    }

pub file_exact : IsExact file_layout
unfolding file_layout
file_exact =
    exact_of_parts _ (
    part_exact _ _ _ _ header_exact (λ header of_header.
    part_exact _ _ _ _ (tree_exact header of_header) (λ tree of_tree.
    part_exact _ _ _ _ (rows_exact header) (λ rows of_rows.
    last_part_exact _ _ _ _ (sections_exact header) (λ sections of_sections. record {
      before = record {
        before = record {
          before = record { before = tt; is = own_header header tree rows sections (record { of_header = of_header; of_tree = of_tree; of_rows = of_rows; of_sections = of_sections }) };
          is = refl;
        };
        is = refl;
      };
      is = refl;
    }) (λ file known.
    let of_tree = known.before in
    let of_header = of_tree.before in
    λ i. record {
      version = (sym of_header.is i).version;
      bound = (sym of_header.is i).bound;
      tree = sym of_tree.is i;
      rows = sym known.is i;
      sections = file.sections;
    })))))
