-- A file can be written and read again exactly where it is valid.
use Rattle.std.proofs.Common.{◌≡◌, ◌<◌, ◌≤◌, ℕ, ◌+◌, ◌^◌, Bool, true, false, cond, eqb, ltb, leb, ◌&&◌, List, [], ◌∷◌, All, Option, Some, None, get_or, refl, ap, subst, ◌∙◌, arith}
use Rattle.std.specs.Prelude.{IfSome, is_some, count_by}
use Rattle.std.specs.List.{list_all}
use Rattle.std.proofs.lemmas.Bool.{and_parts, and_from, lt-ltb, ltb-true, le-leb, eq-eqb}
use Rattle.std.proofs.lemmas.List.{get_or_default}
use Rattle.std.proofs.lemmas.List.Sums.{count_by-le-length}
use Rattle.std.proofs.lemmas.List.Elements.{All-nil, All-cons, All-head, All-tail}
use Rattle.qm_space.specs.Plane.{Plane}
use Rattle.qm_space.specs.Reduced.{IsReduced}
use Rattle.qm_partition.specs.declared.node.Node.{Node as NodeRecord}
use Rattle.qm_partition.specs.declared.node.Leaf.{Leaf as LeafRecord}
use Rattle.qm_partition.specs.Counting.{leaves_of, node_count}
use Rattle.qm_partition.specs.Numbering.{child_of, nodes_of, AreNumbered}
use Rattle.qm_partition.specs.Partition.{Partition, leaf, node}
use Rattle.qm_partition.specs.Arrays.{partition_of, tree_of}
use Rattle.qm_partition.specs.WellMade.{IsWellMade, IsMadeOf}
use Rattle.qm_partition.specs.inner.Parts.{AreParts}
use Rattle.qm_partition.proofs.Counts.{one_leaf_more, length-nodes_of}
use Rattle.qm_partition.proofs.MadeTrees.{made_of_parts, parts_of_made}
use Rattle.qm_contacts.specs.NumberedLeaves.{is_numbered}
use Rattle.qm_formats.specs.Layout.{right_option, many, each}
use Rattle.qm_formats.specs.Fields.{unsigned}
use Rattle.qm_formats.specs.FileParts.{plane_layout, node_layout, leaf_layout}
use Rattle.qm_formats.specs.TreeFile.{TreeFile, AreRows, IsValidFile}
use Rattle.qm_formats.specs.FileLayout.{Header, is_version, magic_layout, bound_layout, section_count_layout, file_header_layout, numbered_answer, are_numbered, are_ordered, own_row_layout, planes_layout, nodes_layout, leaves_layout, rows_layout, tree_layout, sections_layout, header_of, file_layout}
use Rattle.qm_formats.proofs.RightParts.{right_each_at, right_each_from, reduced_plane, right_plane, plane_right, node_right, right_node, leaf_right, right_leaf, row_right, right_row}
use Rattle.qm_formats.proofs.RightSections.{IsRightVersion, version_of_right, right_of_version, few_sections, right_sections, sections_right}
use Rattle.qm_formats.proofs.ChildNumbers.{IsBelow, HasBelow, children_below, leaves_below}
use Rattle.qm_formats.proofs.ExactFile.{right_each_length, right_counts, right_parts, CanStand, counted_parts, stand_of_tree, own_tree}

-- a test that each element passes
list_all-passed : {X : Type 0} (test : X → Bool) (xs : List X) → list_all test xs ≡ true → All (λ x. test x ≡ true) xs
list_all-passed test [] is = All-nil (λ x. test x ≡ true)
list_all-passed test (x ∷ xs) is =
    let both = and_parts (test x) (list_all test xs) is in
    All-cons (λ x. test x ≡ true) x xs both.0 (list_all-passed test xs both.1)

list_all-from : {X : Type 0} (test : X → Bool) (xs : List X) → All (λ x. test x ≡ true) xs → list_all test xs ≡ true
list_all-from test [] each = refl
list_all-from test (x ∷ xs) each =
    let P : _ → Type 0 = λ y. test y ≡ true in
    and_from (test x) (list_all test xs) (All-head P x xs each) (list_all-from test xs (All-tail P x xs each))

-- ---- what is right is valid

-- the rows of an option
rows_valid : (numbered : ℕ) (rows : Option (List (List Bool))) (has_rows : Bool) → right_option (each (own_row_layout numbered) numbered) has_rows rows ≡ true → IfSome rows (AreRows numbered)
rows_valid numbered None has_rows right = tt
rows_valid numbered (Some rows) true right =
    let long = right_each_length (own_row_layout numbered) 0 numbered rows right in
    let at = right_each_at (own_row_layout numbered) 0 numbered rows right in
    record {
      one_each = long;
      places = λ k d within. (right_row numbered (0 + k) (get_or rows k d) (at k d within)).0;
      own = λ k within.
          let place : 0 + k ≡ k = omega arith in
          subst (λ (i : ℕ). get_or (get_or rows k []) i false ≡ true) place (right_row numbered (0 + k) (get_or rows k []) (at k [] (omega (arith, long, within)))).1;
    }
rows_valid numbered (Some rows) false right = absurd cc

rows_right : (numbered : ℕ) (rows : Option (List (List Bool))) → IfSome rows (AreRows numbered) → right_option (each (own_row_layout numbered) numbered) (is_some rows) rows ≡ true
rows_right numbered None are = refl
rows_right numbered (Some rows) are =
    right_each_from (own_row_layout numbered) 0 numbered rows are.one_each (λ i d within.
    let place : i ≡ 0 + i = omega arith in
    let same : get_or rows i d ≡ get_or rows i [] = get_or_default rows i d [] within in
    let own = ap (λ (row : List Bool). get_or row i false) same ∙ are.own i (omega (arith, within, are.one_each)) in
    subst (λ (k : ℕ). (own_row_layout numbered k).right (get_or rows i d) ≡ true) place (row_right numbered i (get_or rows i d) (are.places i d within) own))

-- parts that can stand in a file are those of a tree, whose planes are in lowest terms
record AreOfTree (planes : List Plane) (nodes : List NodeRecord) (leaves : List LeafRecord) : Type 0 where
  made : IsMadeOf (tree_of planes nodes leaves) planes nodes leaves
  reduced : All IsReduced planes
  below : All (HasBelow (2 ^ 63) (2 ^ 63)) nodes

of_tree : (header : Header) (planes : List Plane) (nodes : List NodeRecord) (leaves : List LeafRecord) → CanStand header planes nodes leaves → AreOfTree planes nodes leaves
of_tree header planes nodes leaves can =
    let counted = counted_parts header planes nodes leaves can in
    let are = right_parts header planes nodes leaves can in
    let each_plane = right_each_at (λ _. plane_layout) 0 header.planes planes are.of_planes in
    let each_node = right_each_at (λ _. node_layout) 0 header.nodes nodes are.of_nodes in
    let each_leaf = right_each_at (λ _. leaf_layout) 0 header.leaves leaves are.of_leaves in
    let named = list_all-passed (λ here. ltb here.plane header.planes) nodes are.named in
    let parts : AreParts planes nodes leaves = record {
      few = omega (arith, (right_counts header can.of_header).few_planes, counted.plane_count);
      leads = λ k d within. (reduced_plane (get_or planes k d) (right_plane (get_or planes k d) (each_plane k d within))).1;
      named = λ k d within. omega (arith, ltb-true (get_or nodes k d).plane header.planes (named k d within), counted.plane_count);
      solid = λ k d within. right_leaf (get_or leaves k d) (each_leaf k d within);
    } in
    record {
      made = made_of_parts planes nodes leaves parts (partition_of nodes leaves, counted.numbered);
      reduced = λ k d within. (reduced_plane (get_or planes k d) (right_plane (get_or planes k d) (each_plane k d within))).0;
      below = λ k d within. right_node (get_or nodes k d) (each_node k d within);
    }

pub made_of_right : (header : Header) (planes : List Plane) (nodes : List NodeRecord) (leaves : List LeafRecord) → CanStand header planes nodes leaves → IsMadeOf (tree_of planes nodes leaves) planes nodes leaves
made_of_right header planes nodes leaves can = (of_tree header planes nodes leaves can).made

-- a partition as the first child, whose nodes can stand in a file, has fewer than 2^63
top_below : (shape : Partition) → IsBelow (2 ^ 63) (2 ^ 63) (child_of shape 0 0)
top_below (leaf found) = omega arith
top_below (node plane front back) = omega arith

few_nodes_of : (shape : Partition) → All (HasBelow (2 ^ 63) (2 ^ 63)) (nodes_of shape 0 0) → node_count shape < 2 ^ 63
few_nodes_of shape below = omega (arith, one_leaf_more shape, leaves_below (2 ^ 63) (2 ^ 63) shape 0 0 (top_below shape) below)

pub right_valid : (file : TreeFile) → file_layout.right file ≡ true → IsValidFile file
unfolding file_layout rows_layout sections_layout
right_valid file right =
    let header = header_of file in
    let nodes = nodes_of file.tree.shape 0 0 in
    let leaves = leaves_of file.tree.shape in
    let of_tree_right = (tree_layout header).right file.tree in
    let of_rows = (rows_layout header).right file.rows in
    let of_sections = (sections_layout header).right file.sections in
    let of_header = and_parts (file_header_layout.right header) (of_tree_right && (of_rows && of_sections)) right in
    let parts = and_parts of_tree_right (of_rows && of_sections) of_header.1 in
    let behind = and_parts of_rows of_sections parts.1 in
    let counts = right_counts header of_header.0 in
    let tree = of_tree header file.tree.planes nodes leaves (stand_of_tree header file.tree of_header.0 parts.0) in
    record {
      of_version = version_of_right file (record { of_version = counts.of_version; of_bound = counts.of_bound; of_sections = counts.of_sections });
      well_made = subst IsWellMade (own_tree file.tree) tree.made.well_made;
      few_nodes = few_nodes_of file.tree.shape tree.below;
      reduced = tree.reduced;
      rows = rows_valid header.numbered file.rows header.has_rows behind.0;
      sections = right_sections 0 header.sections file.sections behind.1;
    }

-- ---- what is valid is right

flag_right : (flag : Bool) → ((ltb (cond flag 1 0) 256) && (leb (cond flag 1 0) 1)) ≡ true
flag_right true = refl
flag_right false = refl

header_right : (header : Header) → IsRightVersion header.version header.bound header.sections → header.planes < 2 ^ 32 → header.nodes < 2 ^ 63 → header.leaves ≡ header.nodes + 1 → header.numbered ≤ header.leaves → file_header_layout.right header ≡ true
unfolding file_header_layout magic_layout unsigned
header_right header version planes nodes leaves numbered =
    let of_planes = (ltb header.planes (2 ^ 64)) && (ltb header.planes (2 ^ 32)) in
    let of_nodes = ltb header.nodes (2 ^ 64) in
    let of_leaves = (ltb header.leaves (2 ^ 64)) && (eqb header.leaves (header.nodes + 1)) in
    let of_numbered = (ltb header.numbered (2 ^ 64)) && (leb header.numbered header.leaves) in
    let of_flag = (ltb (cond header.has_rows 1 0) 256) && (leb (cond header.has_rows 1 0) 1) in
    let of_bound = (bound_layout header.version).right header.bound in
    let of_sections = (section_count_layout header.version).right header.sections in
    and_from (is_version header.version) (of_planes && (of_nodes && (of_leaves && (of_numbered && (of_flag && (of_bound && of_sections)))))) version.of_version
    (and_from of_planes (of_nodes && (of_leaves && (of_numbered && (of_flag && (of_bound && of_sections)))))
    (and_from (ltb header.planes (2 ^ 64)) (ltb header.planes (2 ^ 32)) (lt-ltb header.planes (2 ^ 64) (omega (arith, planes))) (lt-ltb header.planes (2 ^ 32) planes))
    (and_from of_nodes (of_leaves && (of_numbered && (of_flag && (of_bound && of_sections)))) (lt-ltb header.nodes (2 ^ 64) (omega (arith, nodes)))
    (and_from of_leaves (of_numbered && (of_flag && (of_bound && of_sections)))
    (and_from (ltb header.leaves (2 ^ 64)) (eqb header.leaves (header.nodes + 1)) (lt-ltb header.leaves (2 ^ 64) (omega (arith, nodes, leaves))) (eq-eqb header.leaves (header.nodes + 1) leaves))
    (and_from of_numbered (of_flag && (of_bound && of_sections))
    (and_from (ltb header.numbered (2 ^ 64)) (leb header.numbered header.leaves) (lt-ltb header.numbered (2 ^ 64) (omega (arith, nodes, leaves, numbered))) (le-leb header.numbered header.leaves numbered))
    (and_from of_flag (of_bound && of_sections) (flag_right header.has_rows)
    (and_from of_bound of_sections version.of_bound version.of_sections))))))

pub valid_right : (file : TreeFile) → IsValidFile file → file_layout.right file ≡ true
unfolding file_layout tree_layout planes_layout nodes_layout leaves_layout rows_layout sections_layout are_ordered are_numbered
valid_right file valid =
    let header = header_of file in
    let shape = file.tree.shape in
    let planes = file.tree.planes in
    let nodes = nodes_of shape 0 0 in
    let leaves = leaves_of shape in
    let numbered : AreNumbered shape nodes leaves = record { nodes_are = refl; leaves_are = refl } in
    let parts = parts_of_made planes nodes leaves file.tree (record { planes_are = refl; numbered = numbered; well_made = valid.well_made }) in
    let count = length-nodes_of shape 0 0 in
    let more = one_leaf_more shape in
    let below = children_below (2 ^ 63) (2 ^ 63) shape 0 0 (omega (arith, valid.few_nodes)) (omega (arith, more, valid.few_nodes)) in
    let of_planes = (planes_layout header).right planes in
    let of_nodes = (nodes_layout header).right nodes in
    let of_leaves = (leaves_layout header).right leaves in
    let of_rows = (rows_layout header).right file.rows in
    let of_sections = (sections_layout header).right file.sections in
    let version = right_of_version file valid.of_version (few_sections file.sections valid.sections) in
    and_from (file_header_layout.right header) ((of_planes && (of_nodes && of_leaves)) && (of_rows && of_sections))
    (header_right header version parts.few (omega (arith, count, valid.few_nodes)) (omega (arith, count, more)) (count_by-le-length is_numbered leaves))
    (and_from (of_planes && (of_nodes && of_leaves)) (of_rows && of_sections)
    (and_from of_planes (of_nodes && of_leaves)
    (right_each_from (λ _. plane_layout) 0 header.planes planes refl (λ i d within. plane_right (get_or planes i d) (valid.reduced i d within) (parts.leads i d within)))
    (and_from of_nodes of_leaves
    (and_from ((many node_layout header.nodes).right nodes) (are_ordered header.planes nodes)
    (right_each_from (λ _. node_layout) 0 header.nodes nodes refl (λ i d within. node_right (get_or nodes i d) (omega (arith, parts.named i d within, parts.few)) (below i d within)))
    (and_from (list_all (λ here. ltb here.plane header.planes) nodes) (are_numbered nodes)
    (list_all-from (λ here. ltb here.plane header.planes) nodes (λ i d within. lt-ltb (get_or nodes i d).plane header.planes (parts.named i d within)))
    (((numbered_answer nodes).1 leaves (omega (arith, count, more))).1 (shape, numbered))))
    (and_from ((many leaf_layout header.leaves).right leaves) (eqb (count_by is_numbered leaves) header.numbered)
    (right_each_from (λ _. leaf_layout) 0 header.leaves leaves refl (λ i d within. leaf_right (get_or leaves i d) (parts.solid i d within)))
    (eq-eqb (count_by is_numbered leaves) header.numbered refl))))
    (and_from of_rows of_sections (rows_right header.numbered file.rows valid.rows) (sections_right 0 file.sections valid.sections)))
