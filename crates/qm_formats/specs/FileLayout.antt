use Rattle.std.specs.Prelude.{◌≡◌, ◌≤◌, ◌↔◌, IsTrue, ◌^◌, ℕ, ◌+◌, ◌-◌, Bool, false, ◌&&◌, ◌||◌, ◌==◌, nat_lt, nat_le, List, length, slice_index_or, Option, is_some, codes, count_by, if◌then◌else◌}
use Rattle.std.specs.Int.{w8, w32, w64}
use Rattle.std.specs.List.{list_all}
use Rattle.qm_space.specs.Plane.{Plane}
use Rattle.qm_partition.specs.declared.node.Node.{Node as NodeRecord}
use Rattle.qm_partition.specs.declared.node.Leaf.{Leaf as LeafRecord}
use Rattle.qm_partition.specs.Tree.{Tree}
use Rattle.qm_partition.specs.Counting.{leaves_of}
use Rattle.qm_partition.specs.Partition.{Partition}
use Rattle.qm_partition.specs.Numbering.{nodes_of, AreNumbered}
use Rattle.qm_partition.proofs.NumberedNodes.{numbered_partition, numbered_or_not}
use Rattle.qm_contacts.specs.NumberedLeaves.{is_numbered}
use Rattle.qm_formats.specs.Layout.{Decoded, Layout, seen_as, recast, tested, followed_by, part, last_part, each, many, each_after, choice, present, read_whole_file}
use Rattle.qm_formats.specs.Fields.{raw, unsigned, fixed_before, unwritten}
use Rattle.qm_formats.specs.RowBits.{row_bits}
use Rattle.qm_formats.specs.FileParts.{FileFaultKind, short, magic, counts, node_order, row_form, trailing, too_long, header_form, section_form, plane_layout, node_layout, leaf_layout}
use Rattle.qm_formats.specs.TreeFile.{Section, TreeFile, IsValidFile, small_bound, large_bound}

-- The bytes of a tree file: a header, the planes, the nodes, the leaves, the rows of visibility where they are there, and
-- the sections. Version 1 has neither a bound nor sections.

-- the version, how many planes, nodes, leaves and numbered leaves there are, whether rows are there, half the size of the
-- world's cube, and how many sections there are
pub record Header : Type 0 where
  pub version : ℕ
  pub planes : ℕ
  pub nodes : ℕ
  pub leaves : ℕ
  pub numbered : ℕ
  pub has_rows : Bool
  pub bound : ℕ
  pub sections : ℕ

abbrev pub is_version : ℕ → Bool
is_version version = (version == 1) || (version == 2)

-- seven fixed bytes and the digit of the version, as one record; what is not version 1 is written as version 2
unfoldable pub magic_layout : Layout FileFaultKind ℕ
magic_layout = seen_as (λ digit. digit - 48) (λ version. if version == 1 then 49 else 50) is_version (fixed_before short magic (codes "QMTREE0") (λ digit. is_version (digit - 48)))

-- a count in 64 bits that passes a test
abbrev pub count_layout : (ℕ → Bool) → Layout FileFaultKind ℕ
count_layout test = tested test counts (λ _ at. at) (unsigned short w64)

-- a byte that is 0 or 1
abbrev pub flag_layout : Layout FileFaultKind Bool
flag_layout = recast (λ n. n == 1) (λ flag. if flag then 1 else 0) (tested (λ n. nat_le n 1) counts (λ _ at. at) (unsigned short w8))

-- a number that version 2 writes; version 1 has a fixed one in its place
abbrev pub since_second : ℕ → ℕ → Layout FileFaultKind ℕ → Layout FileFaultKind ℕ
since_second version before layout = choice (version == 1) (unwritten before) layout

abbrev pub is_bound : ℕ → Bool
is_bound bound = (bound == small_bound) || (bound == large_bound)

-- half the size of the world's cube, in 32 bits
unfoldable pub bound_layout : ℕ → Layout FileFaultKind ℕ
bound_layout version = since_second version small_bound (tested is_bound header_form (λ _ at. at) (unsigned short w32))

-- how many sections there are, in 32 bits
unfoldable pub section_count_layout : ℕ → Layout FileFaultKind ℕ
section_count_layout version = since_second version 0 (unsigned short w32)

-- the magic bytes with the version; how many planes there are, fewer than 2^32; how many nodes; how many leaves, one more;
-- how many of them are numbered; whether rows are there; the bound; and how many sections there are
unfoldable pub file_header_layout : Layout FileFaultKind Header
file_header_layout =
    part (λ header. header.version) magic_layout (λ version.
    part (λ header. header.planes) (count_layout (λ planes. nat_lt planes (2 ^ 32))) (λ planes.
    part (λ header. header.nodes) (unsigned short w64) (λ nodes.
    part (λ header. header.leaves) (count_layout (λ leaves. leaves == nodes + 1)) (λ leaves.
    part (λ header. header.numbered) (count_layout (λ numbered. nat_le numbered leaves)) (λ numbered.
    part (λ header. header.has_rows) flag_layout (λ has_rows.
    part (λ header. header.bound) (bound_layout version) (λ bound.
    last_part (λ header. header.sections) (section_count_layout version) (λ sections.
    record { version = version; planes = planes; nodes = nodes; leaves = leaves; numbered = numbered; has_rows = has_rows; bound = bound; sections = sections }))))))))

-- nodes and leaves are those of one partition at most: where they are of one, this is it; it does not matter how it is found
abbrev pub shape_of : (nodes : List NodeRecord) (leaves : List LeafRecord) → (shape : Partition) × ((other : Partition) → AreNumbered other nodes leaves → shape ≡ other)
shape_of nodes leaves = numbered_partition nodes leaves

-- whether nodes are those of a partition, whatever its leaves are
abbrev pub TellsIfNumbered : List NodeRecord → Bool → Type 0
TellsIfNumbered nodes answer = (leaves : List LeafRecord) → length leaves ≡ length nodes + 1 → (IsTrue answer ↔ ((shape : Partition) × AreNumbered shape nodes leaves))

-- this can always be told, and it does not matter how
unfoldable pub numbered_answer : (nodes : List NodeRecord) → (answer : Bool) × TellsIfNumbered nodes answer
numbered_answer nodes = numbered_or_not nodes

-- nodes are numbered where they are those of a partition, numbered front first
unfoldable pub are_numbered : List NodeRecord → Bool
are_numbered nodes = (numbered_answer nodes).0

-- nodes that name planes of so many, and are numbered
unfoldable pub are_ordered : ℕ → List NodeRecord → Bool
are_ordered planes nodes = list_all (λ here. nat_lt here.plane planes) nodes && are_numbered nodes

-- a row of so many places in which the place k is set
unfoldable pub own_row_layout : ℕ → ℕ → Layout FileFaultKind (List Bool)
own_row_layout places k = tested (λ row. slice_index_or row k false) row_form (λ _ at. at) (row_bits short row_form places)

unfoldable pub planes_layout : Header → Layout FileFaultKind (List Plane)
planes_layout header = many plane_layout header.planes

-- the nodes; what is wrong with them as a whole is a fault at the first one's place
unfoldable pub nodes_layout : Header → Layout FileFaultKind (List NodeRecord)
nodes_layout header = tested (are_ordered header.planes) node_order (λ _ at. at) (many node_layout header.nodes)

-- the leaves, of which so many are numbered as the header says at its place 32
unfoldable pub leaves_layout : Header → Layout FileFaultKind (List LeafRecord)
leaves_layout header = tested (λ found. count_by is_numbered found == header.numbered) counts (λ _ _. 32) (many leaf_layout header.leaves)

-- a row for each numbered leaf, with a place for each, and its own place set
unfoldable pub rows_layout : Header → Layout FileFaultKind (Option (List (List Bool)))
rows_layout header = present (each (own_row_layout header.numbered) header.numbered) header.has_rows

-- the planes, the nodes and the leaves of a tree
unfoldable pub tree_layout : Header → Layout FileFaultKind Tree
tree_layout header =
    part (λ tree. tree.planes) (planes_layout header) (λ planes.
    part (λ tree. nodes_of tree.shape 0 0) (nodes_layout header) (λ nodes.
    last_part (λ tree. leaves_of tree.shape) (leaves_layout header) (λ leaves. record { planes = planes; shape = (shape_of nodes leaves).0 })))

-- the kind of a section, in 32 bits, which is above another, and how many bytes it has, in 64, as one record
unfoldable pub section_head_layout : ℕ → Layout FileFaultKind (ℕ × ℕ)
section_head_layout before = tested (λ head. nat_lt before head.0) section_form (λ _ at. at) (followed_by (unsigned short w32) (unsigned short w64))

-- a section of a kind above another: its head and its bytes
unfoldable pub section_layout : ℕ → Layout FileFaultKind Section
section_layout before =
    part (λ section. (section.kind, length section.bytes)) (section_head_layout before) (λ head.
    last_part (λ section. section.bytes) (raw short head.1) (λ bytes. record { kind = head.0; bytes = bytes }))

-- the sections, each of a kind above that of the one before, and the first above 0
unfoldable pub sections_layout : Header → Layout FileFaultKind (List Section)
sections_layout header = each_after (λ (section : Section). section.kind) section_layout 0 header.sections

abbrev pub header_of : TreeFile → Header
header_of file =
    let leaves = leaves_of file.tree.shape in
    record {
      version = file.version;
      planes = length file.tree.planes;
      nodes = length (nodes_of file.tree.shape 0 0);
      leaves = length leaves;
      numbered = count_by is_numbered leaves;
      has_rows = is_some file.rows;
      bound = file.bound;
      sections = length file.sections;
    }

-- the header, the tree, the rows and the sections
unfoldable pub file_layout : Layout FileFaultKind TreeFile
file_layout =
    part header_of file_header_layout (λ header.
    part (λ file. file.tree) (tree_layout header) (λ tree.
    part (λ file. file.rows) (rows_layout header) (λ rows.
    last_part (λ file. file.sections) (sections_layout header) (λ sections. record { version = header.version; bound = header.bound; tree = tree; rows = rows; sections = sections }))))

-- the bytes of a tree file
unfoldable pub file_bytes : TreeFile → List ℕ
file_bytes file = file_layout.bytes_of file

-- the most bytes of a file that is read: 1 GiB
abbrev pub file_limit : ℕ
file_limit = 1073741824

-- what is read in a file, or the first fault
unfoldable pub read_file : List ℕ → Decoded FileFaultKind TreeFile
read_file file = read_whole_file file_layout file_limit too_long trailing file

-- the bytes are those of a valid file, and no more than are read
pub record IsFileOf (bytes : List ℕ) (file : TreeFile) : Type 0 where
  pub valid : IsValidFile file
  pub bytes_are : bytes ≡ file_bytes file
  pub fits : length bytes ≤ file_limit
