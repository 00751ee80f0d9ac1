use Rattle.std.specs.Prelude.{ℕ, ℤ, pos, negsuc, Bool, ◌&&◌, ◌||◌, ◌==◌, nat_le, unsigned_abs, if◌then◌else◌}
use Rattle.std.specs.Int.{w8, w32, w64}
use Rattle.qm_space.specs.Bounds.{normal_bound, distance_bound}
use Rattle.qm_space.specs.Plane.{Plane}
use Rattle.qm_space.specs.Reduced.{leads_positive}
use Rattle.qm_space.specs.ThreePoints.{common_factor}
use Rattle.qm_contents.specs.Codes.{code_of, is_code, contents_of_code}
use Rattle.qm_partition.specs.declared.node.Child.{Child}
use Rattle.qm_partition.specs.declared.node.Child.TheVariants.{Node, Leaf}
use Rattle.qm_partition.specs.declared.node.Node.{Node as NodeRecord}
use Rattle.qm_partition.specs.declared.node.Leaf.{Leaf as LeafRecord}
use Rattle.qm_contacts.specs.NumberedLeaves.{is_solid}
use Rattle.qm_formats.specs.Layout.{Layout, recast, tested, followed_by, part, last_part}
use Rattle.qm_formats.specs.Fields.{unsigned, signed}

-- The records of a tree file.

-- What is wrong in a tree file.
pub data FileFaultKind : Type 0 where
  short : FileFaultKind
  magic : FileFaultKind
  counts : FileFaultKind
  plane_form : FileFaultKind
  node_order : FileFaultKind
  leaf_form : FileFaultKind
  row_form : FileFaultKind
  trailing : FileFaultKind
  too_long : FileFaultKind
  header_form : FileFaultKind
  section_form : FileFaultKind

-- a plane that leads with a positive component, is in lowest terms, and has components and a distance within the bounds
unfoldable pub is_plane : Plane → Bool
is_plane h =
    leads_positive h && ((common_factor h == 1) && (nat_le (unsigned_abs h.nx) normal_bound && (nat_le (unsigned_abs h.ny) normal_bound && (nat_le (unsigned_abs h.nz) normal_bound && nat_le (unsigned_abs h.d) distance_bound))))

-- the normal as three numbers of 32 bits, and the distance in 64
unfoldable pub plane_layout : Layout FileFaultKind Plane
plane_layout =
    tested is_plane plane_form (λ _ at. at) (
    part (λ h. h.nx) (signed short w32) (λ nx.
    part (λ h. h.ny) (signed short w32) (λ ny.
    part (λ h. h.nz) (signed short w32) (λ nz.
    last_part (λ h. h.d) (signed short w64) (λ d. record { nx = nx; ny = ny; nz = nz; d = d })))))

-- a node is its number, a leaf is -(1 + its number)
abbrev pub child_of_number : ℤ → Child
child_of_number (pos n) = Node n
child_of_number (negsuc k) = Leaf k

abbrev pub number_of_child : Child → ℤ
number_of_child (Node n) = pos n
number_of_child (Leaf k) = negsuc k

-- a child in 64 bits
unfoldable pub child_layout : Layout FileFaultKind Child
child_layout = recast child_of_number number_of_child (signed short w64)

-- the plane's number in 32 bits, the child in front and the child behind
unfoldable pub node_layout : Layout FileFaultKind NodeRecord
node_layout =
    part (λ here. here.plane) (unsigned short w32) (λ plane.
    part (λ here. here.front) child_layout (λ front.
    last_part (λ here. here.back) child_layout (λ back. record { plane = plane; front = front; back = back })))

-- a code of contents, and a byte that is 0, or 1 where these are solid
unfoldable pub is_leaf : ℤ × ℕ → Bool
is_leaf v = is_code v.0 && (nat_le v.1 1 && ((v.1 == 0) || is_solid (contents_of_code v.0)))

-- the code of the contents in 32 bits, and a byte that says whether the leaf is filled
unfoldable pub leaf_layout : Layout FileFaultKind LeafRecord
leaf_layout =
    recast (λ v. record { contents = contents_of_code v.0; filled = v.1 == 1 }) (λ found. (code_of found.contents, if found.filled then 1 else 0))
    (tested is_leaf leaf_form (λ _ at. at) (followed_by (signed short w32) (unsigned short w8)))
