use Rattle.std.specs.Prelude.{◌≡◌, ℕ, ℤ, pos, unsigned_abs, Bool, false, not, ◌&&◌, ◌==◌, nat_lt, nat_le, List, ◌++◌, flat_map, length, slice_index_or, Option, Some}
use Rattle.std.specs.Int.{w32, w64}
use Rattle.std.specs.List.{list_all}
use Rattle.qm_space.specs.Plane.{Plane}
use Rattle.qm_space.specs.Meet.{meet}
use Rattle.qm_partition.specs.Counting.{leaf_count}
use Rattle.qm_formats.specs.Layout.{Decoded, Layout, tested, part, last_part, many, read_to_end}
use Rattle.qm_formats.specs.Fields.{unsigned, signed}
use Rattle.qm_formats.specs.FileParts.{FileFaultKind, short, trailing, section_form}
use Rattle.qm_formats.specs.TreeFile.{TreeFile}
use Rattle.qm_face_layout.specs.PlaneNumbers.{named_plane}
use Rattle.qm_face_layout.specs.declared.face_record.FaceRecord.{FaceRecord}
use Rattle.qm_face_layout.specs.ValidFace.{AreFacesOfFile}

-- The bytes of the section of faces: how many there are, and each face. A number that is due and a list of which too little is
-- there are faults at the end; what is wrong of a face whose bytes are all there is one at its first byte; and what stands behind
-- the last is one at its place.

-- three numbers of planes, each in 64 bits
unfoldable pub face_corner_layout : Layout FileFaultKind (List ℤ)
face_corner_layout = many (signed short w64) 3

-- how many corners there are, in 32 bits, and each
unfoldable pub face_corners_layout : Layout FileFaultKind (List (List ℤ))
face_corners_layout =
    part (λ (corners : List (List ℤ)). length corners) (unsigned short w32) (λ count. last_part (λ corners. corners) (many face_corner_layout count) (λ corners. corners))

-- the leaf and the brush in 64 bits, the place of the face in 32, and the corners
unfoldable pub face_parts_layout : Layout FileFaultKind FaceRecord
face_parts_layout =
    part (λ face. face.leaf) (unsigned short w64) (λ leaf.
    part (λ face. face.brush) (unsigned short w64) (λ brush.
    part (λ face. face.face) (unsigned short w32) (λ place.
    last_part (λ face. face.corners) face_corners_layout (λ corners. record { leaf = leaf; brush = brush; face = place; corners = corners }))))

-- whether three planes are there and meet in just one point
abbrev pub meet_in_point : Option Plane → Option Plane → Option Plane → Bool
meet_in_point (Some a) (Some b) (Some c) = not (unsigned_abs (meet a b c).w == 0)
meet_in_point _ _ _ = false

-- whether the three numbers of a corner name planes that do
unfoldable pub is_face_corner : List Plane → ℕ → List ℤ → Bool
is_face_corner planes bound corner =
    meet_in_point (named_plane planes bound (slice_index_or corner 0 (pos 0))) (named_plane planes bound (slice_index_or corner 1 (pos 0))) (named_plane planes bound (slice_index_or corner 2 (pos 0)))

-- what a face has to be: it has three corners or more, its leaf is one of the tree's, and its corners are points
unfoldable pub is_face : TreeFile → FaceRecord → Bool
is_face file face =
    nat_le 3 (length face.corners) && (nat_lt face.leaf (leaf_count file.tree.shape) && list_all (is_face_corner file.tree.planes file.bound) face.corners)

-- a face that can stand in the file
unfoldable pub face_layout : TreeFile → Layout FileFaultKind FaceRecord
face_layout file = tested (is_face file) section_form (λ _ at. at) face_parts_layout

-- how many faces there are, in 64 bits, and each
unfoldable pub faces_layout : TreeFile → Layout FileFaultKind (List FaceRecord)
faces_layout file =
    part (λ (faces : List FaceRecord). length faces) (unsigned short w64) (λ count. last_part (λ faces. faces) (many (face_layout file) count) (λ faces. faces))

-- the bytes of faces, whatever the file
unfoldable pub faces_bytes : List FaceRecord → List ℕ
faces_bytes faces = (unsigned short w64).bytes_of (length faces) ++ flat_map face_parts_layout.bytes_of faces

-- these are the bytes of faces that can stand in a section of the file
pub record AreFacesBytes (file : TreeFile) (bytes : List ℕ) (faces : List FaceRecord) : Type 0 where
  pub are_valid : AreFacesOfFile file faces
  pub bytes_are : bytes ≡ faces_bytes faces

-- what is read in the bytes of a section, or the first fault
unfoldable pub read_faces : TreeFile → List ℕ → Decoded FileFaultKind (List FaceRecord)
read_faces file bytes = read_to_end (faces_layout file) trailing bytes
