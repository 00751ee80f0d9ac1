-- The bytes of a face and of a corner, part by part.
use Rattle.std.proofs.Common.{◌≡◌, ℕ, ℤ, pos, List, [], ◌∷◌, ◌++◌, length, get_or, flat_map, ap, append-nil, arith}
use Rattle.std.specs.Int.{w32, w64}
use Rattle.qm_formats.specs.Fields.{unsigned, signed}
use Rattle.qm_formats.specs.FileParts.{short}
use Rattle.qm_formats.proofs.ManyBytes.{many_bytes}
use Rattle.qm_face_layout.specs.declared.face_record.FaceRecord.{FaceRecord}
use Rattle.qm_face_layout.specs.FacesLayout.{face_corner_layout, face_corners_layout, face_parts_layout}

pub corner_bytes-parts : (corner : List ℤ) → length corner ≡ 3 →
    face_corner_layout.bytes_of corner ≡ (signed short w64).bytes_of (get_or corner 0 (pos 0)) ++ ((signed short w64).bytes_of (get_or corner 1 (pos 0)) ++ (signed short w64).bytes_of (get_or corner 2 (pos 0)))
unfolding face_corner_layout
corner_bytes-parts [] three = absurd (omega (arith, three))
corner_bytes-parts (x ∷ []) three = absurd (omega (arith, three))
corner_bytes-parts (x ∷ y ∷ []) three = absurd (omega (arith, three))
corner_bytes-parts (x ∷ y ∷ z ∷ []) three = ap (λ (last : List ℕ). (signed short w64).bytes_of x ++ ((signed short w64).bytes_of y ++ last)) (append-nil ((signed short w64).bytes_of z))
corner_bytes-parts (x ∷ y ∷ z ∷ t ∷ corner) three = absurd (omega (arith, three))

pub face_bytes-parts : (face : FaceRecord) →
    face_parts_layout.bytes_of face ≡ (unsigned short w64).bytes_of face.leaf ++ ((unsigned short w64).bytes_of face.brush ++ ((unsigned short w32).bytes_of face.face ++ ((unsigned short w32).bytes_of (length face.corners) ++ flat_map face_corner_layout.bytes_of face.corners)))
unfolding face_parts_layout face_corners_layout
face_bytes-parts face =
    ap (λ (corners : List ℕ). (unsigned short w64).bytes_of face.leaf ++ ((unsigned short w64).bytes_of face.brush ++ ((unsigned short w32).bytes_of face.face ++ ((unsigned short w32).bytes_of (length face.corners) ++ corners)))) (many_bytes face_corner_layout 0 face.corners)
