-- In the bytes of faces each has some, and so has each of its corners.
use Rattle.std.proofs.Common.{◌≡◌, ◌≤◌, ℕ, ◌+◌, ℤ, pos, List, [], ◌∷◌, ◌++◌, All, length, get_or, flat_map, ap, length-append, arith}
use Rattle.std.specs.Int.{w32, w64}
use Rattle.std.proofs.lemmas.List.Elements.{All-nil, All-cons, All-head, All-tail, All-weaker}
use Rattle.qm_formats.specs.Fields.{raw, unsigned, signed}
use Rattle.qm_formats.specs.FileParts.{short}
use Rattle.qm_face_layout.specs.declared.face_record.FaceRecord.{FaceRecord}
use Rattle.qm_face_layout.specs.FacesLayout.{face_corner_layout, face_parts_layout}
use Rattle.qm_face_layout.proofs.WrittenFaces.{corner_bytes-parts, face_bytes-parts}

-- each corner has three numbers
abbrev pub HasTriples : FaceRecord → Type 0
HasTriples face = All (λ (corner : List ℤ). length corner ≡ 3) face.corners

-- the bytes of some corners, and of some faces
abbrev bytes_of_each_corner : List (List ℤ) → List ℕ
bytes_of_each_corner corners = flat_map face_corner_layout.bytes_of corners

abbrev pub bytes_of_each_face : List FaceRecord → List ℕ
bytes_of_each_face faces = flat_map face_parts_layout.bytes_of faces

-- a number has some bytes
some_bytes : (n : ℤ) → 1 ≤ length ((signed short w64).bytes_of n)
unfolding signed unsigned raw
some_bytes n = omega arith

bytes_of_leaf : (n : ℕ) → 1 ≤ length ((unsigned short w64).bytes_of n)
unfolding unsigned raw
bytes_of_leaf n = omega arith

corner_has_some : (corner : List ℤ) → length corner ≡ 3 → 1 ≤ length (face_corner_layout.bytes_of corner)
corner_has_some corner three =
    let first = (signed short w64).bytes_of (get_or corner 0 (pos 0)) in
    let rest = (signed short w64).bytes_of (get_or corner 1 (pos 0)) ++ (signed short w64).bytes_of (get_or corner 2 (pos 0)) in
    let whole = ap length (corner_bytes-parts corner three) in
    let parts = length-append first rest in
    omega (arith, whole, parts, some_bytes (get_or corner 0 (pos 0)))

some_bytes_of_corners : (corners : List (List ℤ)) → All (λ (corner : List ℤ). length corner ≡ 3) corners → length corners ≤ length (bytes_of_each_corner corners)
some_bytes_of_corners [] triples = omega arith
some_bytes_of_corners (corner ∷ corners) triples =
    let Three : List ℤ → Type 0 = λ c. length c ≡ 3 in
    let whole = length-append (face_corner_layout.bytes_of corner) (bytes_of_each_corner corners) in
    omega (arith, whole, corner_has_some corner (All-head Three corner corners triples), some_bytes_of_corners corners (All-tail Three corner corners triples))

corners_and_more : (face : FaceRecord) → HasTriples face → 1 + length face.corners ≤ length (face_parts_layout.bytes_of face)
corners_and_more face triples =
    let corners = bytes_of_each_corner face.corners in
    let counted = (unsigned short w32).bytes_of (length face.corners) ++ corners in
    let behind_brush = (unsigned short w32).bytes_of face.face ++ counted in
    let behind_leaf = (unsigned short w64).bytes_of face.brush ++ behind_brush in
    let whole = ap length (face_bytes-parts face) in
    let leaf = length-append ((unsigned short w64).bytes_of face.leaf) behind_leaf in
    let brush = length-append ((unsigned short w64).bytes_of face.brush) behind_brush in
    let place = length-append ((unsigned short w32).bytes_of face.face) counted in
    let count = length-append ((unsigned short w32).bytes_of (length face.corners)) corners in
    omega (arith, whole, leaf, brush, place, count, bytes_of_leaf face.leaf, some_bytes_of_corners face.corners triples)

pub some_bytes_each : (faces : List FaceRecord) → All HasTriples faces → length faces ≤ length (bytes_of_each_face faces)
some_bytes_each [] triples = omega arith
some_bytes_each (face ∷ faces) triples =
    let whole = length-append (face_parts_layout.bytes_of face) (bytes_of_each_face faces) in
    omega (arith, whole, corners_and_more face (All-head HasTriples face faces triples), some_bytes_each faces (All-tail HasTriples face faces triples))

pub corners_within : (faces : List FaceRecord) → All HasTriples faces → All (λ face. length face.corners ≤ length (bytes_of_each_face faces)) faces
corners_within [] triples = All-nil (λ (face : FaceRecord). length face.corners ≤ length (bytes_of_each_face []))
corners_within (face ∷ faces) triples =
    let rest = bytes_of_each_face faces in
    let all = bytes_of_each_face (face ∷ faces) in
    let whole = length-append (face_parts_layout.bytes_of face) rest in
    All-cons (λ (f : FaceRecord). length f.corners ≤ length all) face faces (omega (arith, whole, corners_and_more face (All-head HasTriples face faces triples)))
    (All-weaker (λ (f : FaceRecord). length f.corners ≤ length rest) (λ (f : FaceRecord). length f.corners ≤ length all) (λ f small. omega (arith, whole, small)) faces (corners_within faces (All-tail HasTriples face faces triples)))
