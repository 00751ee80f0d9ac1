-- What can stand in a section of faces, in words: what the tests of the layout pass.
use Rattle.std.proofs.Common.{◌≡◌, ◌<◌, ℕ, zero, suc, ◌^◌, true, false, eqb, ltb, leb, ◌&&◌, not, ℤ, pos, negsuc, List, [], ◌∷◌, length, get_or, Option, Some, None, refl, sym, ap, ◌∙◌, arith}
use Rattle.std.specs.Prelude.{unsigned_abs}
use Rattle.std.specs.Int.{w64}
use Rattle.std.specs.List.{list_all}
use Rattle.std.proofs.lemmas.Bool.{and_parts, and_from, ne_eqb, ltb-true, lt-ltb, leb-true, le-leb}
use Rattle.std.proofs.lemmas.List.Sums.{AllPass-from_list_all, list_all-from_AllPass}
use Rattle.qm_space.specs.Plane.{Plane}
use Rattle.qm_space.specs.Meet.{meet}
use Rattle.qm_partition.specs.Counting.{leaf_count}
use Rattle.qm_formats.specs.Layout.{got, right_each}
use Rattle.qm_formats.specs.Fields.{AreBytes, unsigned, signed}
use Rattle.qm_formats.specs.FileParts.{short}
use Rattle.qm_formats.specs.TreeFile.{TreeFile}
use Rattle.qm_formats.proofs.RightParts.{right_each_at, right_each_from}
use Rattle.qm_formats.proofs.ExactFile.{right_each_length}
use Rattle.qm_face_layout.specs.PlaneNumbers.{named_plane}
use Rattle.qm_face_layout.specs.declared.face_record.FaceRecord.{FaceRecord}
use Rattle.qm_face_layout.specs.ValidFace.{IsFaceCorner, IsFaceOfFile, AreFacesOfFile}
use Rattle.qm_face_layout.specs.FacesLayout.{face_corner_layout, face_corners_layout, face_parts_layout, meet_in_point, is_face_corner, is_face, face_layout, faces_layout, AreFacesBytes, read_faces}
use Rattle.qm_face_layout.proofs.ExactFaces.{read_faces_found, read_faces_again}

-- ---- numbers

fits : (n bound : ℕ) → ltb n bound ≡ true → n < bound
fits n bound right = ltb-true n bound right

-- ---- a corner

some_weight : (z : ℤ) → not (eqb (unsigned_abs z) 0) ≡ true → z ≡ pos 0 → ⊥
some_weight z some none = let e : false ≡ true = sym (ap (λ w. not (eqb (unsigned_abs w) 0)) none) ∙ some in absurd cc

pub weight_test : (z : ℤ) → (z ≡ pos 0 → ⊥) → not (eqb (unsigned_abs z) 0) ≡ true
weight_test (pos zero) other = absurd (other refl)
weight_test (pos (suc n)) other = ap not (ne_eqb (suc n) 0 (λ e. omega (arith, e)))
weight_test (negsuc n) other = ap not (ne_eqb (suc n) 0 (λ e. omega (arith, e)))

-- three planes are there and meet in just one point
record DoMeet (a b c : Option Plane) : Type 0 where
  own : Plane
  own_is : a ≡ Some own
  before : Plane
  before_is : b ≡ Some before
  next : Plane
  next_is : c ≡ Some next
  weight : (meet own before next).w ≡ pos 0 → ⊥

do_meet : (a b c : Option Plane) → meet_in_point a b c ≡ true → DoMeet a b c
do_meet (Some a) (Some b) (Some c) is = record { own = a; own_is = refl; before = b; before_is = refl; next = c; next_is = refl; weight = some_weight (meet a b c).w is }
do_meet (Some a) (Some b) None is = absurd cc
do_meet (Some a) None c is = absurd cc
do_meet None b c is = absurd cc

module _ (planes : List Plane) (bound : ℕ) where
  corner_in_words : (corner : List ℤ) → face_corner_layout.right corner ≡ true → is_face_corner planes bound corner ≡ true → IsFaceCorner planes bound corner
  unfolding face_corner_layout is_face_corner signed
  corner_in_words [] right is = absurd cc
  corner_in_words (x ∷ []) right is = absurd (let e = right_each_length (λ _. signed short w64) 0 3 (x ∷ []) right in omega (arith, e))
  corner_in_words (x ∷ y ∷ []) right is = absurd (let e = right_each_length (λ _. signed short w64) 0 3 (x ∷ y ∷ []) right in omega (arith, e))
  corner_in_words (x ∷ y ∷ z ∷ []) right is =
      let its = do_meet (named_plane planes bound x) (named_plane planes bound y) (named_plane planes bound z) is in
      record {
        own = x;
        before = y;
        next = z;
        corner_is = refl;
        fits = λ k d within. right_each_at (λ _. signed short w64) 0 3 (x ∷ y ∷ z ∷ []) right k d within;
        own_plane = its.own;
        own_is = its.own_is;
        before_plane = its.before;
        before_is = its.before_is;
        next_plane = its.next;
        next_is = its.next_is;
        meet = its.weight;
      }
  corner_in_words (x ∷ y ∷ z ∷ t ∷ corner) right is = absurd (let e = right_each_length (λ _. signed short w64) 0 3 (x ∷ y ∷ z ∷ t ∷ corner) right in omega (arith, e))

  corner_right : (corner : List ℤ) → IsFaceCorner planes bound corner → face_corner_layout.right corner ≡ true
  unfolding face_corner_layout signed
  corner_right corner is = right_each_from (λ _. signed short w64) 0 3 corner (ap length is.corner_is) is.fits

  corner_test : (corner : List ℤ) → IsFaceCorner planes bound corner → is_face_corner planes bound corner ≡ true
  unfolding is_face_corner
  corner_test corner is =
      let same = is.corner_is in
      ap (λ (c : List ℤ). meet_in_point (named_plane planes bound (get_or c 0 (pos 0))) (named_plane planes bound (get_or c 1 (pos 0))) (named_plane planes bound (get_or c 2 (pos 0)))) same
      ∙ (λ i. meet_in_point (is.own_is i) (is.before_is i) (is.next_is i))
      ∙ weight_test (meet is.own_plane is.before_plane is.next_plane).w is.meet

-- ---- a face

module _ (file : TreeFile) where
  abbrev IsCorner : List ℤ → Type 0
  IsCorner = IsFaceCorner file.tree.planes file.bound

  pub face_in_words : (face : FaceRecord) → (face_layout file).right face ≡ true → IsFaceOfFile file face
  unfolding face_layout face_parts_layout face_corners_layout is_face unsigned
  face_in_words face right =
      let corners = face.corners in
      let each = right_each (λ _. face_corner_layout) 0 (length corners) corners in
      let count = ltb (length corners) (2 ^ 32) in
      let place = ltb face.face (2 ^ 32) in
      let brush = ltb face.brush (2 ^ 64) in
      let leaf = ltb face.leaf (2 ^ 64) in
      let points = list_all (is_face_corner file.tree.planes file.bound) corners in
      let there = ltb face.leaf (leaf_count file.tree.shape) in
      let both = and_parts (leaf && (brush && (place && (count && each)))) (leb 3 (length corners) && (there && points)) right in
      let behind_leaf = and_parts leaf (brush && (place && (count && each))) both.0 in
      let behind_brush = and_parts brush (place && (count && each)) behind_leaf.1 in
      let behind_place = and_parts place (count && each) behind_brush.1 in
      let behind_count = and_parts count each behind_place.1 in
      let tests = and_parts (leb 3 (length corners)) (there && points) both.1 in
      let last = and_parts there points tests.1 in
      let passed = AllPass-from_list_all (is_face_corner file.tree.planes file.bound) corners last.1 in
      record {
        leaf_there = fits face.leaf (leaf_count file.tree.shape) last.0;
        leaf_fits = fits face.leaf (2 ^ 64) behind_leaf.0;
        brush_fits = fits face.brush (2 ^ 64) behind_brush.0;
        face_fits = fits face.face (2 ^ 32) behind_place.0;
        enough = leb-true 3 (length corners) tests.0;
        few = fits (length corners) (2 ^ 32) behind_count.0;
        corners = λ k d within. corner_in_words file.tree.planes file.bound (get_or corners k d) (right_each_at (λ _. face_corner_layout) 0 (length corners) corners behind_count.1 k d within) (passed k d within);
      }

  pub face_test : (face : FaceRecord) → IsFaceOfFile file face → is_face file face ≡ true
  unfolding is_face
  face_test face is =
      let corners = face.corners in
      let points = list_all (is_face_corner file.tree.planes file.bound) corners in
      let there = ltb face.leaf (leaf_count file.tree.shape) in
      and_from (leb 3 (length corners)) (there && points) (le-leb 3 (length corners) is.enough)
      (and_from there points (lt-ltb face.leaf (leaf_count file.tree.shape) is.leaf_there)
      (list_all-from_AllPass (is_face_corner file.tree.planes file.bound) corners (λ k d within. corner_test file.tree.planes file.bound (get_or corners k d) (is.corners k d within))))

  pub face_right : (face : FaceRecord) → IsFaceOfFile file face → (face_layout file).right face ≡ true
  unfolding face_layout face_parts_layout face_corners_layout unsigned
  face_right face is =
      let corners = face.corners in
      let each = right_each (λ _. face_corner_layout) 0 (length corners) corners in
      let count = ltb (length corners) (2 ^ 32) in
      let place = ltb face.face (2 ^ 32) in
      let brush = ltb face.brush (2 ^ 64) in
      let leaf = ltb face.leaf (2 ^ 64) in
      let all = right_each_from (λ _. face_corner_layout) 0 (length corners) corners refl (λ k d within. corner_right file.tree.planes file.bound (get_or corners k d) (is.corners k d within)) in
      and_from (leaf && (brush && (place && (count && each)))) (is_face file face)
      (and_from leaf (brush && (place && (count && each))) (lt-ltb face.leaf (2 ^ 64) is.leaf_fits)
      (and_from brush (place && (count && each)) (lt-ltb face.brush (2 ^ 64) is.brush_fits)
      (and_from place (count && each) (lt-ltb face.face (2 ^ 32) is.face_fits)
      (and_from count each (lt-ltb (length corners) (2 ^ 32) is.few) all))))
      (face_test face is)

  -- ---- all faces

  pub faces_in_words : (faces : List FaceRecord) → (faces_layout file).right faces ≡ true → AreFacesOfFile file faces
  unfolding faces_layout unsigned
  faces_in_words faces right =
      let both = and_parts (ltb (length faces) (2 ^ 64)) (right_each (λ _. face_layout file) 0 (length faces) faces) right in
      record {
        few = fits (length faces) (2 ^ 64) both.0;
        each = λ k d within. face_in_words (get_or faces k d) (right_each_at (λ _. face_layout file) 0 (length faces) faces both.1 k d within);
      }

  pub faces_right : (faces : List FaceRecord) → AreFacesOfFile file faces → (faces_layout file).right faces ≡ true
  unfolding faces_layout unsigned
  faces_right faces is =
      and_from (ltb (length faces) (2 ^ 64)) (right_each (λ _. face_layout file) 0 (length faces) faces) (lt-ltb (length faces) (2 ^ 64) is.few)
      (right_each_from (λ _. face_layout file) 0 (length faces) faces refl (λ k d within. face_right (get_or faces k d) (is.each k d within)))

  -- ---- a whole section

  pub valid_faces_found : (bytes : List ℕ) (faces : List FaceRecord) (next : ℕ) → AreBytes bytes → read_faces file bytes ≡ got faces next → AreFacesBytes file bytes faces
  valid_faces_found bytes faces next are is =
      let found = read_faces_found file bytes faces next are is in
      record { are_valid = faces_in_words faces found.right; bytes_are = found.bytes_are }

  pub valid_faces_again : (bytes : List ℕ) (faces : List FaceRecord) → AreFacesBytes file bytes faces → read_faces file bytes ≡ got faces (length bytes)
  valid_faces_again bytes faces is = read_faces_again file bytes faces (record { right = faces_right faces is.are_valid; bytes_are = is.bytes_are })
