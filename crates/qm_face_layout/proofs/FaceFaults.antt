-- The fault that reading gives is the first in the order of the bytes, in words.
use Rattle.std.proofs.Common.{◌≡◌, ◌<◌, ◌≤◌, ◌⊎◌, ℕ, zero, suc, ◌+◌, ◌^◌, Bool, true, false, cond, ltb, take, List, [], ◌∷◌, ◌++◌, length, drop, All, refl, sym, ap, ◌∙◌, subst, arith, inl, inr}
use Rattle.std.specs.Int.{w32, w64, from_le_bytes}
use Rattle.std.proofs.lemmas.Bool.{and_from, ltb-true, lt-ltb}
use Rattle.std.proofs.lemmas.List.{length-append, length-drop}
use Rattle.std.proofs.lemmas.List.Elements.{All-nil, All-cons, All-head, All-tail}
use Rattle.qm_formats.specs.Layout.{Decoded, got, bad, decoded_map, decoded_then, read_each}
use Rattle.qm_formats.specs.Fields.{AreBytes, raw, unsigned, signed}
use Rattle.qm_formats.specs.Exact.{StandsAt, IsRightAt}
use Rattle.qm_formats.specs.FileParts.{FileFaultKind, short, trailing, section_form}
use Rattle.qm_formats.specs.TreeFile.{TreeFile}
use Rattle.qm_formats.proofs.ExactFields.{unsigned_64_exact}
use Rattle.qm_formats.proofs.ShortFaults.{IsShortAlone, unsigned_alone, signed_alone, part_alone, last_part_alone, each_alone, map_bad, then_bad, chosen_bad, chosen_end, stands_from}
use Rattle.qm_formats.proofs.Standing.{stands_nothing, stands_both, behind_part, stands_first, stands_second}
use Rattle.qm_face_layout.specs.declared.face_record.FaceRecord.{FaceRecord}
use Rattle.qm_face_layout.specs.FacesLayout.{face_corner_layout, face_corners_layout, face_parts_layout, is_face, face_layout, faces_layout, AreFacesBytes, read_faces}
use Rattle.qm_face_layout.specs.FaceFaults.{bytes_of_records, AreFirstFaces, BeginWithFace, IsFaultOfFaceBytes, count_cut_off, face_cut_off, no_face, more_bytes}
use Rattle.qm_face_layout.specs.ValidFace.{IsFaceOfFile}
use Rattle.qm_face_layout.proofs.ExactFaces.{face_parts_exact, face_exact, faces_exact, own_face_bytes}
use Rattle.qm_face_layout.proofs.ValidFaces.{face_in_words, face_test, face_right, faces_in_words, faces_right}

-- ---- a face without its test

corners_alone : IsShortAlone face_corners_layout
unfolding face_corners_layout face_corner_layout
corners_alone =
    part_alone (λ corners. length corners) _ _ (unsigned_alone w32) (λ count.
    last_part_alone (λ corners. corners) _ _ (each_alone (λ _. face_corner_layout) (λ _. each_alone (λ _. signed short w64) (λ _. signed_alone w64) 0 3) 0 count))

parts_alone : IsShortAlone face_parts_layout
unfolding face_parts_layout
parts_alone =
    part_alone (λ face. face.leaf) _ _ (unsigned_alone w64) (λ _.
    part_alone (λ face. face.brush) _ _ (unsigned_alone w64) (λ _.
    part_alone (λ face. face.face) _ _ (unsigned_alone w32) (λ _.
    last_part_alone (λ face. face.corners) _ _ corners_alone)))

module _ (bytes : List ℕ) (at : ℕ) (face : FaceRecord) where
  parts_first : (next : ℕ) → IsRightAt face_parts_layout bytes at face next → BeginWithFace (drop at bytes) face
  parts_first next is = record { fits = is.right; rest = drop next bytes; bytes_are = is.stands.stands }

  parts_read : at ≤ length bytes → BeginWithFace (drop at bytes) face → face_parts_layout.read bytes at ≡ got face (at + length (face_parts_layout.bytes_of face))
  parts_read within begins =
      face_parts_exact.again bytes at face (at + length (face_parts_layout.bytes_of face)) (record { right = begins.fits; stands = stands_from bytes at (face_parts_layout.bytes_of face) begins.rest within begins.bytes_are })

-- ---- a face that is due

module _ (file : TreeFile) where
  -- the fault at a place where a face is due
  abbrev IsDueFault : List ℕ → ℕ → FileFaultKind → ℕ → Type 0
  IsDueFault bytes mid fault place =
      (((face : FaceRecord) → BeginWithFace (drop mid bytes) face → ⊥) × (fault ≡ short) × (place ≡ length bytes))
      ⊎ ((face : FaceRecord) × BeginWithFace (drop mid bytes) face × (IsFaceOfFile file face → ⊥) × (fault ≡ section_form) × (place ≡ mid))

  refused : (face : FaceRecord) → is_face file face ≡ false → IsFaceOfFile file face → ⊥
  refused face test is = let e = sym test ∙ face_test file face is in cc

  by_refusal : (face : FaceRecord) → face_parts_layout.right face ≡ true → (IsFaceOfFile file face → ⊥) → (test : Bool) → is_face file face ≡ test → is_face file face ≡ false
  unfolding face_layout
  by_refusal face fits none true is = absurd (none (face_in_words file face (and_from (face_parts_layout.right face) (is_face file face) fits is)))
  by_refusal face fits none false is = is

  module _ (bytes : List ℕ) (are : AreBytes bytes) (mid : ℕ) (within : mid ≤ length bytes) where
    abbrev behind_parts : FaceRecord → ℕ → Decoded FileFaultKind FaceRecord
    behind_parts x next = cond (is_face file x) (got x next) (bad section_form mid)

    abbrev read_face : Decoded FileFaultKind FaceRecord
    read_face = (face_layout file).read bytes mid

    due_found : (fault : FileFaultKind) (place : ℕ) → read_face ≡ bad fault place → IsDueFault bytes mid fault place
    unfolding face_layout
    due_found fault place is =
        elim (then_bad (face_parts_layout.read bytes mid) behind_parts fault place is) [
          | inl none ↦
              let ends = parts_alone.alone bytes mid fault place none in
              inl ((λ face begins. absurd (let e = sym (parts_read bytes mid face within begins) ∙ none in cc)), ends.0, ends.1)
          | inr some ↦
              let right = face_parts_exact.found bytes mid some.0 some.1 are within some.2 in
              let failed = chosen_bad (is_face file some.0) some.0 some.1 section_form mid fault place some.3 in
              inr (some.0, parts_first bytes mid some.0 some.1 right, refused some.0 failed.0, failed.1, failed.2)
        ]

    by_answer : (answer : Decoded FileFaultKind FaceRecord) → face_parts_layout.read bytes mid ≡ answer → ((face : FaceRecord) → BeginWithFace (drop mid bytes) face → ⊥) → read_face ≡ bad short (length bytes)
    unfolding face_layout
    by_answer (got face next) is none = absurd (none face (parts_first bytes mid face next (face_parts_exact.found bytes mid face next are within is)))
    by_answer (bad fault place) is none =
        let ends = parts_alone.alone bytes mid fault place is in
        let whole : face_parts_layout.read bytes mid ≡ bad short (length bytes) = is ∙ (λ i. bad (ends.0 i) (ends.1 i)) in
        ap (λ (answer : Decoded FileFaultKind FaceRecord). decoded_then answer behind_parts) whole

    form_again : (face : FaceRecord) → BeginWithFace (drop mid bytes) face → (IsFaceOfFile file face → ⊥) → read_face ≡ bad section_form mid
    unfolding face_layout
    form_again face begins none =
        let next = mid + length (face_parts_layout.bytes_of face) in
        let failed = by_refusal face begins.fits none (is_face file face) refl in
        ap (λ (answer : Decoded FileFaultKind FaceRecord). decoded_then answer behind_parts) (parts_read bytes mid face within begins)
        ∙ ap (λ (b : Bool). cond b (got face next) (bad section_form mid)) failed

    due_again : (fault : FileFaultKind) (place : ℕ) → IsDueFault bytes mid fault place → read_face ≡ bad fault place
    due_again fault place is =
        elim is [
          | inl none ↦ by_answer (face_parts_layout.read bytes mid) refl none.0 ∙ (λ i. bad (sym none.1 i) (sym none.2 i))
          | inr some ↦ form_again some.0 some.1 some.2 ∙ (λ i. bad (sym some.3 i) (sym some.4 i))
        ]

-- ---- faces one behind the other

own_bytes : (file : TreeFile) (face : FaceRecord) → (face_layout file).bytes_of face ≡ face_parts_layout.bytes_of face
unfolding face_layout
own_bytes file face = refl

module _ (file : TreeFile) (bytes : List ℕ) (are : AreBytes bytes) where
  -- the first faces are there, and at the place behind them there is a fault
  record IsFirstFault (count at : ℕ) (fault : FileFaultKind) (place : ℕ) : Type 0 where
    faces : List FaceRecord
    mid : ℕ
    few : length faces < count
    are_faces : All (IsFaceOfFile file) faces
    stands : StandsAt bytes at (bytes_of_records faces) mid
    due : IsDueFault file bytes mid fault place

  abbrev read_others : ℕ → ℕ → ℕ → Decoded FileFaultKind (List FaceRecord)
  read_others k count at = read_each (λ _. face_layout file) k count bytes at

  each_found : (k count at : ℕ) (fault : FileFaultKind) (place : ℕ) → at ≤ length bytes → read_others k count at ≡ bad fault place → IsFirstFault count at fault place
  each_found k zero at fault place within is = absurd cc
  each_found k (suc count) at fault place within is =
      elim (then_bad ((face_layout file).read bytes at) (λ x next. decoded_map (λ (xs : List FaceRecord). x ∷ xs) (read_others (k + 1) count next)) fault place is) [
        | inl here ↦ record { faces = []; mid = at; few = omega arith; are_faces = All-nil (IsFaceOfFile file); stands = stands_nothing bytes at within; due = due_found file bytes are at within fault place here }
        | inr later ↦
            let face = later.0 in
            let found = (face_exact file).found bytes at face later.1 are within later.2 in
            let others = each_found (k + 1) count later.1 fault place found.stands.within (map_bad (λ (xs : List FaceRecord). face ∷ xs) (read_others (k + 1) count later.1) fault place later.3) in
            let few = others.few in
            record {
              faces = face ∷ others.faces;
              mid = others.mid;
              few = omega (arith, few);
              are_faces = All-cons (IsFaceOfFile file) face others.faces (face_in_words file face found.right) others.are_faces;
              stands = stands_both bytes at (face_parts_layout.bytes_of face) later.1 (bytes_of_records others.faces) others.mid (subst (λ (part : List ℕ). StandsAt bytes at part later.1) (own_bytes file face) found.stands) others.stands;
              due = others.due;
            }
      ]

  each_again : (k : ℕ) (faces : List FaceRecord) (count at mid : ℕ) (fault : FileFaultKind) (place : ℕ) →
      All (IsFaceOfFile file) faces → length faces < count → at ≤ length bytes → StandsAt bytes at (bytes_of_records faces) mid → IsDueFault file bytes mid fault place →
      read_others k count at ≡ bad fault place
  each_again k faces zero at mid fault place valid few within stands due = absurd (omega (arith, few))
  each_again k [] (suc count) at mid fault place valid few within stands due =
      let ends = stands.ends in
      let here : mid ≡ at = omega (arith, ends) in
      let moved = subst (λ (n : ℕ). IsDueFault file bytes n fault place) here due in
      ap (λ (answer : Decoded FileFaultKind FaceRecord). decoded_then answer (λ x next. decoded_map (λ (xs : List FaceRecord). x ∷ xs) (read_others (k + 1) count next))) (due_again file bytes are at within fault place moved)
  each_again k (face ∷ faces) (suc count) at mid fault place valid few within stands due =
      let own = face_parts_layout.bytes_of face in
      let next = at + length own in
      let first = stands_first bytes at own (bytes_of_records faces) mid stands in
      let second = stands_second bytes at own (bytes_of_records faces) mid stands in
      let right = face_right file face (All-head (IsFaceOfFile file) face faces valid) in
      let read = (face_exact file).again bytes at face next (record { right = right; stands = subst (λ (part : List ℕ). StandsAt bytes at part next) (sym (own_bytes file face)) first }) in
      ap (λ (answer : Decoded FileFaultKind FaceRecord). decoded_then answer (λ x next. decoded_map (λ (xs : List FaceRecord). x ∷ xs) (read_others (k + 1) count next))) read
      ∙ ap (decoded_map (λ (xs : List FaceRecord). face ∷ xs)) (each_again (k + 1) faces count next mid fault place (All-tail (IsFaceOfFile file) face faces valid) (omega (arith, few)) first.within second due)

-- ---- a whole section

count_cut : (bytes : List ℕ) (fault : FileFaultKind) (place : ℕ) → (unsigned short w64).read bytes 0 ≡ bad fault place → length bytes < 8
unfolding unsigned raw
count_cut bytes fault place is =
    let inner = map_bad (from_le_bytes w64) ((raw short 8).read bytes 0) fault place is in
    let ends = chosen_end (ltb (length bytes) (0 + 8)) (take 8 (drop 0 bytes)) (0 + 8) short (length bytes) fault place inner in
    ltb-true (length bytes) 8 ends.0

count_short : (bytes : List ℕ) → length bytes < 8 → (unsigned short w64).read bytes 0 ≡ bad short (length bytes)
unfolding unsigned raw
count_short bytes less = ap (λ (b : Bool). decoded_map (from_le_bytes w64) (cond b (bad short (length bytes)) (got (take 8 (drop 0 bytes)) (0 + 8)))) (lt-ltb (length bytes) 8 less)

count_fits : (count : ℕ) → (unsigned short w64).right count ≡ true → count < 2 ^ 64
unfolding unsigned
count_fits count right = ltb-true count (2 ^ 64) right

fits_count : (count : ℕ) → count < 2 ^ 64 → (unsigned short w64).right count ≡ true
unfolding unsigned
fits_count count fits = lt-ltb count (2 ^ 64) fits

module _ (file : TreeFile) (bytes : List ℕ) (are : AreBytes bytes) where
  abbrev read_list : ℕ → ℕ → Decoded FileFaultKind (List FaceRecord)
  read_list count next = decoded_map (λ (faces : List FaceRecord). faces) (read_others file bytes are 0 count next)

  abbrev to_end : List FaceRecord → ℕ → Decoded FileFaultKind (List FaceRecord)
  to_end faces next = cond (ltb next (length bytes)) (bad trailing next) (got faces next)

  abbrev IsFault : FileFaultKind → ℕ → Type 0
  IsFault fault place = IsFaultOfFaceBytes file bytes fault place

  same_fault : (fault other : FileFaultKind) (place at : ℕ) → other ≡ fault → at ≡ place → IsFault fault place → IsFault other at
  same_fault fault other place at same here is = subst (λ (f : FileFaultKind). IsFault f at) (sym same) (subst (λ (p : ℕ). IsFault fault p) (sym here) is)

  of_first : (count next : ℕ) (fault : FileFaultKind) (place : ℕ) → IsRightAt (unsigned short w64) bytes 0 count next → IsFirstFault file bytes are count next fault place → IsFault fault place
  of_first count next fault place right first =
      let left = drop first.mid bytes in
      let faces = first.faces in
      let due_at = first.mid in
      let within = first.stands.within in
      let dropped = length-drop due_at bytes in
      let begins : AreFirstFaces file bytes faces left = record {
        count = count;
        count_fits = count_fits count right.right;
        few = first.few;
        are_faces = first.are_faces;
        bytes_are = right.stands.stands ∙ ap (λ (xs : List ℕ). (unsigned short w64).bytes_of count ++ xs) first.stands.stands;
      } in
      elim first.due [
        | inl none ↦ same_fault short fault (length bytes) place none.1 none.2 (face_cut_off faces left begins none.0)
        | inr some ↦ same_fault section_form fault due_at place some.3 some.4 (no_face faces left some.0 due_at begins some.1 some.2 (omega (arith, within, dropped)))
      ]

  pub face_fault_in_words : (fault : FileFaultKind) (place : ℕ) → read_faces file bytes ≡ bad fault place → IsFault fault place
  unfolding read_faces faces_layout
  face_fault_in_words fault place is =
      elim (then_bad ((faces_layout file).read bytes 0) to_end fault place is) [
        | inl inside ↦
            elim (then_bad ((unsigned short w64).read bytes 0) read_list fault place inside) [
              | inl none ↦
                  let ends = (unsigned_alone w64).alone bytes 0 fault place none in
                  same_fault short fault (length bytes) place ends.0 ends.1 (count_cut_off (count_cut bytes fault place none))
              | inr some ↦
                  let right = (unsigned_64_exact short).found bytes 0 some.0 some.1 are (omega arith) some.2 in
                  of_first some.0 some.1 fault place right (each_found file bytes are 0 some.0 some.1 fault place right.stands.within (map_bad (λ (faces : List FaceRecord). faces) (read_others file bytes are 0 some.0 some.1) fault place some.3))
            ]
        | inr all ↦
            let ends = chosen_end (ltb all.1 (length bytes)) all.0 all.1 trailing all.1 fault place all.3 in
            let found = (faces_exact file).found bytes 0 all.0 all.1 are (omega arith) all.2 in
            let front = (faces_layout file).bytes_of all.0 in
            let left = drop all.1 bytes in
            let place_is = found.stands.ends in
            let more = ltb-true all.1 (length bytes) ends.0 in
            let dropped = length-drop all.1 bytes in
            let here : place ≡ length front = ends.2 ∙ omega (arith, place_is) in
            same_fault trailing fault (length front) place ends.1 here (more_bytes front left all.0 (record { are_valid = faces_in_words file all.0 found.right; bytes_are = own_face_bytes file all.0 }) (omega (arith, more, dropped)) found.stands.stands)
      ]

  -- ---- and the other way round

  whole_again : (count next : ℕ) (fault : FileFaultKind) (place : ℕ) → (unsigned short w64).read bytes 0 ≡ got count next → read_others file bytes are 0 count next ≡ bad fault place → read_faces file bytes ≡ bad fault place
  unfolding read_faces faces_layout
  whole_again count next fault place counted others =
      ap (λ (answer : Decoded FileFaultKind ℕ). decoded_then (decoded_then answer read_list) to_end) counted
      ∙ ap (λ (answer : Decoded FileFaultKind (List FaceRecord)). decoded_then (decoded_map (λ (faces : List FaceRecord). faces) answer) to_end) others

  number_again : length bytes < 8 → read_faces file bytes ≡ bad short (length bytes)
  unfolding read_faces faces_layout
  number_again less = ap (λ (answer : Decoded FileFaultKind ℕ). decoded_then (decoded_then answer read_list) to_end) (count_short bytes less)

  module _ (faces : List FaceRecord) (left : List ℕ) (first : AreFirstFaces file bytes faces left) where
    abbrev counted : List ℕ
    counted = (unsigned short w64).bytes_of first.count

    abbrev next : ℕ
    next = 0 + length counted

    abbrev mid : ℕ
    mid = next + length (bytes_of_records faces)

    stands_count : StandsAt bytes 0 counted next
    stands_count = stands_from bytes 0 counted (bytes_of_records faces ++ left) (omega arith) first.bytes_are

    behind_count : drop next bytes ≡ bytes_of_records faces ++ left
    behind_count = behind_part bytes 0 counted (bytes_of_records faces ++ left) first.bytes_are

    stands_faces : StandsAt bytes next (bytes_of_records faces) mid
    stands_faces = stands_from bytes next (bytes_of_records faces) left stands_count.within behind_count

    left_is : drop mid bytes ≡ left
    left_is = behind_part bytes next (bytes_of_records faces) left behind_count

    due_in_section : (fault : FileFaultKind) (place : ℕ) → IsDueFault file bytes mid fault place → read_faces file bytes ≡ bad fault place
    due_in_section fault place due =
        whole_again first.count next fault place ((unsigned_64_exact short).again bytes 0 first.count next (record { right = fits_count first.count first.count_fits; stands = stands_count }))
        (each_again file bytes are 0 faces first.count next mid fault place first.are_faces first.few stands_count.within stands_faces due)

    cut_again : ((face : FaceRecord) → BeginWithFace left face → ⊥) → read_faces file bytes ≡ bad short (length bytes)
    cut_again none = due_in_section short (length bytes) (inl ((λ face begins. none face (subst (λ (xs : List ℕ). BeginWithFace xs face) left_is begins)), refl, refl))

    form_in_section : (face : FaceRecord) (place : ℕ) → BeginWithFace left face → (IsFaceOfFile file face → ⊥) → place + length left ≡ length bytes → read_faces file bytes ≡ bad section_form place
    form_in_section face place begins none place_is =
        let within = stands_faces.within in
        let dropped = length-drop mid bytes in
        let long = ap length left_is in
        due_in_section section_form place (inr (face, subst (λ (xs : List ℕ). BeginWithFace xs face) (sym left_is) begins, none, refl, omega (arith, within, dropped, long, place_is)))

  trailing_again : (front left : List ℕ) (faces : List FaceRecord) → AreFacesBytes file front faces → 0 < length left → bytes ≡ front ++ left → read_faces file bytes ≡ bad trailing (length front)
  unfolding read_faces
  trailing_again front left faces is some bytes_are =
      let own : front ≡ (faces_layout file).bytes_of faces = is.bytes_are ∙ sym (own_face_bytes file faces) in
      let here : 0 + length front ≡ length front = omega arith in
      let stands = subst (λ (n : ℕ). StandsAt bytes 0 ((faces_layout file).bytes_of faces) n) here (subst (λ (part : List ℕ). StandsAt bytes 0 part (0 + length front)) own (stands_from bytes 0 front left (omega arith) bytes_are)) in
      let read = (faces_exact file).again bytes 0 faces (length front) (record { right = faces_right file faces is.are_valid; stands = stands }) in
      let long = ap length bytes_are in
      let both = length-append front left in
      ap (λ (answer : Decoded FileFaultKind (List FaceRecord)). decoded_then answer to_end) read
      ∙ ap (λ (b : Bool). cond b (bad trailing (length front)) (got faces (length front))) (lt-ltb (length front) (length bytes) (omega (arith, long, both, some)))

  pub face_fault_again : (fault : FileFaultKind) (place : ℕ) → IsFault fault place → read_faces file bytes ≡ bad fault place
  face_fault_again fault place (count_cut_off less) = number_again less
  face_fault_again fault place (face_cut_off faces left first none) = cut_again faces left first none
  face_fault_again fault place (no_face faces left face at first begins none place_is) = form_in_section faces left first face at begins none place_is
  face_fault_again fault place (more_bytes front left faces is some bytes_are) = trailing_again front left faces is some bytes_are
