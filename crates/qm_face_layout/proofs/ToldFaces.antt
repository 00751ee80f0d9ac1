-- Of every list it can be told of which faces of a file it has the bytes, if of any.
use Rattle.std.proofs.Common.{◌≡◌, ℕ, Bool, true, false, ◌&&◌, List, length, Option, Some, None, refl, sym, ap, ◌∙◌}
use Rattle.std.specs.Prelude.{MatchOption, bytes_eq}
use Rattle.std.specs.Bool.{Decides}
use Rattle.std.proofs.lemmas.Bool.Decides.{Decides-and, Decides-like}
use Rattle.std.proofs.lemmas.Slice.Eq.{bytes_eq-Decides}
use Rattle.qm_formats.specs.Layout.{Decoded, got, bad}
use Rattle.qm_formats.specs.FileParts.{FileFaultKind}
use Rattle.qm_formats.specs.TreeFile.{TreeFile}
use Rattle.qm_face_layout.specs.declared.face_record.FaceRecord.{FaceRecord}
use Rattle.qm_face_layout.specs.FacesLayout.{faces_layout, faces_bytes, AreFacesBytes, read_faces}
use Rattle.qm_face_layout.proofs.ValidFaces.{faces_in_words, faces_right, valid_faces_again}

module _ (file : TreeFile) (bytes : List ℕ) where
  -- whether the bytes are those of these faces
  abbrev is_of : List FaceRecord → Bool
  is_of faces = (faces_layout file).right faces && bytes_eq bytes (faces_bytes faces)

  decided : (faces : List FaceRecord) → Decides (is_of faces) (AreFacesBytes file bytes faces)
  decided faces =
      Decides-like (is_of faces) (λ both. record { are_valid = both.0; bytes_are = both.1 }) (λ is. (is.are_valid, is.bytes_are))
      (Decides-and ((faces_layout file).right faces) (bytes_eq bytes (faces_bytes faces)) (faces_in_words file faces, faces_right file faces) (bytes_eq-Decides bytes (faces_bytes faces)))

  by_test : (faces : List FaceRecord) (next : ℕ) (test : Bool) → read_faces file bytes ≡ got faces next → is_of faces ≡ test →
      (found : Option (List FaceRecord)) × MatchOption found ((faces : List FaceRecord) → AreFacesBytes file bytes faces → ⊥) (AreFacesBytes file bytes)
  by_test faces next true read is = (Some faces, (decided faces).0 is)
  by_test faces next false read not = (
    None,
    λ other are.
        let both : got faces next ≡ got other (length bytes) = sym read ∙ valid_faces_again file bytes other are in
        let same : other ≡ faces = cc in
        let tests : false ≡ true = sym not ∙ ap is_of (sym same) ∙ (decided other).1 are in
        absurd cc,
  )

  by_reading : (read : Decoded FileFaultKind (List FaceRecord)) → read_faces file bytes ≡ read →
      (found : Option (List FaceRecord)) × MatchOption found ((faces : List FaceRecord) → AreFacesBytes file bytes faces → ⊥) (AreFacesBytes file bytes)
  by_reading (got faces next) read = by_test faces next (is_of faces) read refl
  by_reading (bad fault place) read = (None, λ faces are. let both : bad fault place ≡ got faces (length bytes) = sym read ∙ valid_faces_again file bytes faces are in absurd cc)

pub faces_or_not : (file : TreeFile) (bytes : List ℕ) →
    (found : Option (List FaceRecord)) × MatchOption found ((faces : List FaceRecord) → AreFacesBytes file bytes faces → ⊥) (AreFacesBytes file bytes)
faces_or_not file bytes = by_reading file bytes (read_faces file bytes) refl
