-- Bytes have one content at most, and so what a section is decoded to is the only answer of its kind.
use Rattle.std.proofs.Common.{◌≡◌, ℕ, List, length, Option, Some, None, refl, sym, ap, ◌∙◌}
use Rattle.qm_formats.specs.Layout.{got}
use Rattle.qm_formats.specs.TreeFile.{TreeFile}
use Rattle.qm_plain.specs.PlainFile.{ArePlainBytes}
use Rattle.qm_plain.proofs.PlainFiles.{plain_again}
use Rattle.qm_model_layout.specs.BrushModel.{BrushModel}
use Rattle.qm_model_layout.specs.ModelLayout.{AreModelsBytes}
use Rattle.qm_model_layout.proofs.ToldModels.{valid_models_again}
use Rattle.qm_face_layout.specs.declared.face_record.FaceRecord.{FaceRecord}
use Rattle.qm_face_layout.specs.FacesLayout.{AreFacesBytes}
use Rattle.qm_face_layout.proofs.ValidFaces.{valid_faces_again}
use Rattle.qm_answers.specs.declared.decoded_section.DecodedSection.TheVariants.{Known}
use Rattle.qm_answers.specs.DecodedSections.{IsOnlyOne, known_if_found, plain_answer, models_answer, faces_answer}

-- ---- one content

pub one_plain : (bound : ℕ) (bytes : List ℕ) (a b : TreeFile) → ArePlainBytes bound bytes a → ArePlainBytes bound bytes b → a ≡ b
one_plain bound bytes a b is_a is_b = let both : Some a ≡ Some b = sym (plain_again bound bytes a is_a) ∙ plain_again bound bytes b is_b in cc

pub one_list_of_models : (bound numbered : ℕ) (bytes : List ℕ) (a b : List BrushModel) → AreModelsBytes bound numbered bytes a → AreModelsBytes bound numbered bytes b → a ≡ b
one_list_of_models bound numbered bytes a b is_a is_b =
    let both : got a (length bytes) ≡ got b (length bytes) = sym (valid_models_again bound numbered bytes a is_a) ∙ valid_models_again bound numbered bytes b is_b in
    cc

pub one_list_of_faces : (file : TreeFile) (bytes : List ℕ) (a b : List FaceRecord) → AreFacesBytes file bytes a → AreFacesBytes file bytes b → a ≡ b
one_list_of_faces file bytes a b is_a is_b =
    let both : got a (length bytes) ≡ got b (length bytes) = sym (valid_faces_again file bytes a is_a) ∙ valid_faces_again file bytes b is_b in
    cc

-- ---- one answer

module _ {X : Type 0} (Holds : X → Type 0) (one : (a b : X) → Holds a → Holds b → a ≡ b) where
  only_one : (a b : Option X) → IsOnlyOne Holds a → IsOnlyOne Holds b → a ≡ b
  only_one None None is_a is_b = refl
  only_one None (Some b) none is_b = absurd (none b is_b)
  only_one (Some a) None is_a none = absurd (none a is_a)
  only_one (Some a) (Some b) is_a is_b = ap Some (one a b is_a is_b)

pub is_plain_answer : (bound : ℕ) (bytes : List ℕ) (found : Option TreeFile) → IsOnlyOne (ArePlainBytes bound bytes) found → found ≡ (plain_answer bound bytes).0
is_plain_answer bound bytes found is = only_one (ArePlainBytes bound bytes) (one_plain bound bytes) found (plain_answer bound bytes).0 is (plain_answer bound bytes).1

pub is_models_answer : (bound numbered : ℕ) (bytes : List ℕ) (found : Option (List BrushModel)) → IsOnlyOne (AreModelsBytes bound numbered bytes) found → found ≡ (models_answer bound numbered bytes).0
is_models_answer bound numbered bytes found is =
    only_one (AreModelsBytes bound numbered bytes) (one_list_of_models bound numbered bytes) found (models_answer bound numbered bytes).0 is (models_answer bound numbered bytes).1

pub is_faces_answer : (file : TreeFile) (bytes : List ℕ) (found : Option (List FaceRecord)) → IsOnlyOne (AreFacesBytes file bytes) found → found ≡ (faces_answer file bytes).0
is_faces_answer file bytes found is =
    only_one (AreFacesBytes file bytes) (one_list_of_faces file bytes) found (faces_answer file bytes).0 is (faces_answer file bytes).1

-- ---- a known content

pub known_content : {X : Type 0} (found : Option X) (content : X) → known_if_found found ≡ Known content → found ≡ Some content
known_content None content known = absurd cc
known_content (Some other) content known = cc
