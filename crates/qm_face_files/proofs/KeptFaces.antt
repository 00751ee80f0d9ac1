-- The faces that are read in a compiled file are those of the map.
use Rattle.std.proofs.Common.{◌≡◌, ◌≤◌, ℕ, Bool, true, false, List, [], ◌∷◌, ◌++◌, length, Option, Some, None, refl, sym, ap, ◌∙◌, subst, arith}
use Rattle.std.specs.Prelude.{IsTrue}
use Rattle.qm_space.specs.Bounds.{world_extent}
use Rattle.qm_mapfile.specs.declared.entity.MapFile.{MapFile}
use Rattle.qm_formats.specs.FileLayout.{file_limit}
use Rattle.qm_formats.specs.TreeFile.{Section, TreeFile}
use Rattle.qm_face_layout.specs.declared.face_record.FaceRecord.{FaceRecord}
use Rattle.qm_face_layout.specs.FacesLayout.{AreFacesBytes}
use Rattle.qm_face_sections.specs.MapFaces.{AreFacesOfMap}
use Rattle.qm_answers.specs.declared.decoded_section.DecodedSection.{DecodedSection}
use Rattle.qm_answers.specs.declared.decoded_section.DecodedSection.TheVariants.{Known}
use Rattle.qm_answers.specs.DecodedSections.{section_bytes, decoded_by, known_if_found, kind_of_faces, faces_answer, decoded_faces}
use Rattle.qm_answers.proofs.OnlyContents.{is_faces_answer}
use Rattle.qm_commands.specs.declared.options.Options.{Options}
use Rattle.qm_statement.specs.AskedSections.{IsFaceSection, AreFacesAsAsked, AreSectionsAsked}
use Rattle.qm_statement.proofs.SectionsOfKinds.{past_hulls, past_models}
use Rattle.qm_face_files.specs.ReadFaces.{AreReadFaces, HasFaces}

module _ (map : MapFile) (options : Options) (file : TreeFile) (asked : AreSectionsAsked map file.tree options file.sections) (bound : file.bound ≡ world_extent) where
  found_behind : section_bytes file.sections kind_of_faces ≡ section_bytes asked.faces kind_of_faces
  found_behind =
      ap (λ (s : List Section). section_bytes s kind_of_faces) asked.are_all
      ∙ past_hulls map (asked.models ++ asked.faces) kind_of_faces options.hulls asked.hulls (omega arith) asked.are_hulls
      ∙ past_models map asked.faces kind_of_faces file.tree options.models asked.models (λ same. omega (arith, same)) asked.are_models

  -- the section of the faces
  module _ (section : Section) (is : IsFaceSection map file.tree section) (alone : asked.faces ≡ section ∷ []) where
    has_bytes : section_bytes file.sections kind_of_faces ≡ Some section.bytes
    has_bytes = found_behind ∙ ap (λ (s : List Section). section_bytes s kind_of_faces) alone ∙ (rw is.kind_is refl)

    are_bytes_of : length section.bytes ≤ file_limit → AreFacesBytes file section.bytes is.faces
    are_bytes_of fits = record { are_valid = is.bytes_are.are_valid fits file refl bound; bytes_are = is.bytes_are.exactly }

    is_decoded : length section.bytes ≤ file_limit → decoded_faces file ≡ Known is.faces
    is_decoded fits =
        let answer = is_faces_answer file section.bytes (Some is.faces) (are_bytes_of fits) in
        ap (λ (b : Option (List ℕ)). decoded_by (λ bytes. (faces_answer file bytes).0) b) has_bytes ∙ ap known_if_found (sym answer)

    has_faces : HasFaces file
    has_faces = record {
      bytes = section.bytes;
      there = has_bytes;
      read = λ fits. (is.faces, record { bytes = section.bytes; has_bytes = record { there = has_bytes; fits = fits }; are_decoded = is_decoded fits });
    }

    own_faces : (faces : List FaceRecord) → AreReadFaces file faces → AreFacesOfMap map file.tree faces
    own_faces faces read =
        let both : ◌≡◌ {A = Option (List ℕ)} (Some section.bytes) (Some read.bytes) = sym has_bytes ∙ read.has_bytes.there in
        let bytes : section.bytes ≡ read.bytes = cc in
        let known : ◌≡◌ {A = DecodedSection (List FaceRecord)} (Known is.faces) (Known faces) =
        sym (is_decoded (subst (λ (b : List ℕ). length b ≤ file_limit) (sym bytes) read.has_bytes.fits)) ∙ read.are_decoded in
        let same : is.faces ≡ faces = cc in
        subst (AreFacesOfMap map file.tree) same is.are_faces

  has_as_asked : (faces_asked : Bool) → AreFacesAsAsked faces_asked map file.tree asked.faces → IsTrue faces_asked → HasFaces file
  has_as_asked true alone given = has_faces alone.section alone.is_section alone.are_alone
  has_as_asked false none given = absurd (let e : false ≡ true = given in cc)

  kept_as_asked : (faces_asked : Bool) (faces : List FaceRecord) → AreFacesAsAsked faces_asked map file.tree asked.faces → AreReadFaces file faces → AreFacesOfMap map file.tree faces
  kept_as_asked true faces alone read = own_faces alone.section alone.is_section alone.are_alone faces read
  kept_as_asked false faces none read = absurd (
      let missing : ◌≡◌ {A = Option (List ℕ)} None (Some read.bytes) = sym (found_behind ∙ ap (λ (s : List Section). section_bytes s kind_of_faces) none) ∙ read.has_bytes.there in cc
      )

  pub faces_there : IsTrue options.faces → HasFaces file
  faces_there given = has_as_asked options.faces asked.are_faces given

  pub kept_faces : (faces : List FaceRecord) → AreReadFaces file faces → AreFacesOfMap map file.tree faces
  kept_faces faces read = kept_as_asked options.faces faces asked.are_faces read
