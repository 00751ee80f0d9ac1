use Rattle.std.specs.Prelude.{◌<◌, ℕ, zero, suc, ◌==◌, List, [], ◌∷◌, Option, Some, None, MatchOption, count_by, if◌then◌else◌}
use Rattle.qm_partition.specs.Counting.{leaves_of}
use Rattle.qm_contacts.specs.NumberedLeaves.{is_numbered}
use Rattle.qm_formats.specs.TreeFile.{Section, TreeFile}
use Rattle.qm_plain.specs.PlainFile.{ArePlainBytes}
use Rattle.qm_plain.proofs.PlainFiles.{plain_or_not}
use Rattle.qm_model_layout.specs.BrushModel.{BrushModel}
use Rattle.qm_model_layout.specs.ModelLayout.{AreModelsBytes}
use Rattle.qm_model_layout.proofs.ToldModels.{models_or_not}
use Rattle.qm_face_layout.specs.declared.face_record.FaceRecord.{FaceRecord}
use Rattle.qm_face_layout.specs.FacesLayout.{AreFacesBytes}
use Rattle.qm_face_layout.proofs.ToldFaces.{faces_or_not}
use Rattle.qm_answers.specs.declared.decoded_section.DecodedSection.{DecodedSection}
use Rattle.qm_answers.specs.declared.decoded_section.DecodedSection.TheVariants.{Missing, Bad, Known}

-- What the sections of a tree file are decoded to: the content whose bytes they have.

-- the bytes of the section of a kind; kinds ascend, so that a valid file has one such section at most
abbrev pub section_bytes : List Section → ℕ → Option (List ℕ)
section_bytes [] kind = None
section_bytes (section ∷ sections) kind = if section.kind == kind then Some section.bytes else section_bytes sections kind

-- the content of which this holds, or none where it holds of none
abbrev pub IsOnlyOne : {X : Type 0} → (X → Type 0) → Option X → Type 0
IsOnlyOne {X} Holds found = MatchOption found ((content : X) → Holds content → ⊥) Holds

-- bytes of no content are bad
abbrev pub known_if_found : {X : Type 0} → Option X → DecodedSection X
known_if_found None = Bad
known_if_found (Some content) = Known content

-- what a section is decoded to, by the content of its bytes, where they are there
abbrev pub decoded_by : {X : Type 0} → (List ℕ → Option X) → Option (List ℕ) → DecodedSection X
decoded_by content_of None = Missing
decoded_by content_of (Some bytes) = known_if_found (content_of bytes)

-- the kind of the section of a hull
abbrev pub kind_of_hull : ℕ → ℕ
kind_of_hull (suc zero) = 1
kind_of_hull _ = 2

-- the plain file of a bound that has these bytes, if one has; this can always be told, and it does not matter how
unfoldable pub plain_answer : (bound : ℕ) (bytes : List ℕ) → (found : Option TreeFile) × IsOnlyOne (ArePlainBytes bound bytes) found
plain_answer bound bytes = plain_or_not bound bytes

-- a hull of a file: its section has the bytes of a plain file of the same bound
abbrev pub decoded_hull : TreeFile → ℕ → DecodedSection TreeFile
decoded_hull file hull = decoded_by (λ bytes. (plain_answer file.bound bytes).0) (section_bytes file.sections (kind_of_hull hull))

-- how many leaves of a file are numbered
abbrev pub numbered_count : TreeFile → ℕ
numbered_count file = count_by is_numbered (leaves_of file.tree.shape)

-- the kind of the section of brush models
abbrev pub kind_of_models : ℕ
kind_of_models = 3

-- the models that have these bytes and can stand in a section, for a bound and so many numbered leaves, if any have; this can
-- always be told, too
unfoldable pub models_answer : (bound numbered : ℕ) (bytes : List ℕ) → (found : Option (List BrushModel)) × IsOnlyOne (AreModelsBytes bound numbered bytes) found
models_answer bound numbered bytes = models_or_not bound numbered bytes

-- the brush models of a file: their section has the bytes of such models, for its own bound and its own number of numbered leaves
abbrev pub decoded_models : TreeFile → DecodedSection (List BrushModel)
decoded_models file = decoded_by (λ bytes. (models_answer file.bound (numbered_count file) bytes).0) (section_bytes file.sections kind_of_models)

-- models of entities that ascend, the first above a number
abbrev pub AscendByEntity : ℕ → List BrushModel → Type 0
AscendByEntity before [] = Unit {0}
AscendByEntity before (model ∷ models) = (before < model.entity) × AscendByEntity model.entity models

-- the kind of the section of faces
abbrev pub kind_of_faces : ℕ
kind_of_faces = 4

-- the faces that have these bytes and can stand in a section of the file, if any have; and so this can always be told
unfoldable pub faces_answer : (file : TreeFile) (bytes : List ℕ) → (found : Option (List FaceRecord)) × IsOnlyOne (AreFacesBytes file bytes) found
faces_answer file bytes = faces_or_not file bytes

-- the faces of a file: their section has the bytes of such faces
abbrev pub decoded_faces : TreeFile → DecodedSection (List FaceRecord)
decoded_faces file = decoded_by (λ bytes. (faces_answer file bytes).0) (section_bytes file.sections kind_of_faces)
