use Rattle.std.specs.Prelude.{◌≡◌, ◌⊎◌, ℕ, ℤ, pos, Bool, false, ◌&&◌, nat_lt, List, [], ◌∷◌, length, slice_get, slice_index_or, Option, Some, None, is_some, Result, Ok, Err, ◌==◌, if◌then◌else◌}
use Rattle.qm_space.specs.Point.{Point}
use Rattle.qm_partition.specs.Counting.{node_count, leaf_count}
use Rattle.qm_partition.specs.LeafOfPoint.{leaf_at, leaf_record_at}
use Rattle.qm_partition.specs.Tree.{Tree}
use Rattle.qm_contents.specs.declared.contents.Contents.{Contents}
use Rattle.qm_contacts.specs.NumberedLeaves.{is_solid, numbered_leaves}
use Rattle.qm_formats.specs.TreeFile.{TreeFile}
use Rattle.qm_model_layout.specs.BrushModel.{BrushModel}
use Rattle.qm_face_layout.specs.declared.face_record.FaceRecord.{FaceRecord}
use Rattle.qm_spans.specs.SegmentTrace.{FitsTraces}
use Rattle.qm_commands.specs.declared.millionths.Millionths.{Millionths}
use Rattle.qm_commands.specs.declared.query.Query.{Query}
use Rattle.qm_commands.specs.declared.query.Query.TheVariants as queries
use Rattle.qm_answers.specs.declared.answer.Answer.{Answer}
use Rattle.qm_answers.specs.declared.answer.Answer.TheVariants.{Count, Place, Hull, Trace, HullTrace, Model, ModelAt, Faces, Face, Row, Sees, Parts}
use Rattle.qm_answers.specs.declared.query_fault.QueryFault.{QueryFault}
use Rattle.qm_answers.specs.declared.query_fault.QueryFault.TheVariants.{OutsideCube, NoSuchLeaf, NoRows, NoPart, BadPart, NoSuchModel, NoSuchFace, TooWide}
use Rattle.qm_answers.specs.declared.decoded_section.DecodedSection.{DecodedSection}
use Rattle.qm_answers.specs.declared.decoded_section.DecodedSection.TheVariants.{Missing, Bad, Known}
use Rattle.qm_answers.specs.DecodedSections.{numbered_count, decoded_hull, decoded_models, decoded_faces}
use Rattle.qm_space.specs.InsideBound.{IsInsideBound}

-- What a tree file answers to a query.

-- how much there is in a file
abbrev pub answer_to_count : TreeFile → Answer
answer_to_count file =
    Count (length file.tree.planes) (node_count file.tree.shape) (leaf_count file.tree.shape) (numbered_count file) (is_some file.rows)

-- the number of a leaf: its place among the numbered leaves, where it is one of them
abbrev pub IsNumberOfLeaf : Tree → ℕ → Option ℕ → Type 0
IsNumberOfLeaf tree leaf (Some number) = slice_get (numbered_leaves tree) number ≡ Some leaf
IsNumberOfLeaf tree leaf None = (number : ℕ) → slice_get (numbered_leaves tree) number ≡ Some leaf → ⊥

-- the leaf that has a point, where a point on a plane lies in front of it, with what the file says of this leaf
pub record IsPlaceAnswer (tree : Tree) (point : Point) (answer : Answer) : Type 0 where
  pub number : Option ℕ
  pub is_number : IsNumberOfLeaf tree (leaf_at tree.planes tree.shape point) number
  pub answer_is :
      let found = leaf_record_at tree.planes tree.shape point in
      answer ≡ Place (leaf_at tree.planes tree.shape point) found.contents found.filled number

-- a point in the cube of the file's bound is answered, and any other refused
abbrev pub AnswersPlace : TreeFile → Point → Result Answer QueryFault → Type 0
AnswersPlace file point (Ok answer) = IsInsideBound file.bound point × IsPlaceAnswer file.tree point answer
AnswersPlace file point (Err fault) = (fault ≡ OutsideCube) × (IsInsideBound file.bound point → ⊥)

-- where something holds, it is answered so; else it is refused for this reason
abbrev pub AnswersWhere : Type 0 → QueryFault → (Result Answer QueryFault → Type 0) → Result Answer QueryFault → Type 0
AnswersWhere Holds fault Answers answer = (Holds × Answers answer) ⊎ ((Holds → ⊥) × (answer ≡ Err fault))

-- where a section is there and its bytes are read, its content answers; else it is refused
abbrev pub AnswersBySection : {X : Type 0} → DecodedSection X → (X → Result Answer QueryFault → Type 0) → Result Answer QueryFault → Type 0
AnswersBySection Missing Answers answer = answer ≡ Err NoPart
AnswersBySection Bad Answers answer = answer ≡ Err BadPart
AnswersBySection (Known content) Answers answer = Answers content answer

-- whether the leaf of a point is solid
abbrev pub is_solid_at : Tree → Point → Bool
is_solid_at tree point = is_solid (leaf_record_at tree.planes tree.shape point).contents

-- a point in the cube of the file's bound is answered by the tree of the hull, and any other refused
unfoldable pub AnswersHull : TreeFile → ℕ → Point → Result Answer QueryFault → Type 0
AnswersHull file hull point answer =
    AnswersWhere (IsInsideBound file.bound point) OutsideCube
    (AnswersBySection (decoded_hull file hull) (λ found answer. answer ≡ Ok (Hull (is_solid_at found.tree point)))) answer

-- where rows are there, what they answer
abbrev pub answer_of_rows : Option (List (List Bool)) → (List (List Bool) → Answer) → Result Answer QueryFault
answer_of_rows None answer = Err NoRows
answer_of_rows (Some rows) answer = Ok (answer rows)

-- the row of a numbered leaf
abbrev pub answer_to_row : TreeFile → ℕ → Result Answer QueryFault
answer_to_row file n =
    if nat_lt n (numbered_count file) then answer_of_rows file.rows (λ _. Row n) else Err NoSuchLeaf

-- whether the row of leaf number n has the leaf number m
abbrev pub answer_to_sees : TreeFile → ℕ → ℕ → Result Answer QueryFault
answer_to_sees file n m =
    if nat_lt n (numbered_count file) && nat_lt m (numbered_count file) then
    answer_of_rows file.rows (λ rows. Sees (slice_index_or (slice_index_or rows n []) m false))
    else Err NoSuchLeaf

-- the point whose coordinates are so many millionths
abbrev pub point_in_millionths : (x y z : ℤ) → Point
point_in_millionths x y z = record { x = x; y = y; z = z; w = pos 1000000 }

-- the point of coordinates in millionths
abbrev pub point_of : Millionths → Point
point_of at = point_in_millionths at.x at.y at.z

-- both ends of a segment are inside the cube of a bound
pub record HasEndsInside (bound : ℕ) (from to : Millionths) : Type 0 where
  pub start : IsInsideBound bound (point_of from)
  pub end : IsInsideBound bound (point_of to)

-- a tree whose planes are near enough has the trace
abbrev pub AnswersByTree : Tree → Answer → Result Answer QueryFault → Type 0
AnswersByTree tree trace answer = AnswersWhere (FitsTraces tree) TooWide (λ answer. answer ≡ Ok trace) answer

-- the trace of a segment through the file's own tree
unfoldable pub AnswersTrace : TreeFile → (from to : Millionths) → Result Answer QueryFault → Type 0
AnswersTrace file from to answer = AnswersWhere (HasEndsInside file.bound from to) OutsideCube (AnswersByTree file.tree (Trace from to)) answer

-- the trace of a segment through a hull
unfoldable pub AnswersHullTrace : TreeFile → ℕ → (from to : Millionths) → Result Answer QueryFault → Type 0
AnswersHullTrace file hull from to answer =
    AnswersWhere (HasEndsInside file.bound from to) OutsideCube
    (AnswersBySection (decoded_hull file hull) (λ found. AnswersByTree found.tree (HullTrace hull from to))) answer

-- the model of an entity, where there is one
abbrev pub model_of_entity : List BrushModel → ℕ → Option BrushModel
model_of_entity [] entity = None
model_of_entity (model ∷ models) entity = if model.entity == entity then Some model else model_of_entity models entity

-- where a model is there, what it answers
abbrev pub answer_of_model : Option BrushModel → (BrushModel → Answer) → Result Answer QueryFault
answer_of_model None answer = Err NoSuchModel
answer_of_model (Some model) answer = Ok (answer model)

-- the contents of the leaf of a point
abbrev pub leaf_contents_at : Tree → Point → Contents
leaf_contents_at tree point = (leaf_record_at tree.planes tree.shape point).contents

-- that the model of an entity is there
unfoldable pub AnswersModel : TreeFile → ℕ → Result Answer QueryFault → Type 0
AnswersModel file entity answer =
    AnswersBySection (decoded_models file) (λ models answer. answer ≡ answer_of_model (model_of_entity models entity) (λ _. Model entity)) answer

-- a point in the cube of the file's bound is answered by the model's own tree, and any other refused
unfoldable pub AnswersModelAt : TreeFile → ℕ → Point → Result Answer QueryFault → Type 0
AnswersModelAt file entity point answer =
    AnswersWhere (IsInsideBound file.bound point) OutsideCube
    (AnswersBySection (decoded_models file) (λ models answer. answer ≡ answer_of_model (model_of_entity models entity) (λ model. ModelAt entity (leaf_contents_at model.file.tree point)))) answer

-- how many faces there are
unfoldable pub AnswersFaceCount : TreeFile → Result Answer QueryFault → Type 0
AnswersFaceCount file answer = AnswersBySection (decoded_faces file) (λ faces answer. answer ≡ Ok (Faces (length faces))) answer

-- the face of a number, where there are that many
abbrev pub answer_to_face : List FaceRecord → ℕ → Result Answer QueryFault
answer_to_face faces n = if nat_lt n (length faces) then Ok (Face n) else Err NoSuchFace

-- that the face of a number is there
unfoldable pub AnswersFace : TreeFile → ℕ → Result Answer QueryFault → Type 0
AnswersFace file n answer = AnswersBySection (decoded_faces file) (λ faces answer. answer ≡ answer_to_face faces n) answer

-- what a file answers to a query
unfoldable pub AnswersQuery : TreeFile → Query → Result Answer QueryFault → Type 0
AnswersQuery file queries.Count answer = answer ≡ Ok (answer_to_count file)
AnswersQuery file (queries.At x y z) answer = AnswersPlace file (point_in_millionths x y z) answer
AnswersQuery file (queries.Hull hull x y z) answer = AnswersHull file hull (point_in_millionths x y z) answer
AnswersQuery file (queries.Trace from to) answer = AnswersTrace file from to answer
AnswersQuery file (queries.HullTrace hull from to) answer = AnswersHullTrace file hull from to answer
AnswersQuery file (queries.Model entity) answer = AnswersModel file entity answer
AnswersQuery file (queries.ModelAt entity x y z) answer = AnswersModelAt file entity (point_in_millionths x y z) answer
AnswersQuery file queries.Faces answer = AnswersFaceCount file answer
AnswersQuery file (queries.Face n) answer = AnswersFace file n answer
AnswersQuery file (queries.Row n) answer = answer ≡ answer_to_row file n
AnswersQuery file (queries.Sees n m) answer = answer ≡ answer_to_sees file n m
AnswersQuery file queries.Parts answer = answer ≡ Ok Parts
