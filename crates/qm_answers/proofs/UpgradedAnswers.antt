-- A file and the same file in version 2 have the same answers; the cube of the bound 4096 is the world's cube.
use Rattle.std.proofs.Common.{◌≡◌, ◌≢◌, ◌∷◌, [], ◌++◌, List, length, Result, Ok, Err, refl, sym, ap, subst}
use Rattle.std.specs.Prelude.{◌↔◌}
use Rattle.qm_space.specs.Bounds.{world_extent}
use Rattle.qm_space.specs.Point.{Point, IsInCube}
use Rattle.qm_formats.specs.TreeFile.{TreeFile}
use Rattle.qm_formats.specs.Upgraded.{upgraded}
use Rattle.qm_face_layout.specs.declared.face_record.FaceRecord.{FaceRecord}
use Rattle.qm_commands.specs.declared.query.Query.{Query}
use Rattle.qm_commands.specs.declared.query.Query.TheVariants as queries
use Rattle.qm_answers.specs.declared.answer.Answer.{Answer}
use Rattle.qm_answers.specs.declared.answer.Answer.TheVariants as answers
use Rattle.qm_answers.specs.declared.query_fault.QueryFault.{QueryFault}
use Rattle.qm_answers.specs.declared.decoded_section.DecodedSection.{DecodedSection}
use Rattle.qm_answers.specs.DecodedSections.{decoded_faces}
use Rattle.qm_answers.specs.AnswerText.{answer_line, answer_words, words_of_known_face, words_of_row}
use Rattle.qm_answers.proofs.UpgradedFaces.{same_faces}
use Rattle.qm_answers.specs.Answers.{AnswersBySection, answer_to_face, AnswersPlace, AnswersHull, AnswersTrace, AnswersHullTrace, AnswersModel, AnswersModelAt, AnswersFaceCount, AnswersFace, AnswersQuery}
use Rattle.qm_space.specs.InsideBound.{IsInsideBound}
use Rattle.qm_answers.specs.SameAnswers.{HaveSameAnswers}

-- ---- cubes

pub cube_of_bound : (point : Point) → IsInsideBound world_extent point ↔ IsInCube point
cube_of_bound point = (
  λ inside. record {
    weight = inside.weight;
    x = record { above = inside.x.above; below = inside.x.below };
    y = record { above = inside.y.above; below = inside.y.below };
    z = record { above = inside.z.above; below = inside.z.below };
  },
  λ inside. record {
    weight = inside.weight;
    x = record { above = inside.x.above; below = inside.x.below };
    y = record { above = inside.y.above; below = inside.y.below };
    z = record { above = inside.z.above; below = inside.z.below };
  },
)

-- ---- the same file in version 2

same_place : (file : TreeFile) (point : Point) (answer : Result Answer QueryFault) → AnswersPlace file point answer ↔ AnswersPlace (upgraded file) point answer
same_place file point (Ok answer) = (λ is. is, λ is. is)
same_place file point (Err fault) = (λ is. is, λ is. is)

same_by_faces : (file : TreeFile) (Answers : List FaceRecord → Result Answer QueryFault → Type 0) (answer : Result Answer QueryFault) →
    AnswersBySection (decoded_faces file) Answers answer ↔ AnswersBySection (decoded_faces (upgraded file)) Answers answer
same_by_faces file Answers answer =
    let By : DecodedSection (List FaceRecord) → Type 0 = λ section. AnswersBySection section Answers answer in
    (λ is. subst By (same_faces file) is, λ is. subst By (sym (same_faces file)) is)

same_answer : (file : TreeFile) (query : Query) (answer : Result Answer QueryFault) → query ≢ queries.Parts → AnswersQuery file query answer ↔ AnswersQuery (upgraded file) query answer
unfolding AnswersQuery AnswersHull AnswersTrace AnswersHullTrace AnswersModel AnswersModelAt AnswersFaceCount AnswersFace
same_answer file queries.Count answer other = (λ is. is, λ is. is)
same_answer file (queries.At x y z) answer other = same_place file _ answer
same_answer file (queries.Hull hull x y z) answer other = (λ is. is, λ is. is)
same_answer file (queries.Trace from to) answer other = (λ is. is, λ is. is)
same_answer file (queries.HullTrace hull from to) answer other = (λ is. is, λ is. is)
same_answer file (queries.Model entity) answer other = (λ is. is, λ is. is)
same_answer file (queries.ModelAt entity x y z) answer other = (λ is. is, λ is. is)
same_answer file queries.Faces answer other = same_by_faces file (λ faces answer. answer ≡ Ok (answers.Faces (length faces))) answer
same_answer file (queries.Face n) answer other = same_by_faces file (λ faces answer. answer ≡ answer_to_face faces n) answer
same_answer file (queries.Row n) answer other = (λ is. is, λ is. is)
same_answer file (queries.Sees n m) answer other = (λ is. is, λ is. is)
same_answer file queries.Parts answer other = absurd (other refl)

same_line : (file : TreeFile) (answer : Answer) → answer ≢ answers.Parts → answer_line file answer ≡ answer_line (upgraded file) answer
unfolding answer_words words_of_row
same_line file (answers.Count planes nodes leaves numbered rows) other = refl
same_line file (answers.Place leaf contents filled number) other = refl
same_line file (answers.Hull solid) other = refl
same_line file (answers.Trace from to) other = refl
same_line file (answers.HullTrace hull from to) other = refl
same_line file (answers.Model entity) other = refl
same_line file (answers.ModelAt entity contents) other = refl
same_line file (answers.Faces count) other = refl
same_line file (answers.Face n) other = ap (λ (section : DecodedSection (List FaceRecord)). words_of_known_face file.tree.planes file.bound section n ++ (10 ∷ [])) (same_faces file)
same_line file (answers.Row n) other = refl
same_line file (answers.Sees sees) other = refl
same_line file answers.Parts other = absurd (other refl)

pub upgraded_answers : (file : TreeFile) → HaveSameAnswers file (upgraded file)
upgraded_answers file = record { same = same_answer file; same_lines = same_line file }
