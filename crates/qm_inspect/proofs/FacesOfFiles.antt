-- The faces among the parts of a file are those of the file.
use Rattle.std.proofs.Common.{◌≡◌, ℕ, List, Result, Ok, length, sym, subst}
use Rattle.qm_formats.specs.TreeFile.{TreeFile}
use Rattle.qm_face_layout.specs.declared.face_record.FaceRecord.{FaceRecord}
use Rattle.qm_commands.specs.declared.query.Query.{Query}
use Rattle.qm_commands.specs.declared.query.Query.TheVariants as queries
use Rattle.qm_answers.specs.declared.answer.Answer.{Answer}
use Rattle.qm_answers.specs.declared.answer.Answer.TheVariants.{Faces}
use Rattle.qm_answers.specs.declared.decoded_section.DecodedSection.{DecodedSection}
use Rattle.qm_answers.specs.declared.query_fault.QueryFault.{QueryFault}
use Rattle.qm_answers.specs.Answers.{AnswersBySection, answer_to_face, AnswersFaceCount, AnswersFace, AnswersQuery}
use Rattle.qm_inspect.specs.declared.parts.Parts.{Parts}
use Rattle.qm_inspect.specs.Parts.{ArePartsOf}

-- what the section among the parts answers
module _ (file : TreeFile) (parts : Parts) (ask : Query) (answer : Result Answer QueryFault) (are : ArePartsOf file parts) where
  pub faces_answer : ask ≡ queries.Faces → AnswersBySection parts.faces (λ faces given. given ≡ Ok (Faces (length faces))) answer → AnswersQuery file ask answer
  unfolding AnswersQuery AnswersFaceCount
  faces_answer ask_is is =
      subst (λ (query : Query). AnswersQuery file query answer) (sym ask_is)
      (subst (λ (section : DecodedSection (List FaceRecord)). AnswersBySection section (λ faces given. given ≡ Ok (Faces (length faces))) answer) are.faces is)

  pub face_answer : (n : ℕ) → ask ≡ queries.Face n → AnswersBySection parts.faces (λ faces given. given ≡ answer_to_face faces n) answer → AnswersQuery file ask answer
  unfolding AnswersQuery AnswersFace
  face_answer n ask_is is =
      subst (λ (query : Query). AnswersQuery file query answer) (sym ask_is)
      (subst (λ (section : DecodedSection (List FaceRecord)). AnswersBySection section (λ faces given. given ≡ answer_to_face faces n) answer) are.faces is)
