-- The brush models among the parts of a file are those of the file.
use Rattle.std.proofs.Common.{◌≡◌, ℕ, List, Result, sym, subst}
use Rattle.qm_formats.specs.TreeFile.{TreeFile}
use Rattle.qm_model_layout.specs.BrushModel.{BrushModel}
use Rattle.qm_commands.specs.declared.query.Query.{Query}
use Rattle.qm_commands.specs.declared.query.Query.TheVariants as queries
use Rattle.qm_answers.specs.declared.answer.Answer.{Answer}
use Rattle.qm_answers.specs.declared.answer.Answer.TheVariants.{Model}
use Rattle.qm_answers.specs.declared.decoded_section.DecodedSection.{DecodedSection}
use Rattle.qm_answers.specs.declared.query_fault.QueryFault.{QueryFault}
use Rattle.qm_answers.specs.Answers.{AnswersBySection, model_of_entity, answer_of_model, AnswersModel, AnswersQuery}
use Rattle.qm_inspect.specs.declared.parts.Parts.{Parts}
use Rattle.qm_inspect.specs.Parts.{ArePartsOf}

-- what the section among the parts answers
pub model_answer :
    (file : TreeFile) (parts : Parts) (ask : Query) (entity : ℕ) (answer : Result Answer QueryFault) → ArePartsOf file parts → ask ≡ queries.Model entity →
    AnswersBySection parts.models (λ models given. given ≡ answer_of_model (model_of_entity models entity) (λ _. Model entity)) answer → AnswersQuery file ask answer
unfolding AnswersQuery AnswersModel
model_answer file parts ask entity answer are ask_is is =
    subst (λ (query : Query). AnswersQuery file query answer) (sym ask_is)
    (subst (λ (section : DecodedSection (List BrushModel)). AnswersBySection section (λ models given. given ≡ answer_of_model (model_of_entity models entity) (λ _. Model entity)) answer) are.models is)
