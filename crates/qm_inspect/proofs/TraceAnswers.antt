-- What is answered to a segment, by whether segments can be traced.
use Rattle.std.proofs.Common.{◌≡◌, ◌∙◌, inl, inr, ℕ, zero, suc, Bool, true, false, Result, Ok, Err, refl, subst}
use Rattle.std.specs.Prelude.{◌↔◌, IsTrue, if◌then◌else◌}
use Rattle.qm_partition.specs.Tree.{Tree}
use Rattle.qm_spans.specs.SegmentTrace.{FitsTraces}
use Rattle.qm_formats.specs.TreeFile.{TreeFile}
use Rattle.qm_commands.specs.declared.millionths.Millionths.{Millionths}
use Rattle.qm_answers.specs.declared.answer.Answer.{Answer}
use Rattle.qm_answers.specs.declared.answer.Answer.TheVariants.{Trace, HullTrace}
use Rattle.qm_answers.specs.declared.decoded_section.DecodedSection.{DecodedSection}
use Rattle.qm_answers.specs.declared.query_fault.QueryFault.{QueryFault}
use Rattle.qm_answers.specs.declared.query_fault.QueryFault.TheVariants.{OutsideCube, TooWide}
use Rattle.qm_answers.specs.Answers.{HasEndsInside, AnswersBySection, AnswersByTree, AnswersTrace, AnswersHullTrace}
use Rattle.qm_inspect.specs.declared.parts.Parts.{Parts}
use Rattle.qm_inspect.specs.Parts.{ArePartsOf, FitsIfKnown, hull_in, fits_in}
use Rattle.qm_inspect.proofs.HullsOfFiles.{hull_of_file}

pub answers_by_tree : (fits : Bool) (tree : Tree) (trace : Answer) (answer : Result Answer QueryFault) → IsTrue fits ↔ FitsTraces tree → answer ≡ (if fits then Ok trace else Err TooWide) → AnswersByTree tree trace answer
answers_by_tree true tree trace answer fits_is is = inl (fits_is.0 refl, is)
answers_by_tree false tree trace answer fits_is is = inr (λ fits. let e : false ≡ true = fits_is.1 fits in absurd cc, is)

pub hull_fits_if_known : (file : TreeFile) (parts : Parts) (hull : ℕ) → ArePartsOf file parts → FitsIfKnown (hull_in parts hull) (fits_in parts hull)
hull_fits_if_known file parts zero are = are.second_fits
hull_fits_if_known file parts (suc zero) are = are.first_fits
hull_fits_if_known file parts (suc (suc number)) are = are.second_fits

-- a segment of which an end is outside
pub trace_outside : (file : TreeFile) (from to : Millionths) → (HasEndsInside file.bound from to → ⊥) → AnswersTrace file from to (Err OutsideCube)
unfolding AnswersTrace
trace_outside file from to outside = inr (outside, refl)

pub hull_trace_outside : (file : TreeFile) (hull : ℕ) (from to : Millionths) → (HasEndsInside file.bound from to → ⊥) → AnswersHullTrace file hull from to (Err OutsideCube)
unfolding AnswersHullTrace
hull_trace_outside file hull from to outside = inr (outside, refl)

-- and one whose ends are inside
pub trace_answer :
    (file : TreeFile) (parts : Parts) (from to : Millionths) (answer : Result Answer QueryFault) → ArePartsOf file parts → HasEndsInside file.bound from to →
    answer ≡ (if parts.fits then Ok (Trace from to) else Err TooWide) → AnswersTrace file from to answer
unfolding AnswersTrace
trace_answer file parts from to answer are inside is = inl (inside, answers_by_tree parts.fits file.tree (Trace from to) answer are.fits is)

pub hull_trace_answer :
    (file : TreeFile) (parts : Parts) (hull : ℕ) (from to : Millionths) (section : DecodedSection TreeFile) (answer : Result Answer QueryFault) → ArePartsOf file parts → HasEndsInside file.bound from to →
    section ≡ hull_in parts hull → AnswersBySection section (λ found. AnswersByTree found.tree (HullTrace hull from to)) answer → AnswersHullTrace file hull from to answer
unfolding AnswersHullTrace
hull_trace_answer file parts hull from to section answer are inside section_is is = inl (
  inside,
  subst (λ (of_file : DecodedSection TreeFile). AnswersBySection of_file (λ found. AnswersByTree found.tree (HullTrace hull from to)) answer)
      (section_is ∙ hull_of_file file parts hull are) is,
)
