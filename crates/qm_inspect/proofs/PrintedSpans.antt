-- Spans that are printed one after another, and when a trace can be printed.
use Rattle.std.proofs.Common.{◌≡◌, ◌∙◌, ℕ, suc, List, [], ◌∷◌, ◌++◌, Option, Some, None, sym, ap, subst, append_assoc, append-nil, arith}
use Rattle.qm_partition.specs.Tree.{Tree}
use Rattle.qm_spans.specs.declared.span.Span.{Span}
use Rattle.qm_spans.specs.Spans.{AreLeavesThere, TakesFirst}
use Rattle.qm_formats.specs.TreeFile.{TreeFile}
use Rattle.qm_commands.specs.declared.millionths.Millionths.{Millionths}
use Rattle.qm_answers.specs.declared.answer.Answer.{Answer}
use Rattle.qm_answers.specs.declared.answer.Answer.TheVariants.{HullTrace}
use Rattle.qm_answers.specs.declared.decoded_section.DecodedSection.{DecodedSection}
use Rattle.qm_answers.specs.AnswerText.{span_words, words_of_later_spans}
use Rattle.qm_answers.specs.Printable.{IsKnownTo, IsTraceable, IsPrintable}
use Rattle.qm_inspect.specs.declared.parts.Parts.{Parts}
use Rattle.qm_inspect.specs.Parts.{ArePartsOf, hull_in}
use Rattle.qm_inspect.proofs.HullsOfFiles.{hull_of_file}

-- ---- spans

pub later_leaves : (count : ℕ) (spans left : List Span) (taken : Option Span) → AreLeavesThere count spans → TakesFirst spans taken left → AreLeavesThere count left
later_leaves count [] left taken are takes = subst (AreLeavesThere count) (sym takes.1) are
later_leaves count (first ∷ others) left taken are takes =
    subst (AreLeavesThere count) (sym takes.1) (λ k nothing within. are (suc k) nothing (omega (arith, within)))

-- one more is printed on a line of its own
pub next_span :
    (tree : Tree) (spans left : List Span) (span : Span) (taken : Option Span) (before after all : List ℕ) → TakesFirst spans taken left → taken ≡ Some span →
    before ++ words_of_later_spans tree spans ≡ all → after ≡ before ++ (10 ∷ span_words tree span) → after ++ words_of_later_spans tree left ≡ all
unfolding words_of_later_spans
next_span tree [] left span taken before after all takes is so_far after_is =
    absurd (let e : ◌≡◌ {A = Option Span} None (Some span) = sym takes.0 ∙ is in cc)
next_span tree (first ∷ others) left span taken before after all takes is so_far after_is =
    let both : ◌≡◌ {A = Option Span} (Some span) (Some first) = sym is ∙ takes.0 in
    let span_is : span ≡ first = cc in
    ap (λ (text : List ℕ). text ++ words_of_later_spans tree left) after_is
    ∙ append_assoc before (10 ∷ span_words tree span) (words_of_later_spans tree left)
    ∙ ap (λ (words : List ℕ). before ++ 10 ∷ words) (λ i. span_words tree (span_is i) ++ words_of_later_spans tree (takes.1 i))
    ∙ so_far

-- none is left
pub no_span :
    (tree : Tree) (spans left : List Span) (taken : Option Span) (text all : List ℕ) → TakesFirst spans taken left → ((span : Span) → taken ≡ Some span → ⊥) →
    text ++ words_of_later_spans tree spans ≡ all → text ≡ all
unfolding words_of_later_spans
no_span tree [] left taken text all takes none so_far = sym (append-nil text) ∙ so_far
no_span tree (first ∷ others) left taken text all takes none so_far = absurd (none first takes.0)

-- ---- traces that can be printed

pub traceable_hull :
    (file : TreeFile) (parts : Parts) (hull : ℕ) (from to : Millionths) (answer : Answer) (section : DecodedSection TreeFile) (bound : ℕ) → ArePartsOf file parts → IsPrintable file answer →
    answer ≡ HullTrace hull from to → section ≡ hull_in parts hull → bound ≡ file.bound → IsKnownTo section (λ found. IsTraceable bound found.tree from to)
traceable_hull file parts hull from to answer section bound are printable answer_is section_is bound_is =
    subst (λ (b : ℕ). IsKnownTo section (λ found. IsTraceable b found.tree from to)) (sym bound_is)
    (subst (λ (of_file : DecodedSection TreeFile). IsKnownTo of_file (λ found. IsTraceable file.bound found.tree from to)) (sym (section_is ∙ hull_of_file file parts hull are))
    (subst (IsPrintable file) answer_is printable))
