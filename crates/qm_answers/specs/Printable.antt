use Rattle.qm_answers.specs.declared.answer.Answer.{Answer}
use Rattle.qm_answers.specs.declared.answer.Answer.TheVariants.{Trace, HullTrace}
use Rattle.qm_answers.specs.declared.decoded_section.DecodedSection.{DecodedSection}
use Rattle.qm_answers.specs.declared.decoded_section.DecodedSection.TheVariants.{Missing, Bad, Known}
use Rattle.qm_answers.specs.Answers.{HasEndsInside}
use Rattle.qm_answers.specs.DecodedSections.{decoded_hull}
use Rattle.qm_commands.specs.declared.millionths.Millionths.{Millionths}
use Rattle.qm_formats.specs.TreeFile.{TreeFile}
use Rattle.qm_partition.specs.Tree.{Tree}
use Rattle.qm_spans.specs.SegmentTrace.{FitsTraces}
use Rattle.std.specs.Prelude.{ℕ}

-- Which answers can be printed: those that the file gives.

-- a section is there, is read, and its content is so
abbrev pub IsKnownTo : {X : Type 0} → DecodedSection X → (X → Type 0) → Type 0
IsKnownTo Missing Holds = ⊥
IsKnownTo Bad Holds = ⊥
IsKnownTo (Known content) Holds = Holds content

-- a segment whose trace through a tree can be worked out
abbrev pub IsTraceable : ℕ → Tree → (from to : Millionths) → Type 0
IsTraceable bound tree from to = HasEndsInside bound from to × FitsTraces tree

abbrev pub IsPrintable : TreeFile → Answer → Type 0
IsPrintable file (Trace from to) = IsTraceable file.bound file.tree from to
IsPrintable file (HullTrace hull from to) = IsKnownTo (decoded_hull file hull) (λ found. IsTraceable file.bound found.tree from to)
IsPrintable file _ = Unit {0}
