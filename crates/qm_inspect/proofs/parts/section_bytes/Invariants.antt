use Rattle.std.proofs.Common.{◌≡◌, drop}
use Rattle.qm_answers.specs.DecodedSections.{section_bytes}
use Rattle.qm_inspect.proofs.parts.section_bytes.Given as goal

-- the sections that have been passed have another kind
abbrev pub invariant-loop-section : goal.invariant-loop-section
invariant-loop-section l = section_bytes l.sections l.kind ≡ section_bytes (drop l.section-index l.sections) l.kind
