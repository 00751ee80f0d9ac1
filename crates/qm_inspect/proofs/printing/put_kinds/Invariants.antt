use Rattle.std.proofs.Common.{◌≡◌, ◌++◌, take, string_bytes}
use Rattle.qm_answers.specs.AnswerText.{section_kinds}
use Rattle.qm_inspect.proofs.printing.put_kinds.Given as goal

-- the kinds of the first sections are there
abbrev pub invariant-loop-section : goal.invariant-loop-section
invariant-loop-section l = string_bytes l.text ≡ string_bytes l.fn.text ++ section_kinds (take l.section-index l.sections)
