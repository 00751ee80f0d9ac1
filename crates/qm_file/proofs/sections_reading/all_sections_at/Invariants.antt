use Rattle.qm_formats.specs.Layout.{each_after}
use Rattle.qm_formats.specs.TreeFile.{Section}
use Rattle.qm_formats.specs.FileLayout.{section_layout}
use Rattle.qm_formats.proofs.ReadLists.{IsReadUpTo}
use Rattle.qm_file.proofs.sections_reading.all_sections_at.Given as goal

-- some sections are read, and what is read of the others behind them completes them
abbrev pub invariant-loop : goal.invariant-loop
invariant-loop l = IsReadUpTo (λ (section : Section). section.kind) section_layout l.count l.bytes ((each_after (λ (section : Section). section.kind) section_layout 0 l.count).read l.bytes l.at) l.sections.items l.last_kind l.counter l.next
