use Rattle.std.proofs.Common.{ℕ, ◌+◌, ap, sym, subst}
use Rattle.std.proofs.lemmas.Result.{err_from_is_err_and}
use Rattle.qm_formats.specs.Layout.{each_after}
use Rattle.qm_formats.specs.TreeFile.{Section}
use Rattle.qm_formats.specs.FileLayout.{section_layout}
use Rattle.qm_formats.proofs.ReadLists.{IsReadUpTo, one_more_after, one_fault_after}
use Rattle.qm_file.proofs.Faults.{fault_passes}
use Rattle.qm_file.proofs.sections_reading.all_sections_at.Goals as goal

pub returns-in_err-section : goal.returns-in_err-section
returns-in_err-section c =
    let p = err_from_is_err_and c.from_residual.result c.from_residual.ensures.1 in
    rw (p.1, p.2) (fault_passes c.in_err-section.field-0.0 (one_fault_after (λ (section : Section). section.kind) section_layout c.args.count c.args.bytes.now _ c.loop.sections.items c.loop.last_kind c.loop.counter c.loop.next c.loop-test.true c.loop.invariant) c.in_err-section.ensures)

pub loop-preserved : goal.loop-preserved
loop-preserved c =
    let whole = (each_after (λ (section : Section). section.kind) section_layout 0 c.args.count).read c.args.bytes.now c.args.at in
    let more = one_more_after (λ (section : Section). section.kind) section_layout c.args.count c.args.bytes.now whole c.loop.sections.items c.loop.last_kind c.loop.counter c.loop.next c.in_ok-section.section c.in_ok-section.after _ c.loop-test.true c.loop.invariant c.in_ok-section.ensures c.in_ok-push.ensures.items in
    let same = ap (λ (section : Section). section.kind) (sym c.section.view_is) in
    subst (λ (kind : ℕ). IsReadUpTo (λ (section : Section). section.kind) section_layout c.args.count c.args.bytes.now whole c.push.new.self.items kind (c.loop.counter + 1) c.in_ok-section.after) same more
