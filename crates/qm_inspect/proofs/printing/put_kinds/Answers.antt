use Rattle.std.proofs.Common.{◌∙◌, sym, ap, string_bytes, append-nil}
use Rattle.qm_formats.specs.TreeFile.{Section}
use Rattle.qm_answers.proofs.SpacedNumbers.{all_numbers, next_number}
use Rattle.qm_inspect.proofs.printing.put_kinds.Goals as goal

pub loop-section-init : goal.loop-section-init
loop-section-init c = sym (append-nil (string_bytes c.args.text.now))

pub loop-section-preserved : goal.loop-section-preserved
loop-section-preserved c =
    next_number (λ (section : Section). section.kind) (string_bytes c.args.text.now) (string_bytes c.loop-section.text) (string_bytes c.put_kind.new.text) c.args.sections.now c.loop-section.section-index c.section.inside.kind c.section-item.result
    c.loop-section-test.true (ap (λ (section : Section). section.kind) (c.section.view_is ∙ c.section-item.is)) c.loop-section.invariant c.in_ok-put_kind.ensures

pub returns : goal.returns
returns c =
    all_numbers (λ (section : Section). section.kind) (string_bytes c.args.text.now) (string_bytes c.loop-section.text) c.args.sections.now c.loop-section.section-index c.loop-section.invariant c.loop-section-test.false
