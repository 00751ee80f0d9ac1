use Rattle.std.proofs.Common.{◌∙◌, pos, int_cmp, ap, ap₂, sym}
use Rattle.qm_space.specs.CommonLine.{line_product}
use Rattle.qm_space.proofs.CommonLines.{value_by_lines}
use Rattle.qm_geom.proofs.line.Line.side_of_meeting.Goals as goal

pub returns : goal.returns
returns c = λ g h e.
    c.side.ensures ∙ ap (λ z. int_cmp z (pos 0)) (ap₂ line_product e c.of.ensures ∙ sym (value_by_lines g h c.args.a.now c.args.b.now))
