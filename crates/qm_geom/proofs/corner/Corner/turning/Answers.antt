use Rattle.std.proofs.Common.{◌<ℤ◌, pos, ap, ◌∙◌}
use Rattle.qm_geom.proofs.Wide.{held_is, held_is_corner}
use Rattle.qm_geom.proofs.corner.Corner.turning.Goals as goal

pub invariant_of-result : goal.invariant_of-result
invariant_of-result c =
    let weight : pos 0 <ℤ c.meeting.inside.w = rw (ap (λ p. p.w) (c.meeting.view_is ∙ c.of-meeting.ensures)) c.requires in
    held_is_corner _ weight c.meeting.invariant

pub returns : goal.returns
returns c = held_is _ c.meeting.invariant ∙ c.meeting.view_is ∙ c.of-meeting.ensures
