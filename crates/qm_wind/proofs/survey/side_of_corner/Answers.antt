use Rattle.std.proofs.Common.{◌∙◌, pos, int_cmp, ap}
use Rattle.qm_space.specs.Plane.{value}
use Rattle.qm_wind.proofs.Polygons.{corner_by_edges}
use Rattle.qm_wind.proofs.survey.side_of_corner.Goals as goal

pub returns : goal.returns
returns c = λ g h e.
    c.side_of_meeting.ensures g h e
    ∙ ap (λ p. int_cmp (value g p) (pos 0))
    (corner_by_edges h c.args.edges.now c.args.i c.next_place-next.result c.index-edges-i.result c.index-edges-next.result
    c.requires c.next_place-next.ensures.below c.next_place-next.ensures.value c.index-edges-i.is c.index-edges-next.is)
