use Rattle.std.proofs.Common.{◌∙◌}
use Rattle.qm_wind.proofs.Polygons.{corner_by_edges, weight_by_edges}
use Rattle.qm_wind.proofs.polygon.corner.Goals as goal

pub turning-requires : goal.turning-requires
turning-requires c =
    weight_by_edges c.args.on.now c.args.edges.now c.args.i c.next_place-next.result c.index-edges-i.result c.index-edges-next.result
    c.requires.convex c.requires.in_range c.next_place-next.ensures.below c.next_place-next.ensures.value c.index-edges-i.is c.index-edges-next.is

pub returns : goal.returns
returns c =
    c.turning.ensures
    ∙ corner_by_edges c.args.on.now c.args.edges.now c.args.i c.next_place-next.result c.index-edges-i.result c.index-edges-next.result
    c.requires.in_range c.next_place-next.ensures.below c.next_place-next.ensures.value c.index-edges-i.is c.index-edges-next.is
