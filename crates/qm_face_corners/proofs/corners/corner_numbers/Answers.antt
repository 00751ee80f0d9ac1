use Rattle.std.proofs.Common.{List, get_or, sym, ap, subst, ◌∙◌}
use Rattle.std.proofs.lemmas.List.Elements.{All-contains}
use Rattle.qm_space.specs.Bounds.{world_extent}
use Rattle.qm_space.specs.Plane.{Plane}
use Rattle.qm_face_layout.specs.PlaneNumbers.{IsNamedPlane}
use Rattle.qm_face_corners.proofs.corners.corner_numbers.Goals as goal

pub number-ahead-requires : goal.number-ahead-requires
number-ahead-requires c = All-contains (IsNamedPlane c.args.numbers.now world_extent) c.args.winding.now.edges c.edge.result c.requires.named.edges c.edge.ensures.edge

pub number-behind-requires : goal.number-behind-requires
number-behind-requires c =
    let edge = c.index-edges-place.result in
    let same = c.index-edges-place.is ∙ ap (λ (edges : List Plane). get_or edges c.args.place edge) c.edges.ensures in
    subst (λ (planes : List Plane). IsNamedPlane planes world_extent edge) (sym c.number-ahead.ensures.same)
    (subst (IsNamedPlane c.args.numbers.now world_extent) (sym same) (c.requires.named.edges c.args.place edge c.requires.within))
