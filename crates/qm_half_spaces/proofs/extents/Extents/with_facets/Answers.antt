use Rattle.std.proofs.Common.{List, take, sym, subst, ap, ◌∙◌}
use Rattle.std.proofs.lemmas.List.Elements.{All-take}
use Rattle.qm_lists.proofs.Places.{take-read}
use Rattle.qm_convex.specs.Winding.{Winding, IsConvex}
use Rattle.qm_convex.specs.inner.Facets.{Facet}
use Rattle.qm_facets.specs.inner.Joined.{IsJoined, HasCorners, HasCornersOfAll}
use Rattle.qm_facets.proofs.JoinedCorners.{no_facets, facet_more}
use Rattle.qm_half_spaces.proofs.extents.Extents.with_facets.Goals as goal

pub loop-facet-init : goal.loop-facet-init
loop-facet-init c = no_facets c.args.self

pub loop-facet-preserved : goal.loop-facet-preserved
loop-facet-preserved c =
    let facets = c.args.facets.now in
    let n = c.loop-facet.facet-index in
    subst (λ (fs : List Facet). IsJoined c.args.self (HasCornersOfAll fs) c.with_corners-extents.result) (sym (take-read facets n c.facet-item.result c.loop-facet-test.true c.facet-item.is))
    (facet_more c.args.self c.loop-facet.extents c.with_corners-extents.result (take n facets) c.facet-item.result (All-take (λ (f : Facet). IsConvex f.winding) n facets c.requires) c.loop-facet.invariant
    (subst (λ (v : Winding). IsJoined c.loop-facet.extents (HasCorners v) c.with_corners-extents.result) (c.deref.ensures ∙ ap (λ (f : Facet). f.winding) c.facet.view_is) c.with_corners-extents.ensures))
