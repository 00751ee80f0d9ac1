use Rattle.std.proofs.Common.{◌≡◌, ◌<◌, List, length, sym, ap, subst, ◌∙◌}
use Rattle.qm_listing.specs.declared.listing.Coordinate.{Coordinate}
use Rattle.qm_listing.specs.inner.GoneRound.{steps_back}
use Rattle.qm_listing.proofs.CornersBack.{has_parts, listed_line}
use Rattle.qm_prt.proofs.printing.line_of.Goals as goal

pub first_corner-first-requires : goal.first_corner-first-requires
first_corner-first-requires c = subst (λ (corners : List (List Coordinate)). 0 < length corners) (sym c.deref.ensures.value) c.in_ok-corners.ensures.some

pub returns : goal.returns
returns c =
    let of_pane = c.pane.ensures in
    let portal = of_pane.0 in
    let corners : c.deref-2.result.now ≡ c.deref.result.now = c.deref-2.ensures.value ∙ sym c.deref.ensures.value in
    let parts = has_parts c.args.world.now.portals c.args.p portal _ _ _ of_pane.1 of_pane.2 c.from.ensures.value c.to.ensures.value in
    (portal, of_pane.1, listed_line portal _ _ _ c.deref.result.now _ c.first_corner-first.result parts (c.deref.ensures.value ∙ c.in_ok-corners.ensures.listed) c.first_corner-first.ensures.within c.first_corner-first.ensures.first (c.from_vec.ensures ∙ c.in_ok-turned.ensures ∙ ap (λ (xs : List (List Coordinate)). steps_back xs c.first_corner-first.result (length xs)) corners))
