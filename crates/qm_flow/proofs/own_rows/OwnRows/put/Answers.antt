use Rattle.std.proofs.Common.{Option, Some, List, Bool, set, ap, ◌∙◌, arith}
use Rattle.qm_flow.specs.declared.own_rows.Place.TheVariants.{Row}
use Rattle.qm_flow.specs.inner.OwnRow.{own_rows}
use Rattle.qm_flow.proofs.OwnPlaces.{put_more}
use Rattle.qm_flow.proofs.own_rows.OwnRows.put.Goals as goal

pub returns : goal.returns
returns c =
    let rows = c.self.inside.rows in
    let places = c.self.inside.places.items in
    let portal = c.args.portal in
    let number = c.len-number.result in
    let counted = c.len-number.ensures in
    let long = rows.ok.0 in
    ap (λ (all : List (List Bool)). own_rows all (set places portal (Row number))) c.in_ok-push.ensures.items
    ∙ put_more rows.items c.args.row places portal number c.self.invariant.0 (omega (arith, counted, long))
    ∙ ap (λ (own : List (Option (List Bool))). set own portal (Some c.args.row)) c.self.view_is
