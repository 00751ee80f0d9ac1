use Rattle.std.proofs.Common.{Option, Some, List, Bool, false, replicate, set, ap, ◌∙◌}
use Rattle.std.proofs.lemmas.List.{map-set}
use Rattle.qm_flow.specs.declared.own_rows.Place.TheVariants.{Barred}
use Rattle.qm_flow.specs.inner.OwnRow.{own_row}
use Rattle.qm_flow.proofs.own_rows.OwnRows.bar.Goals as goal

pub returns : goal.returns
returns c =
    map-set (own_row c.self.inside.rows.items) c.self.inside.places.items c.args.portal (Barred c.args.leaves)
    ∙ ap (λ (own : List (Option (List Bool))). set own c.args.portal (Some (replicate c.args.leaves false))) c.self.view_is
