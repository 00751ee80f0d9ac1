use Rattle.std.proofs.Common.{◌≡◌, None, Some, Option, List, Bool, false, replicate, get_or, ap, ◌∙◌, subst}
use Rattle.std.specs.Prelude.{MatchOption}
use Rattle.qm_lists.specs.WorkList.{IsIn}
use Rattle.qm_chains.specs.inner.OwnRows.{IsInSightAt}
use Rattle.qm_chains.proofs.Beginnings.{none_clear}
use Rattle.qm_flow.specs.inner.OwnRow.{own_row}
use Rattle.qm_flow.proofs.OwnPlaces.{own_read}
use Rattle.qm_flow.proofs.own_rows.OwnRows.is_barred.Goals as goal

pub returns-in-Barred : goal.returns-in-Barred
returns-in-Barred c told world n must =
    let rows = c.self.inside.rows.items in
    let clear : get_or c.args.self.now c.args.portal None ≡ Some (replicate c.in-Barred.leaves false) =
    own_read rows c.self.inside.places.items c.args.self.now c.self.view_is c.args.portal c.requires c.index.result.now c.index.ensures ∙ ap (own_row rows) c.in-Barred.is in
    none_clear c.in-Barred.leaves n (subst (λ (row : Option (List Bool)). MatchOption row (IsInSightAt world c.args.portal n) (λ r. IsIn r n)) clear must)
