use Rattle.std.proofs.Common.{◌≡◌, ◌+◌, ◌*◌, None, Option, List, Bool, get_or, sym, ap, ◌∙◌, subst, arith}
use Rattle.std.specs.Prelude.{MatchOption}
use Rattle.qm_lists.specs.WorkList.{IsIn}
use Rattle.qm_chains.specs.inner.OwnRows.{IsInSightAt}
use Rattle.qm_sight.specs.WordInSight.{ceiling_of}
use Rattle.qm_flow.specs.inner.OwnRow.{own_row}
use Rattle.qm_flow.proofs.OwnPlaces.{own_read, row_read}
use Rattle.qm_flow.proofs.own_rows.OwnRows.word.Goals as goal

pub returns-in-NotYet-clause-sound : goal.returns-in-NotYet-clause-sound
returns-in-NotYet-clause-sound g c bit within must =
    let world = g.S.RowSource.world c.args.source.now in
    let n = 64 * c.args.k + bit in
    let rows = c.self.inside.rows.items in
    let none : get_or c.args.self.now c.args.portal None ≡ None =
    own_read rows c.self.inside.places.items c.args.self.now c.self.view_is c.args.portal c.requires.portal c.index.result.now c.index.ensures ∙ ap (own_row rows) c.in-NotYet.is in
    let seen : IsInSightAt world c.args.portal n = subst (λ (row : Option (List Bool)). MatchOption row (IsInSightAt world c.args.portal n) (λ r. IsIn r n)) none must in
    c.word.ensures.sound seen.portal seen.portal_is bit within seen.sight

pub word-requires-in-Row : goal.word-requires-in-Row
word-requires-in-Row g c =
    let wide = c.requires.own.wide c.args.portal c.index-row.result.now
    (row_read c.self.inside.rows.items c.self.inside.places.items c.args.self.now c.self.view_is c.self.invariant.0 c.args.portal c.requires.portal c.index.result.now c.index.ensures c.in-Row.number c.in-Row.is c.index-row.result.now c.index-row.ensures) in
    let within = c.requires.word in
    omega (arith, wide, within)

pub returns-in-Row-clause-sound : goal.returns-in-Row-clause-sound
returns-in-Row-clause-sound g c bit within must =
    let world = g.S.RowSource.world c.args.source.now in
    let n = 64 * c.args.k + bit in
    c.word-in-Row.ensures bit within
    ∙ subst (λ (row : Option (List Bool)). MatchOption row (IsInSightAt world c.args.portal n) (λ r. IsIn r n))
    (row_read c.self.inside.rows.items c.self.inside.places.items c.args.self.now c.self.view_is c.self.invariant.0 c.args.portal c.requires.portal c.index.result.now c.index.ensures c.in-Row.number c.in-Row.is c.index-row.result.now c.index-row.ensures) must

pub returns-in-Row-clause-within : goal.returns-in-Row-clause-within
returns-in-Row-clause-within g c bit within is =
    let n = 64 * c.args.k + bit in
    subst (λ (row : Option (List Bool)). MatchOption row (IsIn (ceiling_of (g.S.RowSource.ceilings c.args.source.now) c.args.portal) n) (λ r. IsIn r n))
    (sym (row_read c.self.inside.rows.items c.self.inside.places.items c.args.self.now c.self.view_is c.self.invariant.0 c.args.portal c.requires.portal c.index.result.now c.index.ensures c.in-Row.number c.in-Row.is c.index-row.result.now c.index-row.ensures))
    (sym (c.word-in-Row.ensures bit within) ∙ is)
