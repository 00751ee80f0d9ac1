use Rattle.std.proofs.Common.{◌≡◌, ◌<◌, length, get_or, sym, subst, ◌∙◌, ap, arith}
use Rattle.qm_sight.specs.RowsOfWorld.{RowsOfWorld, AreRowsOfWorld}
use Rattle.qm_sight.proofs.RowsRead.{row_there, row_is, row_wide, row_sound}
use Rattle.qm_sight.proofs.rows.Rows.row.Goals as goal
use Rattle.qm_sight.proofs.rows.Rows.row.Goals.{After-self, After-index}

are : (c : After-self) → AreRowsOfWorld c.args.self.now.world c.args.self.now.rows
are c = subst (λ (r : RowsOfWorld). AreRowsOfWorld r.world r.rows) c.self.view_is c.self.invariant

read : (c : After-index) → c.index.result.now ≡ get_or c.args.self.now.rows c.args.portal c.index.result.now
read c = c.index.ensures ∙ ap (λ (r : RowsOfWorld). get_or r.rows c.args.portal c.index.result.now) c.self.view_is

pub index-requires : goal.index-requires
index-requires c =
    let there =
    subst (λ (r : RowsOfWorld). c.args.portal < length r.rows) (sym c.self.view_is)
    (row_there c.args.self.now.world c.args.self.now.rows (are (goal.at.index-requires c).After-self) c.args.portal c.requires) in
    let fits = c.self.inside.rows.ok.0 in
    omega (arith, there, fits)

pub returns-clause-value : goal.returns-clause-value
returns-clause-value c = row_is c.args.self.now.world c.args.self.now.rows (are (goal.at.returns-clause-value c).After-self) c.args.portal c.requires c.index.result.now (read (goal.at.returns-clause-value c).After-index)

pub returns-clause-wide : goal.returns-clause-wide
returns-clause-wide c = row_wide c.args.self.now.world c.args.self.now.rows (are (goal.at.returns-clause-wide c).After-self) c.args.portal c.requires c.index.result.now (read (goal.at.returns-clause-wide c).After-index)

pub returns-clause-sound : goal.returns-clause-sound
returns-clause-sound c = row_sound c.args.self.now.world c.args.self.now.rows (are (goal.at.returns-clause-sound c).After-self) c.args.portal c.requires c.index.result.now (read (goal.at.returns-clause-sound c).After-index)
