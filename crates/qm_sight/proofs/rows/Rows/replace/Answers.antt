use Rattle.std.proofs.Common.{◌≡◌, ◌<◌, length, sym, subst, arith}
use Rattle.qm_contacts.specs.NumberedLeaves.{numbered_leaves}
use Rattle.qm_sight.specs.RowsOfWorld.{RowsOfWorld, IsSoundAt}
use Rattle.qm_sight.proofs.RowsRead.{row_there}
use Rattle.qm_sight.proofs.RowsReplaced.{rows_replaced}
use Rattle.qm_sight.proofs.rows.Rows.replace.Goals as goal

pub index_mut-requires : goal.index_mut-requires
index_mut-requires c =
    let there =
    row_there c.self.inside.world.now c.self.inside.rows.items c.self.invariant c.args.portal
    (subst (λ (r : RowsOfWorld). c.args.portal < length r.world.portals) (sym c.self.view_is) c.requires.portal_in_range) in
    let fits = c.self.inside.rows.ok.0 in
    omega (arith, there, fits)

pub invariant_of-self : goal.invariant_of-self
invariant_of-self c =
    rows_replaced c.self.inside.world.now c.self.inside.rows.items c.args.portal c.args.row c.self.invariant
    (subst (λ (r : RowsOfWorld). length c.args.row ≡ length (numbered_leaves r.world.tree)) (sym c.self.view_is) c.requires.wide)
    (subst (λ (r : RowsOfWorld). IsSoundAt r.world c.args.portal c.args.row) (sym c.self.view_is) c.requires.sound)
