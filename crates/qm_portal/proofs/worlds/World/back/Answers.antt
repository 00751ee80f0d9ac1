use Rattle.std.proofs.Common.{◌+◌, ◌-◌, refl, subst, inl, inr, arith}
use Rattle.qm_contacts.specs.OwnPortals.{HasOwnPortals}
use Rattle.qm_contacts.proofs.WaysBack.{leads_back, back_within}
use Rattle.qm_portal.proofs.worlds.World.back.Goals as goal

pub returns-then-p-eq0-clause-back : goal.returns-then-p-eq0-clause-back
returns-then-p-eq0-clause-back c =
    let world = c.args.self.now in
    leads_back world.tree world.portals (subst HasOwnPortals c.self.view_is c.self.invariant.0.own) c.args.p (c.args.p + 1) c.requires (inl (c.if-p-eq0.true, refl))

pub returns-then-p-eq0-clause-within : goal.returns-then-p-eq0-clause-within
returns-then-p-eq0-clause-within c = back_within c.args.self.now.portals c.args.p (c.args.p + 1) (returns-then-p-eq0-clause-back c)

pub returns-else-p-eq0-clause-back : goal.returns-else-p-eq0-clause-back
returns-else-p-eq0-clause-back c =
    let world = c.args.self.now in
    let odd = c.if-p-eq0.false in
    leads_back world.tree world.portals (subst HasOwnPortals c.self.view_is c.self.invariant.0.own) c.args.p (c.args.p - 1) c.requires (inr (omega (arith, odd), refl))
