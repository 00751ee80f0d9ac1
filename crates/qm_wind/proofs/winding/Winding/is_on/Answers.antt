use Rattle.std.proofs.Common.{◌∙◌, ap, subst}
use Rattle.qm_space.specs.Reduced.{IsReduced}
use Rattle.qm_convex.specs.Winding.{IsConvex}
use Rattle.qm_wind.proofs.Beside.{is_same, on_by_first, on_by_second}
use Rattle.qm_wind.proofs.winding.Winding.is_on.Goals as goal

pub returns-then-eq : goal.returns-then-eq
returns-then-eq c =
    on_by_first c.args.self.now c.plane-own.result c.args.plane.now (subst IsConvex c.self.view_is c.self.invariant.in_world.convex)
    (c.plane-own.ensures ∙ ap (λ v. v.plane) c.self.view_is) (subst IsReduced c.own.view_is c.own.invariant) (subst IsReduced c.plane.view_is c.plane.invariant)
    c.eq.result c.if-eq.true c.eq.ensures

pub returns-else-eq : goal.returns-else-eq
returns-else-eq c =
    on_by_second c.args.self.now c.plane-own.result c.args.plane.now (subst IsConvex c.self.view_is c.self.invariant.in_world.convex)
    (c.plane-own.ensures ∙ ap (λ v. v.plane) c.self.view_is) (subst IsReduced c.own.view_is c.own.invariant) (subst IsReduced c.plane.view_is c.plane.invariant)
    c.eq.result c.eq-else-eq.result c.if-eq.false c.eq.ensures (c.eq-else-eq.ensures ∙ ap (is_same c.plane-own.result) c.flipped.ensures)
