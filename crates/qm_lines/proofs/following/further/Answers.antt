use Rattle.std.proofs.Common.{◌≡◌, ◌<ℤ◌, pos, true, false, Contains, All, ap, sym, ◌∙◌, subst}
use Rattle.qm_contacts.specs.Portals.{Portal}
use Rattle.qm_convex.specs.Winding.{Winding}
use Rattle.qm_space.specs.Plane.{Plane}
use Rattle.qm_chains.proofs.TriedPortals.{same_portal}
use Rattle.qm_lines.specs.inner.Crossing.{value_where, CrossesPlane}
use Rattle.qm_lines.proofs.Traces.{onward_through}
use Rattle.qm_lines.proofs.following.further.Goals as goal

pub returns : goal.returns
returns c =
    let portals = c.args.course.now.world.now.portals in
    let q = c.requires.leaves in
    let s = c.args.course.now.line.now in
    let crossing = c.in_ok-crossing.crossing in
    let pane = c.pane-pane.ensures in
    let to = c.to.ensures.value in
    let pane_same = same_portal portals c.args.portal pane.0 q.0 pane.1 q.1 in
    let to_is = to.2 ∙ ap (λ (r : Portal). r.to) (same_portal portals c.args.portal to.0 q.0 to.1 q.1) in
    let edges_are = c.edges.ensures ∙ ap (λ (w : Winding). w.edges) (pane.2 ∙ ap (λ (r : Portal). r.winding) pane_same) in
    onward_through c.args.course.now.world.now c.requires.own_portals s c.args.trace.now c.args.portal q.0 q.1 q.2
    (λ there. let met : c.has_met.result ≡ true = c.has_met.ensures.1 (subst (Contains c.args.trace.now.met.items) (sym to_is) there) in let never : false ≡ true = sym c.if-has_met.false ∙ met in cc)
    crossing (subst (λ (h : Plane). CrossesPlane h s crossing) (pane.3 ∙ ap (λ (r : Portal). r.into) pane_same) c.in_ok-crossing.ensures)
    (c.is_beyond.ensures.0 c.if-not-is_beyond.false)
    (subst (All (λ g. pos 0 <ℤ value_where crossing s g)) edges_are (c.is_within.ensures.0 c.if-not-is_within.false))
