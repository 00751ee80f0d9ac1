use Rattle.std.proofs.Common.{◌≡◌, pos, ◌<ℤ◌, true, false, sym, ap, ◌∙◌, subst, All}
use Rattle.qm_space.specs.Plane.{Plane}
use Rattle.qm_convex.specs.Winding.{Winding}
use Rattle.qm_lines.specs.inner.Crossing.{value_where, CrossesPlane}
use Rattle.qm_lines.proofs.Crossings.{crosses_there, misses_edges}
use Rattle.qm_lines.proofs.crossing.crossing_of.Goals as goal

pub returns-then-not-is_within : goal.returns-then-not-is_within
returns-then-not-is_within c =
    let s = c.args.line.now in
    let pane = c.pane-pane.ensures in
    let crossing = c.in_ok-crossing.crossing in
    let edges_are = c.edges.ensures ∙ ap (λ (w : Winding). w.edges) pane.2 in
    misses_edges c.args.world.now c.requires.own_portals c.args.portal pane.0 pane.1 s crossing (subst (λ (h : Plane). CrossesPlane h s crossing) pane.3 c.in_ok-crossing.ensures)
    (λ inside.
    let within : c.is_within.result ≡ true = c.is_within.ensures.1 (subst (All (λ g. pos 0 <ℤ value_where crossing s g)) (sym edges_are) inside) in
    let never : false ≡ true = sym c.if-not-is_within.true ∙ within in
    cc)

pub returns : goal.returns
returns c =
    let s = c.args.line.now in
    let pane = c.pane-pane.ensures in
    let crossing = c.in_ok-crossing.crossing in
    let edges_are = c.edges.ensures ∙ ap (λ (w : Winding). w.edges) pane.2 in
    crosses_there c.args.world.now c.requires.own_portals c.args.portal pane.0 pane.1 s crossing (subst (λ (h : Plane). CrossesPlane h s crossing) pane.3 c.in_ok-crossing.ensures)
    (subst (All (λ g. pos 0 <ℤ value_where crossing s g)) edges_are (c.is_within.ensures.0 c.if-not-is_within.false))
