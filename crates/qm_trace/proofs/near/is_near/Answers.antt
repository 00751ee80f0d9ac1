use Rattle.std.proofs.Common.{rules, ◌≡◌, FitsSigned, w64, ap, ◌∙◌, unsigned_abs, subst, sym}
use Rattle.std.proofs.lemmas.Int.{to_z-of_z}
use Rattle.qm_space.specs.Plane.{Plane}
use Rattle.qm_space.specs.Reduced.{IsReduced}
use Rattle.qm_spans.proofs.TracedValues.{plane_of_node, meeting_is_near, near_test}
use Rattle.qm_trace.proofs.near.is_near.Goals as goal
use Rattle.qm_trace.proofs.near.is_near.Goals.{After-unsigned_abs}

-- what is tested is the plane's distance
size_is : (c : After-unsigned_abs) → c.unsigned_abs.result ≡ unsigned_abs c.plane-plane.result.d
size_is c =
    let fd : FitsSigned w64 c.plane.inside.d = search rules in
    c.unsigned_abs.ensures.value ∙ ap unsigned_abs (to_z-of_z w64 c.plane.inside.d fd) ∙ ap (λ (h : Plane). unsigned_abs h.d) c.plane.view_is

pub returns-clause-value : goal.returns-clause-value
returns-clause-value c =
    let w = (goal.at.returns-clause-value c).After-unsigned_abs in
    let is = plane_of_node c.args.tree.now c.args.n c.node-node.result c.plane-plane.result c.node-node.ensures.value c.plane-plane.ensures.value in
    near_test c.args.tree.now c.args.n c.unsigned_abs.result c.plane-plane.result is (size_is w)

pub returns-clause-near : goal.returns-clause-near
returns-clause-near c =
    let w = (goal.at.returns-clause-near c).After-unsigned_abs in
    let is = plane_of_node c.args.tree.now c.args.n c.node-node.result c.plane-plane.result c.node-node.ensures.value c.plane-plane.ensures.value in
    let reduced = subst IsReduced (sym is) c.plane-plane.ensures.reduced in
    λ meets. (near_test c.args.tree.now c.args.n c.unsigned_abs.result c.plane-plane.result is (size_is w)).1 (meeting_is_near c.args.tree.now _ reduced meets)
