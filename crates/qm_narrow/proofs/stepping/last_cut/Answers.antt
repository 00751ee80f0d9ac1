use Rattle.std.proofs.Common.{◌∙◌, Option, Some, subst}
use Rattle.qm_space.specs.Plane.{Plane}
use Rattle.qm_convex.specs.Winding.{Winding}
use Rattle.qm_convex.specs.Sides.{IsWhollyInFront}
use Rattle.qm_separators.specs.Separator.{IsSeparatorFrom}
use Rattle.qm_narrow.proofs.Steps.{whole_end}
use Rattle.qm_narrow.proofs.stepping.last_cut.Goals as goal

pub returns-then-is_seen_whole : goal.returns-then-is_seen_whole
returns-then-is_seen_whole c =
    whole_end c.args.state.now c.args.near c.args.pass c.of.result c.len-corners.ensures.in_world.convex
    (subst (λ (last : Option Winding). (h : Plane) → IsSeparatorFrom last c.args.pass h → IsWhollyInFront c.args.near h) c.pass.ensures.value
    (subst (λ (v : Winding). (h : Plane) → IsSeparatorFrom c.pass.result.now v h → IsWhollyInFront c.args.near h) c.in_ok-pass.ensures
    (c.is_seen_whole.ensures c.if-is_seen_whole.true)))
    (c.of.ensures ∙ (λ i. record { source = c.args.near; into = c.into.ensures.value i; pass = Some (c.in_ok-pass.ensures i) }))
