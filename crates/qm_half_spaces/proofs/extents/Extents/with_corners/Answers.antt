use Rattle.std.proofs.Common.{pos, ◌<ℤ◌, sym, subst, arith}
use Rattle.qm_space.specs.Point.{Point}
use Rattle.qm_space.specs.Cuboid.{IsInCuboid}
use Rattle.qm_facets.specs.inner.Joined.{IsJoined}
use Rattle.qm_facets.proofs.JoinedCorners.{no_corners, corner_more, all_corners}
use Rattle.qm_half_spaces.proofs.extents.Extents.with_corners.Goals as goal

pub loop-i-init : goal.loop-i-init
loop-i-init c = no_corners c.args.self c.args.winding.now

pub with_corner-extents-requires-clause-weight : goal.with_corner-extents-requires-clause-weight
with_corner-extents-requires-clause-weight c =
    subst (λ (p : Point). pos 0 <ℤ p.w) (sym c.corner.ensures.exact)
    (c.len-i-end.ensures.in_world.convex.weight c.loop-i.i (let n = c.len-i-end.ensures.count in let t = c.loop-i-test.true in omega (arith, n, t)))

pub loop-i-preserved : goal.loop-i-preserved
loop-i-preserved c =
    corner_more c.args.self c.loop-i.extents c.with_corner-extents.result c.args.winding.now c.loop-i.i c.len-i-end.ensures.in_world.convex
    (let n = c.len-i-end.ensures.count in let t = c.loop-i-test.true in omega (arith, n, t)) c.loop-i.invariant
    (subst (λ (p : Point). IsJoined c.loop-i.extents (λ d. IsInCuboid d p) c.with_corner-extents.result) c.corner.ensures.exact c.with_corner-extents.ensures)

pub returns : goal.returns
returns c =
    all_corners c.args.self c.loop-i.extents c.args.winding.now c.loop-i.i (λ more. let n = c.len-i-end.ensures.count in let t = c.loop-i-test.false in omega (arith, n, t, more))
    c.loop-i.invariant (let n = c.len-i-end.ensures.count in let a = c.loop-i.auto.i-end in omega (arith, n, a))
