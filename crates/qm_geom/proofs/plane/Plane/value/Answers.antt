use Rattle.std.proofs.Common.{rules, ◌*◌, ◌^◌, FitsSigned, ap, lit≤, w64}
use Rattle.qm_numbers.proofs.Kept.{apart_fits}
use Rattle.qm_geom.proofs.Vectors.{HasSmallComponents-more, value_at_point}
use Rattle.qm_geom.proofs.plane.Plane.value.Goals as goal

pub dot-along-requires : goal.dot-along-requires
dot-along-requires c = HasSmallComponents-more c.normal.result (2 ^ 26) (2 ^ 53) c.normal.ensures.size (lit≤ tt)

pub overflow_sub-result : goal.overflow_sub-result
overflow_sub-result c =
    apart_fits c.dot-along.result c.product.result (3 * 2 ^ 116) (2 ^ 126) c.dot-along.ensures.size c.product.ensures.size (lit≤ tt)

pub returns : goal.returns
returns c =
    let fx : FitsSigned w64 c.at.inside.x = search rules in
    let fy : FitsSigned w64 c.at.inside.y = search rules in
    let fz : FitsSigned w64 c.at.inside.z = search rules in
    let fw : FitsSigned w64 c.at.inside.w = search rules in
    let fd : FitsSigned w64 c.self.inside.d = search rules in
    value_at_point c.args.self.now c.args.at.now c.normal.result c.at.inside.x c.at.inside.y c.at.inside.z c.at.inside.w c.self.inside.d c.dot-along.result c.product.result
    c.normal.ensures.exact c.at.view_is (ap (λ h. h.d) c.self.view_is) fx fy fz fw fd c.dot-along.ensures.exact c.product.ensures.exact c.dot-along.ensures.size c.product.ensures.size
