use Rattle.std.proofs.Common.{rules, FitsSigned, w64, Bool, true, false, ◌≡◌, ◌∙◌, sym}
use Rattle.qm_geom.proofs.Extents.{in_cube_from}
use Rattle.qm_geom.proofs.point.Point.is_in_cube.Goals as goal
use Rattle.qm_geom.proofs.point.Point.is_in_cube.Goals.{then-is_within_extent, else-is_within_extent}

not_both : (b : Bool) → b ≡ true → b ≡ false → ⊥
not_both b e f = cc

pub returns-then-is_within_extent-2 : goal.returns-then-is_within_extent-2
returns-then-is_within_extent-2 c =
    let fx : FitsSigned w64 c.self.inside.x = search rules in
    let fy : FitsSigned w64 c.self.inside.y = search rules in
    let fz : FitsSigned w64 c.self.inside.z = search rules in
    let fw : FitsSigned w64 c.self.inside.w = search rules in
    let t = c.if-is_within_extent-2.true in
    elim c.if-is_within_extent.branch [
      | then-is_within_extent w ↦
          in_cube_from c.args.self.now _ _ _ _ c.self.view_is fx fy fz fw c.self.invariant _ (c.is_within_extent.ensures.0 w.if-is_within_extent.true) (w.is_within_extent-then-is_within_extent.ensures.0 (sym w.value-is ∙ t)) c.is_within_extent-then-is_within_extent-2.ensures
      | else-is_within_extent w ↦ absurd (not_both _ t (w.value-is ∙ w.if-is_within_extent.false))
    ]
