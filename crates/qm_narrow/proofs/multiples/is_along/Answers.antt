use Rattle.std.proofs.Common.{pos, ◌*ℤ◌, refl, ap, subst, ◌∙◌, ◌≡◌}
use Rattle.std.specs.Prelude.{int_lt}
use Rattle.qm_space.specs.Plane.{Plane}
use Rattle.qm_geom.specs.declared.vector.Vector.{Vector}
use Rattle.qm_narrow.proofs.KeptNormals.{signs_kept}
use Rattle.qm_narrow.proofs.multiples.is_along.Goals as goal

pub returns : goal.returns
returns c = λ is.
    let n = c.args.normal.now in
    let other = c.normal.ensures.exact in
    record {
      xy = subst (λ (v : Vector). n.x *ℤ v.y ≡ n.y *ℤ v.x) other (c.if-not-is_multiple.ensures.xy refl);
      yz = subst (λ (v : Vector). n.y *ℤ v.z ≡ n.z *ℤ v.y) other (c.if-not-is_multiple.ensures.yz refl);
      zx = subst (λ (v : Vector). n.z *ℤ v.x ≡ n.x *ℤ v.z) other (c.if-not-is_multiple.ensures.zx refl);
      x_sign = signs_kept n.x c.plane.inside.nx c.requires.x_small c.plane.invariant.nx_small (c.if-not-are_alike.ensures refl) ∙ ap (λ (h : Plane). int_lt h.nx (pos 0)) c.plane.view_is;
      y_sign = signs_kept n.y c.plane.inside.ny c.requires.y_small c.plane.invariant.ny_small (c.if-not-are_alike-2.ensures refl) ∙ ap (λ (h : Plane). int_lt h.ny (pos 0)) c.plane.view_is;
      z_sign = signs_kept n.z c.plane.inside.nz c.requires.z_small c.plane.invariant.nz_small (c.are_alike-2.ensures is) ∙ ap (λ (h : Plane). int_lt h.nz (pos 0)) c.plane.view_is;
    }
