use Rattle.std.proofs.Common.{◌≤◌, ℤ, sym, subst, unsigned_abs}
use Rattle.qm_narrow.specs.inner.Turn.{size_bound}
use Rattle.qm_narrow.proofs.KeptSizes.{sizes_fit, sizes_kept, sizes_small, within_kept}
use Rattle.qm_narrow.proofs.sizes.size_of.Goals as goal

pub overflow_add-result-2 : goal.overflow_add-result-2
overflow_add-result-2 c = sizes_fit c.size-of_x.result c.size-of_y.result c.size-of_z.result c.size-of_x.ensures.small c.size-of_y.ensures.small c.size-of_z.ensures.small

pub returns-clause-exact : goal.returns-clause-exact
returns-clause-exact c = record {
  of_x = c.size-of_x.result;
  of_y = c.size-of_y.result;
  of_z = c.size-of_z.result;
  x = within_kept c.args.vector.now.x c.size-of_x.result c.requires.x_small c.size-of_x.ensures.exact;
  y = within_kept c.args.vector.now.y c.size-of_y.result c.requires.y_small c.size-of_y.ensures.exact;
  z = within_kept c.args.vector.now.z c.size-of_z.result c.requires.z_small c.size-of_z.ensures.exact;
  sum = sym (sizes_kept c.size-of_x.result c.size-of_y.result c.size-of_z.result c.size-of_x.ensures.small c.size-of_y.ensures.small c.size-of_z.ensures.small);
}

pub returns-clause-small : goal.returns-clause-small
returns-clause-small c = subst (λ (z : ℤ). unsigned_abs z ≤ size_bound) (sym (sizes_kept c.size-of_x.result c.size-of_y.result c.size-of_z.result c.size-of_x.ensures.small c.size-of_y.ensures.small c.size-of_z.ensures.small)) (sizes_small c.size-of_x.result c.size-of_y.result c.size-of_z.result c.size-of_x.ensures.small c.size-of_y.ensures.small c.size-of_z.ensures.small)
