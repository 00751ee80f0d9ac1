use Rattle.std.proofs.Common.{◌≤◌, ◌*◌, ◌*ℤ◌, w64, lit≤, ℤ, sym, subst, unsigned_abs}
use Rattle.qm_numbers.proofs.Kept.{product_fits, product_kept, fits_64}
use Rattle.qm_numbers.proofs.Signs.{abs_product_bound}
use Rattle.qm_space.specs.Bounds.{normal_bound, whole_normal_bound}
use Rattle.qm_narrow.proofs.multiples.product.Goals as goal

many : (a b : ℤ) → unsigned_abs a ≤ whole_normal_bound → unsigned_abs b ≤ normal_bound → unsigned_abs (a *ℤ b) ≤ whole_normal_bound * normal_bound
many a b h k = abs_product_bound a b whole_normal_bound normal_bound h k

pub overflow_mul-result : goal.overflow_mul-result
overflow_mul-result c =
    product_fits w64 c.args.first c.args.second (fits_64 c.args.first whole_normal_bound c.requires.first_small (lit≤ tt)) (fits_64 c.args.second normal_bound c.requires.second_small (lit≤ tt))
    (fits_64 (c.args.first *ℤ c.args.second) (whole_normal_bound * normal_bound) (many c.args.first c.args.second c.requires.first_small c.requires.second_small) (lit≤ tt))

pub returns-clause-exact : goal.returns-clause-exact
returns-clause-exact c =
    product_kept w64 c.args.first c.args.second (fits_64 c.args.first whole_normal_bound c.requires.first_small (lit≤ tt)) (fits_64 c.args.second normal_bound c.requires.second_small (lit≤ tt))
    (fits_64 (c.args.first *ℤ c.args.second) (whole_normal_bound * normal_bound) (many c.args.first c.args.second c.requires.first_small c.requires.second_small) (lit≤ tt))

pub returns-clause-size : goal.returns-clause-size
returns-clause-size c = subst (λ (z : ℤ). unsigned_abs z ≤ whole_normal_bound * normal_bound) (sym (returns-clause-exact c)) (many c.args.first c.args.second c.requires.first_small c.requires.second_small)
