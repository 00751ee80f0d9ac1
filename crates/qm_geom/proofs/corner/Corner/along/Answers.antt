use Rattle.std.proofs.Common.{◌≡◌, ◌≤◌, ◌*◌, ◌^◌, ◌*ℤ◌, ◌∙◌, ℤ, sym, subst, lit≤, unsigned_abs}
use Rattle.qm_geom.specs.Vectors.{dot}
use Rattle.qm_numbers.proofs.Kept.{factors_small, factors_answered, first_two_fit, three_fit, three_is, three_size}
use Rattle.qm_geom.proofs.corner.Corner.along.Goals as goal

pub times-of_x-requires : goal.times-of_x-requires
times-of_x-requires c =
    factors_small c.args.normal.now.x c.self.inside.x (2 ^ 26) (3 * 2 ^ 97) (3 * 2 ^ 123) c.requires.x_small c.self.invariant.sizes.x_small (lit≤ tt) (lit≤ tt) (lit≤ tt)

pub times-of_y-requires : goal.times-of_y-requires
times-of_y-requires c =
    factors_small c.args.normal.now.y c.self.inside.y (2 ^ 26) (3 * 2 ^ 97) (3 * 2 ^ 123) c.requires.y_small c.self.invariant.sizes.y_small (lit≤ tt) (lit≤ tt) (lit≤ tt)

pub times-of_z-requires : goal.times-of_z-requires
times-of_z-requires c =
    factors_small c.args.normal.now.z c.self.inside.z (2 ^ 26) (3 * 2 ^ 97) (3 * 2 ^ 123) c.requires.z_small c.self.invariant.sizes.z_small (lit≤ tt) (lit≤ tt) (lit≤ tt)

of_x_is : (c : goal.After-times-of_z) → c.times-of_x.result ≡ c.args.normal.now.x *ℤ c.self.inside.x
of_x_is c =
    factors_answered c.times-of_x.result c.args.normal.now.x c.self.inside.x (2 ^ 26) (3 * 2 ^ 97) c.requires.x_small c.self.invariant.sizes.x_small (lit≤ tt) (lit≤ tt) c.times-of_x.ensures.exact

of_y_is : (c : goal.After-times-of_z) → c.times-of_y.result ≡ c.args.normal.now.y *ℤ c.self.inside.y
of_y_is c =
    factors_answered c.times-of_y.result c.args.normal.now.y c.self.inside.y (2 ^ 26) (3 * 2 ^ 97) c.requires.y_small c.self.invariant.sizes.y_small (lit≤ tt) (lit≤ tt) c.times-of_y.ensures.exact

of_z_is : (c : goal.After-times-of_z) → c.times-of_z.result ≡ c.args.normal.now.z *ℤ c.self.inside.z
of_z_is c =
    factors_answered c.times-of_z.result c.args.normal.now.z c.self.inside.z (2 ^ 26) (3 * 2 ^ 97) c.requires.z_small c.self.invariant.sizes.z_small (lit≤ tt) (lit≤ tt) c.times-of_z.ensures.exact

pub overflow_add-result : goal.overflow_add-result
overflow_add-result c =
    first_two_fit c.times-of_x.result c.times-of_y.result (3 * 2 ^ 123) c.times-of_x.ensures.size c.times-of_y.ensures.size (lit≤ tt)

pub overflow_add-result-2 : goal.overflow_add-result-2
overflow_add-result-2 c =
    three_fit c.times-of_x.result c.times-of_y.result c.times-of_z.result (3 * 2 ^ 123) c.times-of_x.ensures.size c.times-of_y.ensures.size c.times-of_z.ensures.size (lit≤ tt)

pub returns-clause-exact : goal.returns-clause-exact
unfolding dot
returns-clause-exact c =
    rw (← c.self.view_is)
    (three_is c.times-of_x.result c.times-of_y.result c.times-of_z.result (3 * 2 ^ 123) c.times-of_x.ensures.size c.times-of_y.ensures.size c.times-of_z.ensures.size (lit≤ tt)
    ∙ cc (of_x_is c, of_y_is c, of_z_is c))

pub returns-clause-size : goal.returns-clause-size
returns-clause-size c =
    subst (λ (z : ℤ). unsigned_abs z ≤ 9 * 2 ^ 123)
    (sym (three_is c.times-of_x.result c.times-of_y.result c.times-of_z.result (3 * 2 ^ 123) c.times-of_x.ensures.size c.times-of_y.ensures.size c.times-of_z.ensures.size (lit≤ tt)))
    (three_size c.times-of_x.result c.times-of_y.result c.times-of_z.result (3 * 2 ^ 123) c.times-of_x.ensures.size c.times-of_y.ensures.size c.times-of_z.ensures.size)
