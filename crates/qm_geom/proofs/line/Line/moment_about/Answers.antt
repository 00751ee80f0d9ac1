use Rattle.std.proofs.Common.{◌≡◌, ◌≤◌, ◌*◌, ◌^◌, ◌*ℤ◌, ◌∙◌, ℤ, ap₂, sym, subst, lit≤, unsigned_abs}
use Rattle.qm_space.specs.CommonLine.{moment_about}
use Rattle.qm_numbers.proofs.Kept.{factors_small, factors_answered, first_two_fit, three_fit, three_is, three_size}
use Rattle.qm_geom.proofs.line.Line.moment_about.Goals as goal

pub times-of_x-requires : goal.times-of_x-requires
times-of_x-requires c =
    factors_small c.self.inside.along.x c.other.inside.moment_x (2 ^ 53) (2 ^ 71) (2 ^ 124) c.self.invariant.along_x c.other.invariant.moment_x (lit≤ tt) (lit≤ tt) (lit≤ tt)

pub times-of_y-requires : goal.times-of_y-requires
times-of_y-requires c =
    factors_small c.self.inside.along.y c.other.inside.moment_y (2 ^ 53) (2 ^ 71) (2 ^ 124) c.self.invariant.along_y c.other.invariant.moment_y (lit≤ tt) (lit≤ tt) (lit≤ tt)

pub times-of_z-requires : goal.times-of_z-requires
times-of_z-requires c =
    factors_small c.self.inside.along.z c.other.inside.moment_z (2 ^ 53) (2 ^ 71) (2 ^ 124) c.self.invariant.along_z c.other.invariant.moment_z (lit≤ tt) (lit≤ tt) (lit≤ tt)

of_x_is : (c : goal.After-times-of_z) → c.times-of_x.result ≡ c.self.inside.along.x *ℤ c.other.inside.moment_x
of_x_is c =
    factors_answered c.times-of_x.result c.self.inside.along.x c.other.inside.moment_x (2 ^ 53) (2 ^ 71) c.self.invariant.along_x c.other.invariant.moment_x (lit≤ tt) (lit≤ tt) c.times-of_x.ensures.exact

of_y_is : (c : goal.After-times-of_z) → c.times-of_y.result ≡ c.self.inside.along.y *ℤ c.other.inside.moment_y
of_y_is c =
    factors_answered c.times-of_y.result c.self.inside.along.y c.other.inside.moment_y (2 ^ 53) (2 ^ 71) c.self.invariant.along_y c.other.invariant.moment_y (lit≤ tt) (lit≤ tt) c.times-of_y.ensures.exact

of_z_is : (c : goal.After-times-of_z) → c.times-of_z.result ≡ c.self.inside.along.z *ℤ c.other.inside.moment_z
of_z_is c =
    factors_answered c.times-of_z.result c.self.inside.along.z c.other.inside.moment_z (2 ^ 53) (2 ^ 71) c.self.invariant.along_z c.other.invariant.moment_z (lit≤ tt) (lit≤ tt) c.times-of_z.ensures.exact

pub overflow_add-result : goal.overflow_add-result
overflow_add-result c =
    first_two_fit c.times-of_x.result c.times-of_y.result (2 ^ 124) c.times-of_x.ensures.size c.times-of_y.ensures.size (lit≤ tt)

pub overflow_add-result-2 : goal.overflow_add-result-2
overflow_add-result-2 c =
    three_fit c.times-of_x.result c.times-of_y.result c.times-of_z.result (2 ^ 124) c.times-of_x.ensures.size c.times-of_y.ensures.size c.times-of_z.ensures.size (lit≤ tt)

pub returns-clause-exact : goal.returns-clause-exact
unfolding moment_about
returns-clause-exact c =
    three_is c.times-of_x.result c.times-of_y.result c.times-of_z.result (2 ^ 124) c.times-of_x.ensures.size c.times-of_y.ensures.size c.times-of_z.ensures.size (lit≤ tt)
    ∙ cc (of_x_is c, of_y_is c, of_z_is c) ∙ ap₂ moment_about c.self.view_is c.other.view_is

pub returns-clause-size : goal.returns-clause-size
returns-clause-size c =
    subst (λ (z : ℤ). unsigned_abs z ≤ 3 * 2 ^ 124)
    (sym (three_is c.times-of_x.result c.times-of_y.result c.times-of_z.result (2 ^ 124) c.times-of_x.ensures.size c.times-of_y.ensures.size c.times-of_z.ensures.size (lit≤ tt)))
    (three_size c.times-of_x.result c.times-of_y.result c.times-of_z.result (2 ^ 124) c.times-of_x.ensures.size c.times-of_y.ensures.size c.times-of_z.ensures.size)
