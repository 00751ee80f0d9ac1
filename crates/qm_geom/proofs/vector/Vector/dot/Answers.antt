use Rattle.std.proofs.Common.{rules, ◌≡◌, ◌≤◌, ◌*◌, ◌^◌, ◌*ℤ◌, ◌∙◌, ℤ, FitsSigned, w64, sym, subst, lit≤, unsigned_abs}
use Rattle.qm_geom.specs.Vectors.{dot}
use Rattle.qm_numbers.proofs.Kept.{product_answered, product_size, first_two_fit, three_fit, three_is, three_size}
use Rattle.qm_geom.proofs.vector.Vector.dot.Goals as goal

of_x_is : (c : goal.After-product-of_z) → c.product-of_x.result ≡ c.args.self.now.x *ℤ c.args.other.now.x
of_x_is c =
    let f : FitsSigned w64 c.args.self.now.x = search rules in let g : FitsSigned w64 c.args.other.now.x = search rules in
    product_answered w64 c.product-of_x.result c.args.self.now.x c.args.other.now.x f g c.product-of_x.ensures.exact

of_y_is : (c : goal.After-product-of_z) → c.product-of_y.result ≡ c.args.self.now.y *ℤ c.args.other.now.y
of_y_is c =
    let f : FitsSigned w64 c.args.self.now.y = search rules in let g : FitsSigned w64 c.args.other.now.y = search rules in
    product_answered w64 c.product-of_y.result c.args.self.now.y c.args.other.now.y f g c.product-of_y.ensures.exact

of_z_is : (c : goal.After-product-of_z) → c.product-of_z.result ≡ c.args.self.now.z *ℤ c.args.other.now.z
of_z_is c =
    let f : FitsSigned w64 c.args.self.now.z = search rules in let g : FitsSigned w64 c.args.other.now.z = search rules in
    product_answered w64 c.product-of_z.result c.args.self.now.z c.args.other.now.z f g c.product-of_z.ensures.exact

of_x_small : (c : goal.After-product-of_z) → unsigned_abs c.product-of_x.result ≤ 2 ^ 116
of_x_small c =
    let g : FitsSigned w64 c.args.other.now.x = search rules in
    product_size c.product-of_x.result c.args.self.now.x c.args.other.now.x g c.requires.x_small (of_x_is c)

of_y_small : (c : goal.After-product-of_z) → unsigned_abs c.product-of_y.result ≤ 2 ^ 116
of_y_small c =
    let g : FitsSigned w64 c.args.other.now.y = search rules in
    product_size c.product-of_y.result c.args.self.now.y c.args.other.now.y g c.requires.y_small (of_y_is c)

of_z_small : (c : goal.After-product-of_z) → unsigned_abs c.product-of_z.result ≤ 2 ^ 116
of_z_small c =
    let g : FitsSigned w64 c.args.other.now.z = search rules in
    product_size c.product-of_z.result c.args.self.now.z c.args.other.now.z g c.requires.z_small (of_z_is c)

pub overflow_add-result : goal.overflow_add-result
overflow_add-result c =
    first_two_fit c.product-of_x.result c.product-of_y.result (2 ^ 116) (of_x_small c) (of_y_small c) (lit≤ tt)

pub overflow_add-result-2 : goal.overflow_add-result-2
overflow_add-result-2 c =
    three_fit c.product-of_x.result c.product-of_y.result c.product-of_z.result (2 ^ 116) (of_x_small c) (of_y_small c) (of_z_small c) (lit≤ tt)

pub returns-clause-exact : goal.returns-clause-exact
unfolding dot
returns-clause-exact c =
    three_is c.product-of_x.result c.product-of_y.result c.product-of_z.result (2 ^ 116) (of_x_small c) (of_y_small c) (of_z_small c) (lit≤ tt)
    ∙ cc (of_x_is c, of_y_is c, of_z_is c)

pub returns-clause-size : goal.returns-clause-size
returns-clause-size c =
    subst (λ (z : ℤ). unsigned_abs z ≤ 3 * 2 ^ 116)
    (sym (three_is c.product-of_x.result c.product-of_y.result c.product-of_z.result (2 ^ 116) (of_x_small c) (of_y_small c) (of_z_small c) (lit≤ tt)))
    (three_size c.product-of_x.result c.product-of_y.result c.product-of_z.result (2 ^ 116) (of_x_small c) (of_y_small c) (of_z_small c))
