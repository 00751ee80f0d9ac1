use Rattle.std.proofs.Common.{◌≡◌, ◌≤◌, ◌^◌, ◌-ℤ◌, ◌*ℤ◌, ◌∙◌, ℤ, sym, subst, lit≤, unsigned_abs}
use Rattle.qm_numbers.proofs.Kept.{mixed_first, mixed_second, mixed_size, mixed_apart_size, apart_fits, apart_is}
use Rattle.qm_geom.proofs.line.moment.Goals as goal

first_is : (c : goal.After-product-2) → c.product.result ≡ c.args.first *ℤ c.args.second_distance
first_is c =
    mixed_first c.product.result c.from.result c.args.first c.args.second_distance c.from.ensures c.requires.first_small c.requires.second_distance_small c.product.ensures.exact

second_is : (c : goal.After-product-2) → c.product-2.result ≡ c.args.first_distance *ℤ c.args.second
second_is c =
    mixed_second c.product-2.result c.from-2.result c.args.second c.args.first_distance c.from-2.ensures c.requires.second_small c.requires.first_distance_small c.product-2.ensures.exact

first_small : (c : goal.After-product-2) → unsigned_abs c.product.result ≤ 2 ^ 70
first_small c =
    subst (λ (z : ℤ). unsigned_abs z ≤ 2 ^ 70) (sym (first_is c)) (mixed_size c.args.first c.args.second_distance c.requires.first_small c.requires.second_distance_small).0

second_small : (c : goal.After-product-2) → unsigned_abs c.product-2.result ≤ 2 ^ 70
second_small c =
    subst (λ (z : ℤ). unsigned_abs z ≤ 2 ^ 70) (sym (second_is c)) (mixed_size c.args.second c.args.first_distance c.requires.second_small c.requires.first_distance_small).1

pub overflow_sub-result : goal.overflow_sub-result
overflow_sub-result c = apart_fits c.product.result c.product-2.result (2 ^ 70) (2 ^ 70) (first_small c) (second_small c) (lit≤ tt)

pub returns-clause-exact : goal.returns-clause-exact
returns-clause-exact c =
    apart_is c.product.result c.product-2.result (2 ^ 70) (2 ^ 70) (first_small c) (second_small c) (lit≤ tt)
    ∙ (λ i. first_is c i -ℤ second_is c i)

pub returns-clause-size : goal.returns-clause-size
returns-clause-size c =
    subst (λ (z : ℤ). unsigned_abs z ≤ 2 ^ 71) (sym (returns-clause-exact c))
    (mixed_apart_size c.args.first c.args.second_distance c.args.first_distance c.args.second c.requires.first_small c.requires.second_distance_small c.requires.first_distance_small c.requires.second_small)
