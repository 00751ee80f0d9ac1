use Rattle.std.proofs.Common.{◌≡◌, ◌∙◌, ap, lit≤, unsigned_abs, arith, w64}
use Rattle.std.proofs.lemmas.Int.{to_z-of_z}
use Rattle.qm_numbers.specs.Gcd.{gcd}
use Rattle.qm_numbers.proofs.Kept.{fits_64}
use Rattle.qm_narrow.proofs.Halves.{gcd_at_most}
use Rattle.qm_narrow.proofs.LowestNormals.{factor_in_turn}
use Rattle.qm_narrow.proofs.lowest.factor_of.Goals as goal
use Rattle.qm_narrow.proofs.lowest.factor_of.Goals.{After-divisor_by_halves}

x_is : (c : After-divisor_by_halves) → c.unsigned_abs.result ≡ unsigned_abs c.args.normal.now.x
x_is c = c.unsigned_abs.ensures.value ∙ ap unsigned_abs (to_z-of_z w64 c.args.normal.now.x (fits_64 c.args.normal.now.x _ c.requires.x_small (lit≤ tt)))

y_is : (c : After-divisor_by_halves) → c.unsigned_abs-2.result ≡ unsigned_abs c.args.normal.now.y
y_is c = c.unsigned_abs-2.ensures.value ∙ ap unsigned_abs (to_z-of_z w64 c.args.normal.now.y (fits_64 c.args.normal.now.y _ c.requires.y_small (lit≤ tt)))

z_is : (c : After-divisor_by_halves) → c.unsigned_abs-3.result ≡ unsigned_abs c.args.normal.now.z
z_is c = c.unsigned_abs-3.ensures.value ∙ ap unsigned_abs (to_z-of_z w64 c.args.normal.now.z (fits_64 c.args.normal.now.z _ c.requires.z_small (lit≤ tt)))

pub returns-clause-value : goal.returns-clause-value
returns-clause-value c =
    let two : c.divisor_by_halves-of_two.result ≡ gcd (unsigned_abs c.args.normal.now.x) (unsigned_abs c.args.normal.now.y) = c.divisor_by_halves-of_two.ensures ∙ (λ i. gcd (x_is c i) (y_is c i)) in
    c.divisor_by_halves.ensures ∙ (λ i. gcd (two i) (z_is c i)) ∙ factor_in_turn c.args.normal.now

pub returns-clause-size : goal.returns-clause-size
returns-clause-size c =
    let e = c.divisor_by_halves.ensures in let f = c.divisor_by_halves-of_two.ensures in
    let a = gcd_at_most c.divisor_by_halves-of_two.result c.unsigned_abs-3.result in let b = gcd_at_most c.unsigned_abs.result c.unsigned_abs-2.result in
    let x = x_is c in let y = y_is c in let z = z_is c in
    let x_small = c.requires.x_small in let y_small = c.requires.y_small in let z_small = c.requires.z_small in
    omega arith
