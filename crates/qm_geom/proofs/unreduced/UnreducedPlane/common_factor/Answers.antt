use Rattle.std.proofs.Common.{◌≡◌, ◌∙◌, ◌<◌, ◌≤◌, ℕ, ap, lit≤, sym, subst, unsigned_abs, arith, w64}
use mir.Syntax.{w128}
use Rattle.std.proofs.lemmas.Int.{to_z-of_z}
use Rattle.qm_numbers.proofs.Divisors.{gcd_swapped}
use Rattle.qm_numbers.proofs.Kept.{fits_64, fits_128}
use Rattle.qm_space.specs.Bounds.{spanned_normal_bound}
use Rattle.qm_space.specs.Reduced.{HasNormal}
use Rattle.qm_space.specs.ThreePoints.{common_factor}
use Rattle.qm_space.proofs.ReducedPlanes.{common_factor_positive}
use Rattle.qm_geom.proofs.Vectors.{plane}
use Rattle.qm_geom.proofs.Factors.{common_factor_in_turn, normal_factor_positive, common_factor_small}
use Rattle.qm_geom.proofs.unreduced.UnreducedPlane.common_factor.Goals as goal
use Rattle.qm_geom.proofs.unreduced.UnreducedPlane.common_factor.Goals.{After-unsigned_abs-4}

nx_is : (c : After-unsigned_abs-4) → c.unsigned_abs.result ≡ unsigned_abs c.self.inside.nx
nx_is c = c.unsigned_abs.ensures.value ∙ ap unsigned_abs (to_z-of_z w64 c.self.inside.nx (fits_64 c.self.inside.nx _ c.self.invariant.nx_small (lit≤ tt)))

ny_is : (c : After-unsigned_abs-4) → c.unsigned_abs-2.result ≡ unsigned_abs c.self.inside.ny
ny_is c = c.unsigned_abs-2.ensures.value ∙ ap unsigned_abs (to_z-of_z w64 c.self.inside.ny (fits_64 c.self.inside.ny _ c.self.invariant.ny_small (lit≤ tt)))

nz_is : (c : After-unsigned_abs-4) → c.unsigned_abs-3.result ≡ unsigned_abs c.self.inside.nz
nz_is c = c.unsigned_abs-3.ensures.value ∙ ap unsigned_abs (to_z-of_z w64 c.self.inside.nz (fits_64 c.self.inside.nz _ c.self.invariant.nz_small (lit≤ tt)))

d_is : (c : After-unsigned_abs-4) → c.unsigned_abs-4.result ≡ unsigned_abs c.self.inside.d
d_is c = c.unsigned_abs-4.ensures.value ∙ ap unsigned_abs (to_z-of_z w128 c.self.inside.d (fits_128 c.self.inside.d _ c.self.invariant.d_small (lit≤ tt)))

-- the plane as its fields hold it
has_normal : (c : After-unsigned_abs-4) → HasNormal (plane c.self.inside.nx c.self.inside.ny c.self.inside.nz c.self.inside.d)
has_normal c = subst HasNormal (sym c.self.view_is) c.requires

three_positive : (c : After-unsigned_abs-4) → 0 < c.common_divisor-of_three.result
three_positive c =
    normal_factor_positive (plane c.self.inside.nx c.self.inside.ny c.self.inside.nz c.self.inside.d) c.unsigned_abs.result c.unsigned_abs-2.result c.unsigned_abs-3.result c.common_divisor-of_two.result c.common_divisor-of_three.result
    (has_normal c) c.common_divisor-of_two.ensures.value (c.common_divisor-of_three.ensures.value ∙ gcd_swapped _ _) (nx_is c) (ny_is c) (nz_is c)

pub remainder-requires : goal.remainder-requires
remainder-requires c = three_positive (goal.at.remainder-requires c).After-unsigned_abs-4

pub returns-clause-value : goal.returns-clause-value
returns-clause-value c =
    let w = (goal.at.returns-clause-value c).After-unsigned_abs-4 in
    common_factor_in_turn (plane c.self.inside.nx c.self.inside.ny c.self.inside.nz c.self.inside.d) c.unsigned_abs.result c.unsigned_abs-2.result c.unsigned_abs-3.result c.unsigned_abs-4.result c.common_divisor-of_two.result c.common_divisor-of_three.result
    c.remainder.result c.common_divisor.result
    c.common_divisor-of_two.ensures.value (c.common_divisor-of_three.ensures.value ∙ gcd_swapped _ _) c.remainder.ensures (c.common_divisor.ensures.value ∙ gcd_swapped _ _)
    (nx_is w) (ny_is w) (nz_is w) (d_is w)
    ∙ ap common_factor c.self.view_is

pub returns-clause-positive : goal.returns-clause-positive
returns-clause-positive c = subst (λ (k : ℕ). 0 < k) (sym (returns-clause-value c)) (common_factor_positive _ c.requires)

pub returns-clause-size : goal.returns-clause-size
returns-clause-size c =
    let small : common_factor (plane c.self.inside.nx c.self.inside.ny c.self.inside.nz c.self.inside.d) ≤ spanned_normal_bound =
    common_factor_small _ spanned_normal_bound (has_normal (goal.at.returns-clause-size c).After-unsigned_abs-4) (record { x = c.self.invariant.nx_small; y = c.self.invariant.ny_small; z = c.self.invariant.nz_small }) in
    let same : c.common_divisor.result ≡ common_factor (plane c.self.inside.nx c.self.inside.ny c.self.inside.nz c.self.inside.d) = returns-clause-value c ∙ sym (ap common_factor c.self.view_is) in
    omega arith
