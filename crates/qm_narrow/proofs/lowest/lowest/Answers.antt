use Rattle.std.proofs.Common.{◌≡◌, ◌<◌, ◌≤◌, ℕ, ℤ, arith, lit≤, sym, subst, unsigned_abs, w64, to_z, of_z}
use Rattle.std.specs.Int.{◌∣◌}
use Rattle.std.proofs.lemmas.Int.{to_z-of_z}
use Rattle.qm_numbers.proofs.Kept.{fits_64}
use Rattle.qm_space.specs.Bounds.{whole_normal_bound}
use Rattle.qm_space.specs.ThreePoints.{common_factor}
use Rattle.qm_space.proofs.ReducedPlanes.{common_factor_divides}
use Rattle.qm_narrow.specs.inner.Lowest.{level}
use Rattle.qm_narrow.proofs.LowestNormals.{none_by_zero, none_by_x, none_by_y, none_by_z, origin_is_reduced, origin_is_lowest}
use Rattle.qm_narrow.proofs.lowest.lowest.Goals as goal
use Rattle.qm_narrow.proofs.lowest.lowest.Goals.{After-quotient}

some : (c : After-quotient) → 0 < common_factor (level c.args.normal.now)
some c = let e = c.if-factor-eq0.false in let v = c.factor_of-factor.ensures.value in omega arith

pub returns-then-factor-eq0 : goal.returns-then-factor-eq0
returns-then-factor-eq0 c = none_by_zero c.args.normal.now (let e = c.if-factor-eq0.true in let v = c.factor_of-factor.ensures.value in omega arith)

pub returns-in_err-quotient : goal.returns-in_err-quotient
returns-in_err-quotient c = rw (c.from_residual.ensures) (none_by_x c.args.normal.now (some (goal.at.returns-in_err-quotient c).After-quotient) c.requires c.factor_of-factor.result c.factor_of-factor.ensures.value c.in_err-quotient.ensures)

pub returns-in_err-quotient-2 : goal.returns-in_err-quotient-2
returns-in_err-quotient-2 c = rw (c.from_residual-in_err-quotient-2.ensures) (none_by_y c.args.normal.now (some (goal.at.returns-in_err-quotient-2 c).After-quotient) c.requires c.factor_of-factor.result c.factor_of-factor.ensures.value c.in_err-quotient-2.ensures)

pub returns-in_err-quotient-3 : goal.returns-in_err-quotient-3
returns-in_err-quotient-3 c = rw (c.from_residual-in_err-quotient-3.ensures) (none_by_z c.args.normal.now (some (goal.at.returns-in_err-quotient-3 c).After-quotient) c.requires c.factor_of-factor.result c.factor_of-factor.ensures.value c.in_err-quotient-3.ensures)

pub invariant_of-result : goal.invariant_of-result
invariant_of-result c = origin_is_reduced c.args.normal.now (some (goal.at.invariant_of-result c).After-quotient) c.requires c.factor_of-factor.result c.factor_of-factor.ensures.value
    c.in_ok-quotient.field-0 c.in_ok-quotient-2.field-0 c.in_ok-quotient-3.field-0 c.in_ok-quotient.ensures c.in_ok-quotient-2.ensures c.in_ok-quotient-3.ensures

pub returns : goal.returns
returns c = origin_is_lowest c.args.normal.now (some (goal.at.returns c).After-quotient) c.requires c.factor_of-factor.result c.factor_of-factor.ensures.value
    c.in_ok-quotient.field-0 c.in_ok-quotient-2.field-0 c.in_ok-quotient-3.field-0 c.in_ok-quotient.ensures c.in_ok-quotient-2.ensures c.in_ok-quotient-3.ensures

factor_divides : (n : ℤ) (k factor : ℕ) → unsigned_abs n ≤ whole_normal_bound → k ≡ factor → factor ∣ unsigned_abs n → k ∣ unsigned_abs (to_z w64 (of_z w64 n))
factor_divides n k factor small is h =
    subst (λ m. k ∣ unsigned_abs m) (sym (to_z-of_z w64 n (fits_64 n _ small (lit≤ tt)))) (subst (λ m. m ∣ unsigned_abs n) (sym is) h)

pub quotient-requires-clause-divides : goal.quotient-requires-clause-divides
quotient-requires-clause-divides c = factor_divides c.args.normal.now.x _ _ c.requires.x_small c.factor_of-factor.ensures.value (common_factor_divides (level c.args.normal.now)).nx

pub quotient-requires-2-clause-divides : goal.quotient-requires-2-clause-divides
quotient-requires-2-clause-divides c = factor_divides c.args.normal.now.y _ _ c.requires.y_small c.factor_of-factor.ensures.value (common_factor_divides (level c.args.normal.now)).ny

pub quotient-requires-3-clause-divides : goal.quotient-requires-3-clause-divides
quotient-requires-3-clause-divides c = factor_divides c.args.normal.now.z _ _ c.requires.z_small c.factor_of-factor.ensures.value (common_factor_divides (level c.args.normal.now)).nz
