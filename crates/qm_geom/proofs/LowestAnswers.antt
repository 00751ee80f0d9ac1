-- What is answered of a plane that is brought to lowest terms: the same of a multiple; and what is answered where only the
-- fault is asked for.
use Rattle.std.proofs.Common.{◌≡◌, ◌∙◌, Bool, ℤ, pos, ◌*ℤ◌, ◌<ℤ◌, Result, Ok, Err, Option, None, Some, ap, sym, subst, arith}
use Rattle.std.proofs.lemmas.Int.{ints}
use Rattle.qm_numbers.proofs.IntegerProducts.{*ℤ_zero}
use Rattle.qm_numbers.proofs.Signs.{zero_beside}
use Rattle.qm_space.specs.Bounds.{normal_bound}
use Rattle.qm_space.specs.Plane.{Plane, scaled}
use Rattle.qm_space.specs.Multiple.{IsPositiveMultiple}
use Rattle.qm_space.specs.Reduced.{leads_positive, HasNormal, HasNoNormal, HasSmallNormal, HasLargeNormal}
use Rattle.qm_space.specs.Turned.{turned}
use Rattle.qm_space.specs.ThreePoints.{in_lowest_terms}
use Rattle.qm_space.proofs.LowestMultiples.{scaled_in_lowest_terms}
use Rattle.qm_space.proofs.NormalSizes.{reduced_up_to, turned_small}
use Rattle.qm_geom.specs.inner.Lowest.{IsLowestAnswer, IsLowestFault}
use Rattle.qm_geom.specs.declared.through_fault.ThroughFault.{ThroughFault}
use Rattle.qm_geom.specs.declared.through_fault.ThroughFault.TheVariants.{NoNormal, TooFine}

-- ---- of a multiple

times_zero : (k n : ℤ) → n ≡ pos 0 → k *ℤ n ≡ pos 0
times_zero k n zero = ap (λ (m : ℤ). k *ℤ m) zero ∙ *ℤ_zero k

module _ (k : ℤ) (g : Plane) (positive : pos 0 <ℤ k) where
  not_zero : k ≡ pos 0 → ⊥
  not_zero zero = absurd (omega (arith, ints))

  some : HasNormal g → HasNormal (scaled k g)
  some normal = λ x y z. normal (zero_beside k g.nx not_zero x) (zero_beside k g.ny not_zero y) (zero_beside k g.nz not_zero z)

  none : HasNoNormal g → HasNoNormal (scaled k g)
  none flat = (times_zero k g.nx flat.0, times_zero k g.ny flat.1, times_zero k g.nz flat.2)

  same : HasNormal g → in_lowest_terms g ≡ in_lowest_terms (scaled k g)
  same normal = sym (scaled_in_lowest_terms k g positive normal)

  answer_of_scaled : (answer : Result (Plane × Bool) ThroughFault) → IsLowestAnswer g answer → IsLowestAnswer (scaled k g) answer
  answer_of_scaled (Ok r) is = (some is.0, is.1 ∙ same is.0, is.2)
  answer_of_scaled (Err NoNormal) is = none is
  answer_of_scaled (Err TooFine) is = (some is.0, subst (λ (s : Plane × Bool). HasLargeNormal s.0) (same is.0) is.1)

  fault_of_scaled : (answer : Option ThroughFault) → IsLowestFault g answer → IsLowestFault (scaled k g) answer
  fault_of_scaled None is = (some is.0, subst (λ (s : Plane × Bool). HasSmallNormal s.0) (same is.0) is.1)
  fault_of_scaled (Some NoNormal) is = none is
  fault_of_scaled (Some TooFine) is = (some is.0, subst (λ (s : Plane × Bool). HasLargeNormal s.0) (same is.0) is.1)

pub answer_of_multiple : (h g : Plane) (answer : Result (Plane × Bool) ThroughFault) → IsPositiveMultiple h g → IsLowestAnswer g answer → IsLowestAnswer h answer
answer_of_multiple h g answer m is = subst (λ (p : Plane). IsLowestAnswer p answer) (sym m.multiple) (answer_of_scaled m.factor g m.positive answer is)

pub fault_of_multiple : (h g : Plane) (answer : Option ThroughFault) → IsPositiveMultiple h g → IsLowestFault g answer → IsLowestFault h answer
fault_of_multiple h g answer m is = subst (λ (p : Plane). IsLowestFault p answer) (sym m.multiple) (fault_of_scaled m.factor g m.positive answer is)

-- ---- a small normal stays small

pub small_stays : (h : Plane) → HasSmallNormal h → HasSmallNormal (in_lowest_terms h).0
small_stays h small = reduced_up_to normal_bound (turned (leads_positive h) h) (turned_small (leads_positive h) h small)

-- ---- the fault alone

pub no_fault : (out : Plane) (r : Plane × Bool) → IsLowestAnswer out (Ok r) → IsLowestFault out None
no_fault out r is = (is.0, subst (λ (s : Plane × Bool). HasSmallNormal s.0) is.1 is.2)

pub same_fault : (out : Plane) (fault : ThroughFault) → IsLowestAnswer out (Err fault) → IsLowestFault out (Some fault)
same_fault out NoNormal is = is
same_fault out TooFine is = is
