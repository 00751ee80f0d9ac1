-- A winding on a plane that is parallel to another, and in its front.
use Rattle.std.proofs.Common.{◌≡◌, ℤ, pos, ◌+ℤ◌, ◌-ℤ◌, ◌*ℤ◌, ◌<ℤ◌, [], ◌∷◌, sym, ◌∙◌, subst, ⊎_elim, arith}
use Rattle.qm_numbers.proofs.IntegerProducts.{linear}
use Rattle.qm_numbers.proofs.Signs.{product_positive}
use Rattle.qm_numbers.proofs.Ring.{variable, negated, ◌⊕◌, ◌⊗◌, solved}
use Rattle.qm_space.specs.Point.{Point}
use Rattle.qm_space.specs.Plane.{Plane, value, flipped, IsOn, IsInFront}
use Rattle.qm_space.proofs.Planes.{value_flipped}
use Rattle.qm_space.proofs.PlaneSymbols.{plane_from, point_from, numbers_of_plane, numbers_of_point, symbol_value}
use Rattle.qm_convex.specs.Winding.{Winding}
use Rattle.qm_convex.specs.Section.{HasSameNormal}
use Rattle.qm_convex.specs.Sides.{IsWhollyInFront}
use Rattle.qm_wind.specs.inner.Before.{IsNearer, IsBefore}

-- the values of two planes of one normal differ by their distances
with_distance : Plane → ℤ → Plane
with_distance h d = record { nx = h.nx; ny = h.ny; nz = h.nz; d = d }

differ : (h : Plane) (d : ℤ) (p : Point) → value (with_distance h d) p ≡ value h p +ℤ ((h.d -ℤ d) *ℤ p.w)
unfolding value with_distance
differ h d p =
    let e = plane_from 0 in let q = point_from 4 in
    solved (numbers_of_plane h (numbers_of_point p (d ∷ [])))
    (symbol_value (record { nx = e.nx; ny = e.ny; nz = e.nz; d = variable 8 }) q) (symbol_value e q ⊕ ((e.d ⊕ negated (variable 8)) ⊗ q.w)) tt

same_value : (g h : Plane) (p : Point) → HasSameNormal h g → value (with_distance h g.d) p ≡ value g p
unfolding with_distance
same_value g h p n = λ i. value (record { nx = n.nx i; ny = n.ny i; nz = n.nz i; d = g.d }) p

nearer_in_front : (own g : Plane) (p : Point) → pos 0 <ℤ p.w → IsOn own p → IsNearer own g → IsInFront g p
nearer_in_front own g p weight on near =
    let f = near.further in
    let e = sym (same_value g own p near.normal) ∙ differ own g.d p in
    let m = product_positive (own.d -ℤ g.d) p.w (omega (arith, linear)) weight in
    omega (arith, linear)

pub before_in_front : (v : Winding) (own g : Plane) → own ≡ v.plane → IsBefore own g → IsWhollyInFront v g
before_in_front v own g e before p r =
    let on = subst (λ (h : Plane). IsOn h p) (sym e) r.on in
    ⊎_elim
    (nearer_in_front own g p r.weight on)
    (nearer_in_front (flipped own) g p r.weight (let f = value_flipped own p in omega (arith, linear)))
    before
