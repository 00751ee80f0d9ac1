-- Points of which each number is multiplied by one number stand for the same places, and span a multiple of the plane.
use Rattle.std.proofs.Common.{◌≡◌, ◌∙◌, ℤ, pos, ◌+ℤ◌, ◌-ℤ◌, ◌*ℤ◌, List, [], ◌∷◌, ap, refl, sym, arith}
use Rattle.std.proofs.lemmas.Int.{ints}
use Rattle.qm_numbers.proofs.IntegerProducts.{one_*ℤ}
use Rattle.qm_numbers.proofs.Ring.{variable, ◌⊕◌, ◌⊖◌, ◌⊗◌, solved}
use Rattle.qm_space.specs.Point.{Point, point_times, whole_point, thousandths_point, IsSamePlace}
use Rattle.qm_space.specs.Plane.{Plane, scaled}
use Rattle.qm_space.specs.Multiple.{IsPositiveMultiple}
use Rattle.qm_space.specs.ThreePoints.{outward_plane, in_space, spanned_plane}
use Rattle.qm_space.proofs.Planes.{same_point}
use Rattle.qm_space.proofs.ReducedPlanes.{same_plane}
use Rattle.qm_space.proofs.SpannedPlanes.{spanned_whole}

-- a component of the outward normal
component_times : (k a0 a1 a2 b0 b1 b2 : ℤ) →
    (((k *ℤ a0) -ℤ (k *ℤ a1)) *ℤ ((k *ℤ b2) -ℤ (k *ℤ b1))) -ℤ (((k *ℤ b0) -ℤ (k *ℤ b1)) *ℤ ((k *ℤ a2) -ℤ (k *ℤ a1)))
    ≡ (k *ℤ k) *ℤ (((a0 -ℤ a1) *ℤ (b2 -ℤ b1)) -ℤ ((b0 -ℤ b1) *ℤ (a2 -ℤ a1)))
component_times k a0 a1 a2 b0 b1 b2 =
    let v = variable in
    solved (k ∷ a0 ∷ a1 ∷ a2 ∷ b0 ∷ b1 ∷ b2 ∷ [])
    (((v 0 ⊗ v 1) ⊖ (v 0 ⊗ v 2)) ⊗ ((v 0 ⊗ v 6) ⊖ (v 0 ⊗ v 5)) ⊖ ((v 0 ⊗ v 4) ⊖ (v 0 ⊗ v 5)) ⊗ ((v 0 ⊗ v 3) ⊖ (v 0 ⊗ v 2)))
    ((v 0 ⊗ v 0) ⊗ ((v 1 ⊖ v 2) ⊗ (v 6 ⊖ v 5) ⊖ (v 4 ⊖ v 5) ⊗ (v 3 ⊖ v 2))) tt

component_in_space : (k w n : ℤ) → (k *ℤ w) *ℤ ((k *ℤ k) *ℤ n) ≡ (k *ℤ (k *ℤ k)) *ℤ (w *ℤ n)
component_in_space k w n =
    let v = variable in
    solved (k ∷ w ∷ n ∷ []) ((v 0 ⊗ v 1) ⊗ ((v 0 ⊗ v 0) ⊗ v 2)) ((v 0 ⊗ (v 0 ⊗ v 0)) ⊗ (v 1 ⊗ v 2)) tt

distance_times : (k a b c x y z : ℤ) →
    ((((k *ℤ k) *ℤ a) *ℤ (k *ℤ x)) +ℤ (((k *ℤ k) *ℤ b) *ℤ (k *ℤ y))) +ℤ (((k *ℤ k) *ℤ c) *ℤ (k *ℤ z))
    ≡ (k *ℤ (k *ℤ k)) *ℤ (((a *ℤ x) +ℤ (b *ℤ y)) +ℤ (c *ℤ z))
distance_times k a b c x y z =
    let v = variable in
    solved (k ∷ a ∷ b ∷ c ∷ x ∷ y ∷ z ∷ [])
    (((v 0 ⊗ v 0) ⊗ v 1) ⊗ (v 0 ⊗ v 4) ⊕ ((v 0 ⊗ v 0) ⊗ v 2) ⊗ (v 0 ⊗ v 5) ⊕ ((v 0 ⊗ v 0) ⊗ v 3) ⊗ (v 0 ⊗ v 6))
    ((v 0 ⊗ (v 0 ⊗ v 0)) ⊗ (v 1 ⊗ v 4 ⊕ v 2 ⊗ v 5 ⊕ v 3 ⊗ v 6)) tt

-- the outward plane over numerators times k
outward_times : (k : ℤ) (p0 p1 p2 : Point) →
    let g = outward_plane (point_times k p0) (point_times k p1) (point_times k p2) in let h = outward_plane p0 p1 p2 in
    (g.nx ≡ (k *ℤ k) *ℤ h.nx) × (g.ny ≡ (k *ℤ k) *ℤ h.ny) × (g.nz ≡ (k *ℤ k) *ℤ h.nz)
unfolding outward_plane
outward_times k p0 p1 p2 =
    (component_times k p0.y p1.y p2.y p0.z p1.z p2.z, component_times k p0.z p1.z p2.z p0.x p1.x p2.x, component_times k p0.x p1.x p2.x p0.y p1.y p2.y)

distance_is : (p0 p1 p2 : Point) → let h = outward_plane p0 p1 p2 in h.d ≡ ((h.nx *ℤ p1.x) +ℤ (h.ny *ℤ p1.y)) +ℤ (h.nz *ℤ p1.z)
unfolding outward_plane
distance_is p0 p1 p2 = refl

pub spanned_times : (k : ℤ) (p0 p1 p2 : Point) → spanned_plane (point_times k p0) (point_times k p1) (point_times k p2) ≡ scaled (k *ℤ (k *ℤ k)) (spanned_plane p0 p1 p2)
unfolding in_space
spanned_times k p0 p1 p2 =
    let g = outward_plane (point_times k p0) (point_times k p1) (point_times k p2) in let h = outward_plane p0 p1 p2 in
    let e = outward_times k p0 p1 p2 in
    same_plane (spanned_plane (point_times k p0) (point_times k p1) (point_times k p2)) (scaled (k *ℤ (k *ℤ k)) (spanned_plane p0 p1 p2))
    (ap (λ (n : ℤ). (k *ℤ p1.w) *ℤ n) e.0 ∙ component_in_space k p1.w h.nx)
    (ap (λ (n : ℤ). (k *ℤ p1.w) *ℤ n) e.1 ∙ component_in_space k p1.w h.ny)
    (ap (λ (n : ℤ). (k *ℤ p1.w) *ℤ n) e.2 ∙ component_in_space k p1.w h.nz)
    (distance_is (point_times k p0) (point_times k p1) (point_times k p2)
    ∙ (λ i. ((e.0 i *ℤ (k *ℤ p1.x)) +ℤ (e.1 i *ℤ (k *ℤ p1.y))) +ℤ (e.2 i *ℤ (k *ℤ p1.z)))
    ∙ distance_times k h.nx h.ny h.nz p1.x p1.y p1.z ∙ ap (λ (n : ℤ). (k *ℤ (k *ℤ k)) *ℤ n) (sym (distance_is p0 p1 p2)))

-- ---- whole points that are given in thousandths

times_one : (p : Point) → point_times (pos 1) p ≡ p
times_one p = same_point (point_times (pos 1) p) p (one_*ℤ p.x) (one_*ℤ p.y) (one_*ℤ p.z) (one_*ℤ p.w)

pub whole_in_thousandths : (at whole : List ℤ) → IsSamePlace (thousandths_point at) (whole_point whole) → thousandths_point at ≡ point_times (pos 1000) (whole_point whole)
whole_in_thousandths at whole same = sym (times_one (thousandths_point at)) ∙ same

-- the plane that they span is a multiple of the one over the whole points
pub spanned_by_wholes : (a b c p q r : List ℤ) → IsSamePlace (thousandths_point a) (whole_point p) → IsSamePlace (thousandths_point b) (whole_point q) → IsSamePlace (thousandths_point c) (whole_point r) →
    IsPositiveMultiple (spanned_plane (thousandths_point a) (thousandths_point b) (thousandths_point c)) (outward_plane (whole_point p) (whole_point q) (whole_point r))
spanned_by_wholes a b c p q r same_a same_b same_c =
    let e = whole_in_thousandths a p same_a in let f = whole_in_thousandths b q same_b in let g = whole_in_thousandths c r same_c in
    record {
      factor = pos 1000 *ℤ (pos 1000 *ℤ pos 1000);
      positive = omega (arith, ints);
      multiple = (λ i. spanned_plane (e i) (f i) (g i)) ∙ spanned_times (pos 1000) (whole_point p) (whole_point q) (whole_point r)
          ∙ ap (λ (h : Plane). scaled (pos 1000 *ℤ (pos 1000 *ℤ pos 1000)) h) (spanned_whole (whole_point p) (whole_point q) (whole_point r) refl);
    }
