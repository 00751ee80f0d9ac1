-- A body none of whose facets has a point in front of a plane has none there itself.
use Rattle.std.proofs.Common.{◌≡◌, ℤ, pos, neg_ℤ, ◌+ℤ◌, ◌*ℤ◌, ◌<ℤ◌, ◌≤ℤ◌, List, [], ◌∷◌, ◌++◌, All, Some, refl, arith, ◌⊎◌, ⊎_elim}
use Rattle.std.proofs.lemmas.Int.{ints}
use Rattle.std.proofs.lemmas.List.Elements.{All-nil, All-cons, All-head, All-tail, All-push, All-pop, All-weaker}
use Rattle.qm_numbers.proofs.IntegerProducts.{linear, *ℤ-+ℤ, *ℤ-neg, neg-*ℤ, +ℤ-*ℤ}
use Rattle.qm_numbers.proofs.Signs.{by_sign, by_least, product_not_negative}
use Rattle.qm_space.specs.Bounds.{extent}
use Rattle.qm_space.specs.Point.{Point, IsInCube}
use Rattle.qm_space.specs.Plane.{Plane, value, IsOn, IsInFront, IsNotInFront}
use Rattle.qm_space.specs.Cell.{IsInCell}
use Rattle.qm_space.specs.Multiple.{HasSameSides}
use Rattle.qm_space.proofs.SameSides.{same_sides_itself, same_sides_back, same_in_front, same_behind}
use Rattle.qm_space.proofs.Proportional.{by_proportional}
use Rattle.qm_convex.specs.Sides.{HasNoneInFront}
use Rattle.qm_convex.specs.inner.Facets.{Facet, IsOnFacet, AreFacetsOn, AreFacets, none, facet, hidden}
use Rattle.qm_convex.proofs.ImpliedPlanes.{NoFacet, Keeps, nothing, keep, leave, enough}
use Rattle.qm_facets.specs.Body.{HasNoFacetInFront}

-- ---- planes with the same sides

pub same_on : (a h : Plane) (v : Point) → HasSameSides a h → IsOn h v → IsOn a v
same_on a h v same on = by_sign (value a v)
    (λ behind. let its = same_behind h a v (same_sides_back a h same) behind in absurd (omega (arith, linear)))
    (λ is. is)
    (λ front. let its = same_in_front h a v (same_sides_back a h same) front in absurd (omega (arith, linear)))

-- two planes that have a point in front have the same sides or not
by_same_sides : {P : Type 0} (q h : Plane) (x : Point) → IsInFront q x → IsInFront h x → (HasSameSides q h → P) → ((HasSameSides q h → ⊥) → P) → P
by_same_sides q h x q_front h_front same other = by_proportional q h
    (λ multiples. same (record { times = value h x; factor = value q x; some_times = h_front; some_factor = q_front; multiple = multiples x }))
    (λ v on off. other (λ is. off (same_on q h v is on)))

-- ---- a point of a cell in front of a plane, where no facet of the cell has one

module _ (planes : List Plane) (h : Plane) (x : Point) (weight : pos 0 <ℤ x.w) (inside : IsInCell planes x) (front : IsInFront h x) where
  abbrev half : List Plane
  half = planes ++ h ∷ []

  abbrev IsKept : List Plane → List Plane → Type 0
  IsKept left some = Keeps (NoFacet [] half) (left ++ h ∷ []) some × All (λ g. HasSameSides g h) some

  -- a plane with other sides has no facet of the half in front
  no_facet : (q : Plane) → (HasSameSides q h → ⊥) → ((z : Point) → IsOnFacet planes q z → IsNotInFront h z) → NoFacet [] half q
  no_facet q other not_ahead z w on beside_none beside =
      let both = All-pop (λ g. HasSameSides g q ⊎ IsInFront g z) half planes (Some h) refl beside in
      ⊎_elim
      (λ same. absurd (other (same_sides_back h q same)))
      (λ ahead. let not = not_ahead z (record { weight = w; on = on; inside = both.0 }) in absurd (omega (arith, linear)))
      both.1

  one_more : (q : Plane) (rest some : List Plane) → IsInFront q x → ((z : Point) → IsOnFacet planes q z → IsNotInFront h z) → IsKept rest some → (more : List Plane) × IsKept (q ∷ rest) more
  one_more q rest some q_front not_ahead kept = by_same_sides q h x q_front front
      (λ same. (q ∷ some, (keep kept.0, All-cons (λ g. HasSameSides g h) q some same kept.1)))
      (λ other. (some, (leave (no_facet q other not_ahead) kept.0, kept.1)))

  -- so planes with its sides are enough
  kept_planes : (left : List Plane) (facets : List Facet) → IsInCell left x → AreFacetsOn planes left facets → HasNoFacetInFront h facets → (some : List Plane) × IsKept left some
  kept_planes left facets in_left none not_ahead = (h ∷ [], (keep nothing, All-cons (λ g. HasSameSides g h) h [] (same_sides_itself h) (All-nil (λ g. HasSameSides g h))))
  kept_planes left facets in_left (facet {found = found} {planes = rest} {facets = others} is more) not_ahead =
      let before = kept_planes rest others (All-tail (λ g. IsInFront g x) found.inward rest in_left) more (All-tail (λ (f : Facet). HasNoneInFront f.winding h) found others not_ahead) in
      one_more found.inward rest before.0 (All-head (λ g. IsInFront g x) found.inward rest in_left) (λ z on. All-head (λ (f : Facet). HasNoneInFront f.winding h) found others not_ahead z ((is.points z).1 on)) before.1
  kept_planes left facets in_left (hidden {h = q} {planes = rest} never more) not_ahead =
      let before = kept_planes rest facets (All-tail (λ g. IsInFront g x) q rest in_left) more not_ahead in
      one_more q rest before.0 (All-head (λ g. IsInFront g x) q rest in_left) (λ z on. absurd (never z on)) before.1

  -- and all that is in front of the plane lies in the cell
  all_in_front : (facets : List Facet) → AreFacets planes facets → HasNoFacetInFront h facets → (y : Point) → pos 0 <ℤ y.w → IsInFront h y → IsInCell planes y
  all_in_front facets are not_ahead y w y_front =
      let kept = kept_planes planes facets inside are not_ahead in
      let same = All-weaker (λ g. HasSameSides g h) (λ g. IsInFront g y) (λ g its. same_in_front g h y its y_front) kept.0 kept.1.1 in
      let there = enough [] half kept.0 x weight (All-nil (λ g. IsInFront g x)) (All-push (λ g. IsInFront g x) planes h inside front) kept.1.0 y w (All-nil (λ g. IsInFront g y)) same in
      (All-pop (λ g. IsInFront g y) half planes (Some h) refl there).0

-- ---- from a point of the cube as far as one likes along an axis

abbrev pushed : ℤ → Point → Point
pushed s x = record { x = x.x +ℤ s; y = x.y; z = x.z; w = x.w }

value_pushed : (h : Plane) (s : ℤ) (x : Point) → value h (pushed s x) ≡ value h x +ℤ (h.nx *ℤ s)
unfolding value
value_pushed h s x = let e = *ℤ-+ℤ h.nx x.x s in omega (arith, linear)

-- a distance that leads out of the cube
abbrev far : Point → ℤ
far x = (extent +ℤ extent) *ℤ x.w

far_positive : (x : Point) → pos 0 <ℤ x.w → pos 0 ≤ℤ far x
far_positive x w = product_not_negative (extent +ℤ extent) x.w (omega (arith, ints)) (omega (arith, linear))

far_is : (x : Point) → far x ≡ (extent *ℤ x.w) +ℤ (extent *ℤ x.w)
far_is x = +ℤ-*ℤ extent extent x.w

not_negative : (n m : ℤ) → n ≤ℤ pos 0 → pos 0 ≤ℤ m → pos 0 ≤ℤ (n *ℤ neg_ℤ m)
not_negative n m l k =
    let p = product_not_negative (neg_ℤ n) m (omega (arith, linear)) k in
    let e = neg-*ℤ n m in
    let f = *ℤ-neg n m in
    omega (arith, linear)

module _ (h : Plane) (x : Point) (in_cube : IsInCube x) (front : IsInFront h x) (all : (y : Point) → pos 0 <ℤ y.w → IsInFront h y → IsInCube y) where
  to_low : h.nx ≤ℤ pos 0 → ⊥
  to_low less =
      let v = value_pushed h (neg_ℤ (far x)) x in
      let p = not_negative h.nx (far x) less (far_positive x in_cube.weight) in
      let there = all (pushed (neg_ℤ (far x)) x) in_cube.weight (omega (arith, linear)) in
      let a : neg_ℤ (extent *ℤ x.w) <ℤ (x.x +ℤ neg_ℤ (far x)) = there.x.above in
      let b : x.x <ℤ (extent *ℤ x.w) = in_cube.x.below in
      let e = far_is x in
      absurd (omega (arith, linear, a, b, e))

  to_high : pos 0 ≤ℤ h.nx → ⊥
  to_high least =
      let v = value_pushed h (far x) x in
      let p = product_not_negative h.nx (far x) least (far_positive x in_cube.weight) in
      let there = all (pushed (far x) x) in_cube.weight (omega (arith, linear)) in
      let a : (x.x +ℤ far x) <ℤ (extent *ℤ x.w) = there.x.below in
      let b : neg_ℤ (extent *ℤ x.w) <ℤ x.x = in_cube.x.above in
      let e = far_is x in
      absurd (omega (arith, linear, a, b, e))

  -- where all in front of a plane lies in the cube, nothing of the cube is in front of it
  nothing_in_front : ⊥
  nothing_in_front = by_least h.nx (pos 0) (λ less. to_low (omega (arith, linear))) to_high

-- ---- the law

pub body_not_in_front : (planes : List Plane) (facets : List Facet) (h : Plane) (x : Point) → ((y : Point) → IsInCell planes y → IsInCube y) → AreFacets planes facets → HasNoFacetInFront h facets → IsInCell planes x → IsNotInFront h x
body_not_in_front planes facets h x walled are not_ahead inside = by_least (pos 0) (value h x)
    (λ front. absurd (nothing_in_front h x (walled x inside) front
    (λ y w ahead. walled y (all_in_front planes h x (walled x inside).weight inside front facets are not_ahead y w ahead))))
    (λ not. not)
