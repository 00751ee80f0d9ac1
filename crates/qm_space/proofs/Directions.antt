-- Where three planes meet in no point or in many: a direction lies in all three.
use Rattle.std.proofs.Common.{◌≡◌, ℤ, pos, neg_ℤ, ◌+ℤ◌, ◌-ℤ◌, ◌*ℤ◌, [], ◌∷◌, ap, refl, ◌∙◌, arith}
use Rattle.std.proofs.lemmas.Int.{ints}
use Rattle.qm_space.specs.Point.{Point, point_sum}
use Rattle.qm_space.specs.Plane.{Plane, value, IsOn}
use Rattle.qm_space.specs.Determinant.{determinant}
use Rattle.qm_space.specs.Meet.{along, meet}
use Rattle.qm_space.specs.inner.CommonDirection.{LiesAlong}
use Rattle.qm_numbers.proofs.IntegerProducts.{linear}
use Rattle.qm_numbers.proofs.Signs.{by_zero}
use Rattle.qm_numbers.proofs.Ring.{number, variable, negated, ◌⊕◌, ◌⊖◌, ◌⊗◌, solved}
use Rattle.qm_space.proofs.PlaneSymbols.{plane_from, numbers_of_plane, symbol_value, symbol_meet, symbol_along}
use Rattle.qm_space.proofs.Planes.{value_sum}

-- the direction along two planes lies in both
pub first_holds_along : (a b : Plane) → value a (along a b) ≡ pos 0
unfolding value along
first_holds_along a b = let p = plane_from 0 in let q = plane_from 4 in solved (numbers_of_plane a (numbers_of_plane b [])) (symbol_value p (symbol_along p q)) (number (pos 0)) tt

pub second_holds_along : (a b : Plane) → value b (along a b) ≡ pos 0
unfolding value along
second_holds_along a b = let p = plane_from 0 in let q = plane_from 4 in solved (numbers_of_plane a (numbers_of_plane b [])) (symbol_value q (symbol_along p q)) (number (pos 0)) tt

-- a third plane's value there is the w of the meeting point
pub value_along : (a b c : Plane) → value c (along a b) ≡ (meet a b c).w
unfolding value along meet determinant
value_along a b c =
    let p = plane_from 0 in let q = plane_from 4 in let r = plane_from 8 in
    solved (numbers_of_plane a (numbers_of_plane b (numbers_of_plane c []))) (symbol_value r (symbol_along p q)) (symbol_meet p q r).w tt

-- to exchange the planes turns the direction
pub value_along_turned : (a b c : Plane) → value b (along a c) ≡ neg_ℤ (value c (along a b))
unfolding value along
value_along_turned a b c =
    let p = plane_from 0 in let q = plane_from 4 in let r = plane_from 8 in
    solved (numbers_of_plane a (numbers_of_plane b (numbers_of_plane c []))) (symbol_value q (symbol_along p r)) (negated (symbol_value r (symbol_along p q))) tt

pub value_along_exchanged : (a b c : Plane) → value c (along b a) ≡ neg_ℤ (value c (along a b))
unfolding value along
value_along_exchanged a b c =
    let p = plane_from 0 in let q = plane_from 4 in let r = plane_from 8 in
    solved (numbers_of_plane a (numbers_of_plane b (numbers_of_plane c []))) (symbol_value r (symbol_along q p)) (negated (symbol_value r (symbol_along p q))) tt

along_weight : (a b : Plane) → (along a b).w ≡ pos 0
unfolding along
along_weight a b = refl

-- ---- a direction of length 0, or not

abbrev IsNone : Point → Type 0
IsNone v = (v.x ≡ pos 0) × (v.y ≡ pos 0) × (v.z ≡ pos 0)

by_length : {P : Type 0} (v : Point) → ((v.x ≡ pos 0 → v.y ≡ pos 0 → v.z ≡ pos 0 → ⊥) → P) → (IsNone v → P) → P
by_length v some none =
    by_zero v.x (λ x. by_zero v.y (λ y. by_zero v.z (λ z. none (x, y, z)) (λ f. some (λ _ _ z. f z))) (λ f. some (λ _ y _. f y))) (λ f. some (λ x _ _. f x))

-- each plane's value is 0 at a direction of length 0
value_at_none : (h : Plane) (v : Point) → v.w ≡ pos 0 → IsNone v → value h v ≡ pos 0
unfolding value
value_at_none h v w n =
    (λ i. (((h.nx *ℤ n.0 i) +ℤ (h.ny *ℤ n.1 i)) +ℤ (h.nz *ℤ n.2 i)) -ℤ (h.d *ℤ w i))
    ∙ solved (numbers_of_plane h []) (variable 0 ⊗ number (pos 0) ⊕ variable 1 ⊗ number (pos 0) ⊕ variable 2 ⊗ number (pos 0) ⊖ variable 3 ⊗ number (pos 0)) (number (pos 0)) tt

-- ---- planes with parallel normals

-- a direction in the plane a, across one of the axes
parallel : (a b c e : Plane) → IsNone (along a b) → IsNone (along a c) → ((along a e).x ≡ pos 0 → (along a e).y ≡ pos 0 → (along a e).z ≡ pos 0 → ⊥) → LiesAlong (along a e) a b c
parallel a b c e m n s =
    let x = value_along_turned a b e in let y = value_at_none e (along a b) (along_weight a b) m in
    let z = value_along_turned a c e in let w = value_at_none e (along a c) (along_weight a c) n in
    record { weight = along_weight a e; some = s; first = first_holds_along a e; second = omega (arith, linear); third = omega (arith, linear) }

abbrev across_y : Plane
across_y = record { nx = pos 0; ny = pos 1; nz = pos 0; d = pos 0 }

abbrev across_z : Plane
across_z = record { nx = pos 0; ny = pos 0; nz = pos 1; d = pos 0 }

-- a normal that is not 0 leaves a direction along one of the two
along_y_x : (a : Plane) → (along a across_y).x ≡ pos 0 → a.nz ≡ pos 0
unfolding along
along_y_x a e = solved (numbers_of_plane a []) (variable 2) (negated (variable 1 ⊗ number (pos 0) ⊖ variable 2 ⊗ number (pos 1))) tt ∙ ap neg_ℤ e

along_y_z : (a : Plane) → (along a across_y).z ≡ pos 0 → a.nx ≡ pos 0
unfolding along
along_y_z a e = solved (numbers_of_plane a []) (variable 0) (variable 0 ⊗ number (pos 1) ⊖ variable 1 ⊗ number (pos 0)) tt ∙ e

along_z_x : (a : Plane) → (along a across_z).x ≡ pos 0 → a.ny ≡ pos 0
unfolding along
along_z_x a e = solved (numbers_of_plane a []) (variable 1) (variable 1 ⊗ number (pos 1) ⊖ variable 2 ⊗ number (pos 0)) tt ∙ e

-- the normal is 0, or a direction lies along the plane and two that are parallel to it
by_parallel : {P : Type 0} (a b c : Plane) → IsNone (along a b) → IsNone (along a c) → ((v : Point) → LiesAlong v a b c → P) → ((a.nx ≡ pos 0) × (a.ny ≡ pos 0) × (a.nz ≡ pos 0) → P) → P
by_parallel a b c m n found none =
    by_length (along a across_y)
    (λ s. found (along a across_y) (parallel a b c across_y m n s))
    (λ t. by_length (along a across_z)
    (λ s. found (along a across_z) (parallel a b c across_z m n s))
    (λ u. none (along_y_z a t.2, along_z_x a u.0, along_y_x a t.0)))

-- a plane with no normal holds each direction
flat : (h : Plane) (v : Point) → v.w ≡ pos 0 → (h.nx ≡ pos 0) × (h.ny ≡ pos 0) × (h.nz ≡ pos 0) → value h v ≡ pos 0
unfolding value
flat h v w n =
    (λ i. (((n.0 i *ℤ v.x) +ℤ (n.1 i *ℤ v.y)) +ℤ (n.2 i *ℤ v.z)) -ℤ (h.d *ℤ w i))
    ∙ solved (v.x ∷ v.y ∷ v.z ∷ h.d ∷ []) (number (pos 0) ⊗ variable 0 ⊕ number (pos 0) ⊗ variable 1 ⊕ number (pos 0) ⊗ variable 2 ⊖ variable 3 ⊗ number (pos 0)) (number (pos 0)) tt

-- ---- all cases

none_exchanged : (a b : Plane) → IsNone (along a b) → IsNone (along b a)
unfolding along
none_exchanged a b n =
    let v = variable in let zs = numbers_of_plane a (numbers_of_plane b []) in
    let p = plane_from 0 in let q = plane_from 4 in (
      solved zs (symbol_along q p).x (negated (symbol_along p q).x) tt ∙ ap neg_ℤ n.0,
      solved zs (symbol_along q p).y (negated (symbol_along p q).y) tt ∙ ap neg_ℤ n.1,
      solved zs (symbol_along q p).z (negated (symbol_along p q).z) tt ∙ ap neg_ℤ n.2,
    )

-- three planes whose meeting point has w = 0 have a direction in common
pub common_direction : (a b c : Plane) → (meet a b c).w ≡ pos 0 → (v : Point) × LiesAlong v a b c
common_direction a b c e =
    by_length (along a b)
    (λ s. (along a b, record { weight = along_weight a b; some = s; first = first_holds_along a b; second = second_holds_along a b; third = value_along a b c ∙ e }))
    (λ ab. by_length (along a c)
    (λ s. (along a c, record { weight = along_weight a c; some = s; first = first_holds_along a c; second = let t = value_along_turned a b c in let u = value_along a b c in omega (arith, linear); third = second_holds_along a c }))
    (λ ac. by_length (along b c)
    (λ s. (along b c, record { weight = along_weight b c; some = s; first = across a b c e; second = first_holds_along b c; third = second_holds_along b c }))
    (λ bc. by_parallel a b c ab ac (λ v l. (v, l))
    (λ na. by_parallel b a c (none_exchanged a b ab) bc (λ v l. (v, record { weight = l.weight; some = l.some; first = l.second; second = l.first; third = l.third }))
    (λ nb. by_parallel c a b (none_exchanged a c ac) (none_exchanged b c bc) (λ v l. (v, record { weight = l.weight; some = l.some; first = l.second; second = l.third; third = l.first }))
    (λ nc. (x_direction, record { weight = refl; some = λ f _ _. absurd (omega (arith, ints)); first = flat a x_direction refl na; second = flat b x_direction refl nb; third = flat c x_direction refl nc })))))))
  where
    x_direction : Point
    x_direction = record { x = pos 1; y = pos 0; z = pos 0; w = pos 0 }

    across : (a b c : Plane) → (meet a b c).w ≡ pos 0 → value a (along b c) ≡ pos 0
    across a b c e =
        let s = value_along_turned b a c in let t = value_along_exchanged a b c in let u = value_along a b c in omega (arith, linear)

-- so a point on all three is not the only one: with the same w, a step along the direction leads to another
pub another_point : (a b c : Plane) (p v : Point) → LiesAlong v a b c → IsOn a p → IsOn b p → IsOn c p → IsOn a (point_sum p v) × IsOn b (point_sum p v) × IsOn c (point_sum p v) × ((point_sum p v).w ≡ p.w) × (point_sum p v ≡ p → ⊥)
another_point a b c p v l x y z =
    let r = value_sum a p v in let s = value_sum b p v in let t = value_sum c p v in
    let f = l.first in let g = l.second in let h = l.third in let w = l.weight in (
      omega (arith, linear),
      omega (arith, linear),
      omega (arith, linear),
      omega (arith, linear),
      λ e. l.some (still p.x v.x (ap (λ q. q.x) e)) (still p.y v.y (ap (λ q. q.y) e)) (still p.z v.z (ap (λ q. q.z) e)),
    )
  where
    still : (m n : ℤ) → m +ℤ n ≡ m → n ≡ pos 0
    still m n e = omega (arith, linear)
