-- The laws of a plane's value, and of the point in which three planes meet.
use Rattle.std.proofs.Common.{refl, ◌≡◌, ℤ, pos, neg_ℤ, ◌+ℤ◌, ◌*ℤ◌, ◌↔◌, [], ◌∷◌, ◌∙◌, arith}
use Rattle.std.proofs.Math.IntN.{*ℤ_comm}
use Rattle.qm_space.specs.Point.{Point, point_sum, point_times}
use Rattle.qm_space.specs.Plane.{Plane, value, IsBehind, IsOn, IsInFront, flipped, scaled}
use Rattle.qm_space.specs.Determinant.{determinant, determinant_of_four}
use Rattle.qm_space.specs.Meet.{meet}
use Rattle.qm_numbers.proofs.IntegerProducts.{linear}
use Rattle.qm_numbers.proofs.Ring.{number, variable, negated, ◌⊕◌, ◌⊗◌, solved}
use Rattle.qm_space.proofs.PlaneSymbols.{plane_from, point_from, numbers_of_plane, numbers_of_point, symbol_value, symbol_determinant, symbol_determinant_of_four, symbol_meet, symbol_scaled, symbol_flipped, symbol_sum, symbol_times}

-- ---- the value

pub value_scaled : (k : ℤ) (h : Plane) (p : Point) → value (scaled k h) p ≡ k *ℤ value h p
unfolding value
value_scaled k h p =
    solved (numbers_of_plane h (numbers_of_point p (k ∷ []))) (symbol_value (symbol_scaled (variable 8) (plane_from 0)) (point_from 4)) (variable 8 ⊗ symbol_value (plane_from 0) (point_from 4)) tt

pub value_flipped : (h : Plane) (p : Point) → value (flipped h) p ≡ neg_ℤ (value h p)
unfolding value
value_flipped h p =
    solved (numbers_of_plane h (numbers_of_point p [])) (symbol_value (symbol_flipped (plane_from 0)) (point_from 4)) (negated (symbol_value (plane_from 0) (point_from 4))) tt

pub value_sum : (h : Plane) (p q : Point) → value h (point_sum p q) ≡ value h p +ℤ value h q
unfolding value
value_sum h p q =
    solved (numbers_of_plane h (numbers_of_point p (numbers_of_point q []))) (symbol_value (plane_from 0) (symbol_sum (point_from 4) (point_from 8))) (symbol_value (plane_from 0) (point_from 4) ⊕ symbol_value (plane_from 0) (point_from 8)) tt

pub value_times : (h : Plane) (k : ℤ) (p : Point) → value h (point_times k p) ≡ k *ℤ value h p
unfolding value
value_times h k p =
    solved (numbers_of_plane h (numbers_of_point p (k ∷ []))) (symbol_value (plane_from 0) (symbol_times (variable 8) (point_from 4))) (variable 8 ⊗ symbol_value (plane_from 0) (point_from 4)) tt

-- the sides exchange
pub flipped_behind : (h : Plane) (p : Point) → IsBehind (flipped h) p ↔ IsInFront h p
flipped_behind h p = let e = value_flipped h p in ((λ l. omega (arith, linear)), (λ l. omega (arith, linear)))

pub flipped_on : (h : Plane) (p : Point) → IsOn (flipped h) p ↔ IsOn h p
flipped_on h p = let e = value_flipped h p in ((λ l. omega (arith, linear)), (λ l. omega (arith, linear)))

pub flipped_in_front : (h : Plane) (p : Point) → IsInFront (flipped h) p ↔ IsBehind h p
flipped_in_front h p = let e = value_flipped h p in ((λ l. omega (arith, linear)), (λ l. omega (arith, linear)))

-- a plane's numbers are its values at four points
pub value_at_units : (h : Plane) → (value h (record { x = pos 1; y = pos 0; z = pos 0; w = pos 0 }) ≡ h.nx) × (value h (record { x = pos 0; y = pos 1; z = pos 0; w = pos 0 }) ≡ h.ny)
    × (value h (record { x = pos 0; y = pos 0; z = pos 1; w = pos 0 }) ≡ h.nz) × (value h (record { x = pos 0; y = pos 0; z = pos 0; w = neg_ℤ (pos 1) }) ≡ h.d)
unfolding value
value_at_units h =
    let k = plane_from 0 in let zero = number (pos 0) in let one = number (pos 1) in let zs = numbers_of_plane h [] in (
      solved zs (symbol_value k (record { x = one; y = zero; z = zero; w = zero })) k.nx tt,
      solved zs (symbol_value k (record { x = zero; y = one; z = zero; w = zero })) k.ny tt,
      solved zs (symbol_value k (record { x = zero; y = zero; z = one; w = zero })) k.nz tt,
      solved zs (symbol_value k (record { x = zero; y = zero; z = zero; w = number (neg_ℤ (pos 1)) })) k.d tt,
    )

-- ---- the point in which three planes meet

-- a plane's value there is the determinant of the four planes
pub value_at_meet : (h a b c : Plane) → value h (meet a b c) ≡ determinant_of_four h a b c
unfolding value meet determinant determinant_of_four
value_at_meet h a b c =
    let p = plane_from 0 in let q = plane_from 4 in let r = plane_from 8 in let s = plane_from 12 in
    solved (numbers_of_plane h (numbers_of_plane a (numbers_of_plane b (numbers_of_plane c [])))) (symbol_value p (symbol_meet q r s)) (symbol_determinant_of_four p q r s) tt

-- the three planes hold it
pub first_holds_meet : (a b c : Plane) → value a (meet a b c) ≡ pos 0
unfolding value meet determinant
first_holds_meet a b c =
    let p = plane_from 0 in let q = plane_from 4 in let r = plane_from 8 in
    solved (numbers_of_plane a (numbers_of_plane b (numbers_of_plane c []))) (symbol_value p (symbol_meet p q r)) (number (pos 0)) tt

pub second_holds_meet : (a b c : Plane) → value b (meet a b c) ≡ pos 0
unfolding value meet determinant
second_holds_meet a b c =
    let p = plane_from 0 in let q = plane_from 4 in let r = plane_from 8 in
    solved (numbers_of_plane a (numbers_of_plane b (numbers_of_plane c []))) (symbol_value q (symbol_meet p q r)) (number (pos 0)) tt

pub third_holds_meet : (a b c : Plane) → value c (meet a b c) ≡ pos 0
unfolding value meet determinant
third_holds_meet a b c =
    let p = plane_from 0 in let q = plane_from 4 in let r = plane_from 8 in
    solved (numbers_of_plane a (numbers_of_plane b (numbers_of_plane c []))) (symbol_value r (symbol_meet p q r)) (number (pos 0)) tt

-- points are equal where their four numbers are
pub same_point : (p q : Point) → p.x ≡ q.x → p.y ≡ q.y → p.z ≡ q.z → p.w ≡ q.w → p ≡ q
same_point p q x y z w = λ i. record { x = x i; y = y i; z = z i; w = w i }

-- to exchange two planes turns the sign of all four numbers; to turn the three round changes nothing
pub meet_exchanged : (a b c : Plane) → meet b a c ≡ point_times (neg_ℤ (pos 1)) (meet a b c)
unfolding meet determinant
meet_exchanged a b c =
    let p = plane_from 0 in let q = plane_from 4 in let r = plane_from 8 in
    let zs = numbers_of_plane a (numbers_of_plane b (numbers_of_plane c [])) in
    let one = number (neg_ℤ (pos 1)) in
    same_point (meet b a c) (point_times (neg_ℤ (pos 1)) (meet a b c))
    (solved zs (symbol_meet q p r).x (one ⊗ (symbol_meet p q r).x) tt) (solved zs (symbol_meet q p r).y (one ⊗ (symbol_meet p q r).y) tt)
    (solved zs (symbol_meet q p r).z (one ⊗ (symbol_meet p q r).z) tt) (solved zs (symbol_meet q p r).w (one ⊗ (symbol_meet p q r).w) tt)

-- ---- Cramer's rule at any point: what is over is the determinant with the planes' values for a column

pub cramer_x : (a b c : Plane) (p : Point) → (meet a b c).w *ℤ p.x ≡ (p.w *ℤ (meet a b c).x) +ℤ determinant (value a p) a.ny a.nz (value b p) b.ny b.nz (value c p) c.ny c.nz
unfolding value meet determinant
cramer_x a b c p =
    let f = plane_from 0 in let g = plane_from 4 in let h = plane_from 8 in let q = point_from 12 in
    solved (numbers_of_plane a (numbers_of_plane b (numbers_of_plane c (numbers_of_point p [])))) ((symbol_meet f g h).w ⊗ q.x)
    (q.w ⊗ (symbol_meet f g h).x ⊕ symbol_determinant (symbol_value f q) f.ny f.nz (symbol_value g q) g.ny g.nz (symbol_value h q) h.ny h.nz) tt

pub cramer_y : (a b c : Plane) (p : Point) → (meet a b c).w *ℤ p.y ≡ (p.w *ℤ (meet a b c).y) +ℤ determinant a.nx (value a p) a.nz b.nx (value b p) b.nz c.nx (value c p) c.nz
unfolding value meet determinant
cramer_y a b c p =
    let f = plane_from 0 in let g = plane_from 4 in let h = plane_from 8 in let q = point_from 12 in
    solved (numbers_of_plane a (numbers_of_plane b (numbers_of_plane c (numbers_of_point p [])))) ((symbol_meet f g h).w ⊗ q.y)
    (q.w ⊗ (symbol_meet f g h).y ⊕ symbol_determinant f.nx (symbol_value f q) f.nz g.nx (symbol_value g q) g.nz h.nx (symbol_value h q) h.nz) tt

pub cramer_z : (a b c : Plane) (p : Point) → (meet a b c).w *ℤ p.z ≡ (p.w *ℤ (meet a b c).z) +ℤ determinant a.nx a.ny (value a p) b.nx b.ny (value b p) c.nx c.ny (value c p)
unfolding value meet determinant
cramer_z a b c p =
    let f = plane_from 0 in let g = plane_from 4 in let h = plane_from 8 in let q = point_from 12 in
    solved (numbers_of_plane a (numbers_of_plane b (numbers_of_plane c (numbers_of_point p [])))) ((symbol_meet f g h).w ⊗ q.z)
    (q.w ⊗ (symbol_meet f g h).z ⊕ symbol_determinant f.nx f.ny (symbol_value f q) g.nx g.ny (symbol_value g q) h.nx h.ny (symbol_value h q)) tt

no_first_column : (u v w a b c d e f : ℤ) → u ≡ pos 0 → v ≡ pos 0 → w ≡ pos 0 → determinant u a b v c d w e f ≡ pos 0
unfolding determinant
no_first_column u v w a b c d e f x y z =
    let t = variable in
    (λ i. determinant (x i) a b (y i) c d (z i) e f)
    ∙ solved (a ∷ b ∷ c ∷ d ∷ e ∷ f ∷ []) (symbol_determinant (number (pos 0)) (t 0) (t 1) (number (pos 0)) (t 2) (t 3) (number (pos 0)) (t 4) (t 5)) (number (pos 0)) tt

no_second_column : (u v w a b c d e f : ℤ) → u ≡ pos 0 → v ≡ pos 0 → w ≡ pos 0 → determinant a u b c v d e w f ≡ pos 0
unfolding determinant
no_second_column u v w a b c d e f x y z =
    let t = variable in
    (λ i. determinant a (x i) b c (y i) d e (z i) f)
    ∙ solved (a ∷ b ∷ c ∷ d ∷ e ∷ f ∷ []) (symbol_determinant (t 0) (number (pos 0)) (t 1) (t 2) (number (pos 0)) (t 3) (t 4) (number (pos 0)) (t 5)) (number (pos 0)) tt

no_third_column : (u v w a b c d e f : ℤ) → u ≡ pos 0 → v ≡ pos 0 → w ≡ pos 0 → determinant a b u c d v e f w ≡ pos 0
unfolding determinant
no_third_column u v w a b c d e f x y z =
    let t = variable in
    (λ i. determinant a b (x i) c d (y i) e f (z i))
    ∙ solved (a ∷ b ∷ c ∷ d ∷ e ∷ f ∷ []) (symbol_determinant (t 0) (t 1) (number (pos 0)) (t 2) (t 3) (number (pos 0)) (t 4) (t 5) (number (pos 0))) (number (pos 0)) tt

-- a point on three planes is where they meet, up to a multiple of both: where the meeting point's w is not 0, there is no other
pub meet_only : (a b c : Plane) (p : Point) → IsOn a p → IsOn b p → IsOn c p → point_times (meet a b c).w p ≡ point_times p.w (meet a b c)
meet_only a b c p x y z =
    let m = meet a b c in
    let ex = cramer_x a b c p in let dx = no_first_column (value a p) (value b p) (value c p) a.ny a.nz b.ny b.nz c.ny c.nz x y z in
    let ey = cramer_y a b c p in let dy = no_second_column (value a p) (value b p) (value c p) a.nx a.nz b.nx b.nz c.nx c.nz x y z in
    let ez = cramer_z a b c p in let dz = no_third_column (value a p) (value b p) (value c p) a.nx a.ny b.nx b.ny c.nx c.ny x y z in
    same_point (point_times m.w p) (point_times p.w m) (omega (arith, linear)) (omega (arith, linear)) (omega (arith, linear)) (*ℤ_comm m.w p.w)

-- ---- a value at any point, times the w of a meeting point, is made of the values there of the three planes and of the fourth at the meeting point

pub value_by_meet : (h a b c : Plane) (p : Point) →
    (meet a b c).w *ℤ value h p ≡ ((p.w *ℤ value h (meet a b c)) +ℤ (((meet h b c).w *ℤ value a p) +ℤ ((meet a h c).w *ℤ value b p))) +ℤ ((meet a b h).w *ℤ value c p)
unfolding value meet determinant
value_by_meet h a b c p =
    let k = plane_from 0 in let e = plane_from 4 in let f = plane_from 8 in let g = plane_from 12 in let q = point_from 16 in
    solved (numbers_of_plane h (numbers_of_plane a (numbers_of_plane b (numbers_of_plane c (numbers_of_point p []))))) ((symbol_meet e f g).w ⊗ symbol_value k q)
    (q.w ⊗ symbol_value k (symbol_meet e f g) ⊕ ((symbol_meet k f g).w ⊗ symbol_value e q ⊕ (symbol_meet e k g).w ⊗ symbol_value f q) ⊕ (symbol_meet e f k).w ⊗ symbol_value g q) tt

-- worked row: the planes x = 1, y = 2 and z = 3 meet in the point (1, 2, 3), which lies 2 in front of x = -1
meet_row : meet (record { nx = pos 1; ny = pos 0; nz = pos 0; d = pos 1 }) (record { nx = pos 0; ny = pos 1; nz = pos 0; d = pos 2 }) (record { nx = pos 0; ny = pos 0; nz = pos 1; d = pos 3 }) ≡ record { x = pos 1; y = pos 2; z = pos 3; w = pos 1 }
unfolding meet determinant
meet_row = refl

value_row : value (record { nx = pos 1; ny = pos 0; nz = pos 0; d = neg_ℤ (pos 1) }) (record { x = pos 1; y = pos 2; z = pos 3; w = pos 1 }) ≡ pos 2
unfolding value
value_row = refl
