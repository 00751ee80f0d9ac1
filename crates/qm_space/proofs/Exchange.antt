-- Exchange of planes between determinants, and what a point's values at planes say of the point.
use Rattle.std.proofs.Common.{◌≡◌, ℤ, pos, neg_ℤ, ◌+ℤ◌, ◌*ℤ◌, [], ◌∷◌, ap, ap₂, sym, ◌∙◌}
use Rattle.qm_space.specs.Point.{Point, point_sum, point_times}
use Rattle.qm_space.specs.Plane.{Plane, value, IsOn}
use Rattle.qm_space.specs.Determinant.{determinant, determinant_of_four}
use Rattle.qm_space.specs.Meet.{meet}
use Rattle.qm_numbers.proofs.Ring.{variable, number, negated, ◌⊕◌, ◌⊗◌, solved}
use Rattle.qm_space.proofs.PlaneSymbols.{plane_from, point_from, numbers_of_plane, numbers_of_point, symbol_determinant_of_four, symbol_value, symbol_meet, symbol_sum, symbol_times}
use Rattle.qm_space.proofs.Planes.{same_point, value_at_meet, meet_exchanged, value_times, value_sum}

-- ---- a point, from its values at four planes

-- the sum of four multiples of meeting points, each without the plane whose value multiplies it
abbrev pub from_values : ℤ → ℤ → ℤ → ℤ → Plane → Plane → Plane → Plane → Point
from_values va vb vc vd a b c d =
    point_sum (point_sum (point_times va (meet b c d)) (point_times (neg_ℤ vb) (meet a c d))) (point_sum (point_times vc (meet a b d)) (point_times (neg_ℤ vd) (meet a b c)))

pub point_from_values : (a b c d : Plane) (p : Point) → point_times (determinant_of_four a b c d) p ≡ from_values (value a p) (value b p) (value c p) (value d p) a b c d
unfolding value meet determinant determinant_of_four
point_from_values a b c d p =
    let e = plane_from 0 in let f = plane_from 4 in let g = plane_from 8 in let h = plane_from 12 in let q = point_from 16 in
    let zs = numbers_of_plane a (numbers_of_plane b (numbers_of_plane c (numbers_of_plane d (numbers_of_point p [])))) in
    let left = symbol_times (symbol_determinant_of_four e f g h) q in
    let right = symbol_sum (symbol_sum (symbol_times (symbol_value e q) (symbol_meet f g h)) (symbol_times (negated (symbol_value f q)) (symbol_meet e g h)))
    (symbol_sum (symbol_times (symbol_value g q) (symbol_meet e f h)) (symbol_times (negated (symbol_value h q)) (symbol_meet e f g))) in
    same_point (point_times (determinant_of_four a b c d) p) (from_values (value a p) (value b p) (value c p) (value d p) a b c d)
    (solved zs left.x right.x tt) (solved zs left.y right.y tt) (solved zs left.z right.z tt) (solved zs left.w right.w tt)

-- A point on two planes h and e, from its values at two others, a and b: it lies on the line of h and e, between the
-- points where a and b cross that line if both values have the sign of the factor
pub point_on_line : (h a e b : Plane) (p : Point) → IsOn h p → IsOn e p →
    point_times (value a (meet h e b)) p ≡ point_sum (point_times (value a p) (meet h e b)) (point_times (value b p) (meet h a e))
point_on_line h a e b p x y =
    let s = point_from_values a h e b p in
    let m = value_at_meet a h e b in
    let t = meet_exchanged h a e in
    same_point (point_times (value a (meet h e b)) p) (point_sum (point_times (value a p) (meet h e b)) (point_times (value b p) (meet h a e)))
    (ap (λ k. k *ℤ p.x) m ∙ ap (λ q. q.x) s ∙ rest (value a p) (value h p) (value e p) (value b p) (meet h e b).x (meet a e b).x (meet a h b).x (meet a h e).x (meet h a e).x x y (ap (λ q. q.x) t))
    (ap (λ k. k *ℤ p.y) m ∙ ap (λ q. q.y) s ∙ rest (value a p) (value h p) (value e p) (value b p) (meet h e b).y (meet a e b).y (meet a h b).y (meet a h e).y (meet h a e).y x y (ap (λ q. q.y) t))
    (ap (λ k. k *ℤ p.z) m ∙ ap (λ q. q.z) s ∙ rest (value a p) (value h p) (value e p) (value b p) (meet h e b).z (meet a e b).z (meet a h b).z (meet a h e).z (meet h a e).z x y (ap (λ q. q.z) t))
    (ap (λ k. k *ℤ p.w) m ∙ ap (λ q. q.w) s ∙ rest (value a p) (value h p) (value e p) (value b p) (meet h e b).w (meet a e b).w (meet a h b).w (meet a h e).w (meet h a e).w x y (ap (λ q. q.w) t))
  where
    rest : (va vh ve vb q r s t u : ℤ) → vh ≡ pos 0 → ve ≡ pos 0 → t ≡ neg_ℤ (pos 1) *ℤ u →
        ((va *ℤ q) +ℤ (neg_ℤ vh *ℤ r)) +ℤ ((ve *ℤ s) +ℤ (neg_ℤ vb *ℤ t)) ≡ (va *ℤ q) +ℤ (vb *ℤ u)
    rest va vh ve vb q r s t u e f g =
        let v = variable in
        (λ i. ((va *ℤ q) +ℤ (neg_ℤ (e i) *ℤ r)) +ℤ ((f i *ℤ s) +ℤ (neg_ℤ vb *ℤ g i)))
        ∙ solved (va ∷ vb ∷ q ∷ r ∷ s ∷ u ∷ []) ((v 0 ⊗ v 2 ⊕ negated (number (pos 0)) ⊗ v 3) ⊕ (number (pos 0) ⊗ v 4 ⊕ negated (v 1) ⊗ (number (neg_ℤ (pos 1)) ⊗ v 5))) (v 0 ⊗ v 2 ⊕ v 1 ⊗ v 5) tt

-- the factor is one number, seen from either end
pub line_factor : (h a e b : Plane) → value a (meet h e b) ≡ value b (meet h a e)
unfolding value meet determinant
line_factor h a e b =
    let k = plane_from 0 in let f = plane_from 4 in let g = plane_from 8 in let l = plane_from 12 in
    solved (numbers_of_plane h (numbers_of_plane a (numbers_of_plane e (numbers_of_plane b [])))) (symbol_value f (symbol_meet k g l)) (symbol_value l (symbol_meet k f g)) tt

-- so any plane's value at such a point is made of its values at the two ends
pub value_on_line : (g h a e b : Plane) (p : Point) → IsOn h p → IsOn e p →
    value a (meet h e b) *ℤ value g p ≡ (value a p *ℤ value g (meet h e b)) +ℤ (value b p *ℤ value g (meet h a e))
value_on_line g h a e b p x y =
    sym (value_times g (value a (meet h e b)) p) ∙ ap (λ q. value g q) (point_on_line h a e b p x y)
    ∙ value_sum g (point_times (value a p) (meet h e b)) (point_times (value b p) (meet h a e))
    ∙ ap₂ (λ m n. m +ℤ n) (value_times g (value a p) (meet h e b)) (value_times g (value b p) (meet h a e))
