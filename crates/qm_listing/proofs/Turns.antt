-- The corners of a winding, gone through backward, turn to the front of its plane.
use Rattle.std.proofs.Common.{◌≡◌, ℕ, ◌<◌, ℤ, pos, ◌+ℤ◌, ◌-ℤ◌, ◌*ℤ◌, ◌<ℤ◌, [], ◌∷◌, length, sym, subst, ◌∙◌, arith}
use Rattle.std.proofs.Math.IntN.{*ℤ_comm}
use Rattle.qm_numbers.proofs.IntegerProducts.{linear}
use Rattle.qm_numbers.proofs.Ring.{variable, number, ◌⊕◌, ◌⊖◌, ◌⊗◌, solved}
use Rattle.qm_numbers.proofs.Signs.{by_zero, by_sign, product_positive, negative_times_negative, square_not_negative}
use Rattle.qm_space.specs.Point.{Point}
use Rattle.qm_space.specs.Plane.{Plane, value}
use Rattle.qm_space.specs.Determinant.{determinant}
use Rattle.qm_space.specs.Meet.{meet}
use Rattle.qm_space.proofs.PlaneSymbols.{plane_from, numbers_of_plane, symbol_determinant}
use Rattle.qm_space.proofs.Planes.{cramer_x, cramer_y, cramer_z}
use Rattle.qm_convex.specs.Winding.{Winding, next_place, edge_at, corner_at, IsConvex}
use Rattle.qm_convex.proofs.Corners.{corner_on_plane, corner_on_edge, corner_on_next, far_corner_in_front}
use Rattle.qm_convex.proofs.Places.{next_below, next_other, next_next_other}
use Rattle.qm_listing.specs.Turning.{step_of, TurnToFront}
use Rattle.qm_listing.specs.WorldListing.{place_back}
use Rattle.qm_listing.proofs.CornersBack.{place_back-within}

-- ---- determinants with one number in a column

middle_of_first : (v a b c d e f : ℤ) → determinant (pos 0) a b v c d (pos 0) e f ≡ v *ℤ ((e *ℤ b) -ℤ (f *ℤ a))
unfolding determinant
middle_of_first v a b c d e f =
    let t = variable in
    solved (v ∷ a ∷ b ∷ c ∷ d ∷ e ∷ f ∷ []) (symbol_determinant (number (pos 0)) (t 1) (t 2) (t 0) (t 3) (t 4) (number (pos 0)) (t 5) (t 6)) (t 0 ⊗ (t 5 ⊗ t 2 ⊖ t 6 ⊗ t 1)) tt

middle_of_second : (v a b c d e f : ℤ) → determinant a (pos 0) b c v d e (pos 0) f ≡ v *ℤ ((f *ℤ a) -ℤ (e *ℤ b))
unfolding determinant
middle_of_second v a b c d e f =
    let t = variable in
    solved (v ∷ a ∷ b ∷ c ∷ d ∷ e ∷ f ∷ []) (symbol_determinant (t 1) (number (pos 0)) (t 2) (t 3) (t 0) (t 4) (t 5) (number (pos 0)) (t 6)) (t 0 ⊗ (t 6 ⊗ t 1 ⊖ t 5 ⊗ t 2)) tt

middle_of_third : (v a b c d e f : ℤ) → determinant a b (pos 0) c d v e f (pos 0) ≡ v *ℤ ((e *ℤ b) -ℤ (f *ℤ a))
unfolding determinant
middle_of_third v a b c d e f =
    let t = variable in
    solved (v ∷ a ∷ b ∷ c ∷ d ∷ e ∷ f ∷ []) (symbol_determinant (t 1) (t 2) (number (pos 0)) (t 3) (t 4) (t 0) (t 5) (t 6) (number (pos 0))) (t 0 ⊗ (t 5 ⊗ t 2 ⊖ t 6 ⊗ t 1)) tt

last_of_first : (v a b c d e f : ℤ) → determinant (pos 0) a b (pos 0) c d v e f ≡ v *ℤ ((a *ℤ d) -ℤ (b *ℤ c))
unfolding determinant
last_of_first v a b c d e f =
    let t = variable in
    solved (v ∷ a ∷ b ∷ c ∷ d ∷ e ∷ f ∷ []) (symbol_determinant (number (pos 0)) (t 1) (t 2) (number (pos 0)) (t 3) (t 4) (t 0) (t 5) (t 6)) (t 0 ⊗ (t 1 ⊗ t 4 ⊖ t 2 ⊗ t 3)) tt

last_of_second : (v a b c d e f : ℤ) → determinant a (pos 0) b c (pos 0) d e v f ≡ v *ℤ ((b *ℤ c) -ℤ (a *ℤ d))
unfolding determinant
last_of_second v a b c d e f =
    let t = variable in
    solved (v ∷ a ∷ b ∷ c ∷ d ∷ e ∷ f ∷ []) (symbol_determinant (t 1) (number (pos 0)) (t 2) (t 3) (number (pos 0)) (t 4) (t 5) (t 0) (t 6)) (t 0 ⊗ (t 2 ⊗ t 3 ⊖ t 1 ⊗ t 4)) tt

last_of_third : (v a b c d e f : ℤ) → determinant a b (pos 0) c d (pos 0) e f v ≡ v *ℤ ((a *ℤ d) -ℤ (b *ℤ c))
unfolding determinant
last_of_third v a b c d e f =
    let t = variable in
    solved (v ∷ a ∷ b ∷ c ∷ d ∷ e ∷ f ∷ []) (symbol_determinant (t 1) (t 2) (number (pos 0)) (t 3) (t 4) (number (pos 0)) (t 5) (t 6) (t 0)) (t 0 ⊗ (t 1 ⊗ t 4 ⊖ t 2 ⊗ t 3)) tt

-- ---- steps from a corner along its two edges

-- a step is k times a direction
record IsAlong (s : Point) (k x y z : ℤ) : Type 0 where
  x_is : s.x ≡ k *ℤ x
  y_is : s.y ≡ k *ℤ y
  z_is : s.z ≡ k *ℤ z

stepped : (w p q v d e : ℤ) → w *ℤ p ≡ (v *ℤ q) +ℤ d → d ≡ e → (p *ℤ w) -ℤ (q *ℤ v) ≡ e
stepped w p q v d e cramer is = let a = *ℤ_comm w p in let b = *ℤ_comm v q in omega (arith, linear)

module _ (h b c : Plane) (p : Point) (on : value h p ≡ pos 0) where
  step_on_third : value c p ≡ pos 0 → IsAlong (step_of (meet h b c) p) (value b p) ((c.ny *ℤ h.nz) -ℤ (c.nz *ℤ h.ny)) ((c.nz *ℤ h.nx) -ℤ (c.nx *ℤ h.nz)) ((c.nx *ℤ h.ny) -ℤ (c.ny *ℤ h.nx))
  step_on_third third =
      let q = meet h b c in
      let v = value b p in
      record {
        x_is = stepped q.w p.x q.x p.w _ _ (cramer_x h b c p) ((λ i. determinant (on i) h.ny h.nz v b.ny b.nz (third i) c.ny c.nz) ∙ middle_of_first v h.ny h.nz b.ny b.nz c.ny c.nz);
        y_is = stepped q.w p.y q.y p.w _ _ (cramer_y h b c p) ((λ i. determinant h.nx (on i) h.nz b.nx v b.nz c.nx (third i) c.nz) ∙ middle_of_second v h.nx h.nz b.nx b.nz c.nx c.nz);
        z_is = stepped q.w p.z q.z p.w _ _ (cramer_z h b c p) ((λ i. determinant h.nx h.ny (on i) b.nx b.ny v c.nx c.ny (third i)) ∙ middle_of_third v h.nx h.ny b.nx b.ny c.nx c.ny);
      }

  step_on_second : value b p ≡ pos 0 → IsAlong (step_of (meet h b c) p) (value c p) ((h.ny *ℤ b.nz) -ℤ (h.nz *ℤ b.ny)) ((h.nz *ℤ b.nx) -ℤ (h.nx *ℤ b.nz)) ((h.nx *ℤ b.ny) -ℤ (h.ny *ℤ b.nx))
  step_on_second second =
      let q = meet h b c in
      let u = value c p in
      record {
        x_is = stepped q.w p.x q.x p.w _ _ (cramer_x h b c p) ((λ i. determinant (on i) h.ny h.nz (second i) b.ny b.nz u c.ny c.nz) ∙ last_of_first u h.ny h.nz b.ny b.nz c.ny c.nz);
        y_is = stepped q.w p.y q.y p.w _ _ (cramer_y h b c p) ((λ i. determinant h.nx (on i) h.nz b.nx (second i) b.nz c.nx u c.nz) ∙ last_of_second u h.nx h.nz b.nx b.nz c.nx c.nz);
        z_is = stepped q.w p.z q.z p.w _ _ (cramer_z h b c p) ((λ i. determinant h.nx h.ny (on i) b.nx b.ny (second i) c.nx c.ny u) ∙ last_of_third u h.nx h.ny b.nx b.ny c.nx c.ny);
      }

-- ---- the turn

-- the square of the length of a normal
normal_square : Plane → ℤ
normal_square h = ((h.nx *ℤ h.nx) +ℤ (h.ny *ℤ h.ny)) +ℤ (h.nz *ℤ h.nz)

-- the normal times the cross product of two steps
dot_cross : Plane → ℤ → ℤ → ℤ → ℤ → ℤ → ℤ → ℤ
dot_cross h sx sy sz rx ry rz = ((h.nx *ℤ ((sy *ℤ rz) -ℤ (sz *ℤ ry))) +ℤ (h.ny *ℤ ((sz *ℤ rx) -ℤ (sx *ℤ rz)))) +ℤ (h.nz *ℤ ((sx *ℤ ry) -ℤ (sy *ℤ rx)))

turned_number : Plane → Plane → Plane → ℤ → ℤ → ℤ
turned_number h b c u v =
    dot_cross h
    (v *ℤ ((c.ny *ℤ h.nz) -ℤ (c.nz *ℤ h.ny))) (v *ℤ ((c.nz *ℤ h.nx) -ℤ (c.nx *ℤ h.nz))) (v *ℤ ((c.nx *ℤ h.ny) -ℤ (c.ny *ℤ h.nx)))
    (u *ℤ ((h.ny *ℤ b.nz) -ℤ (h.nz *ℤ b.ny))) (u *ℤ ((h.nz *ℤ b.nx) -ℤ (h.nx *ℤ b.nz))) (u *ℤ ((h.nx *ℤ b.ny) -ℤ (h.ny *ℤ b.nx)))

dot_of_cross : (h b c : Plane) (u v : ℤ) → turned_number h b c u v ≡ (u *ℤ v) *ℤ (determinant h.nx h.ny h.nz b.nx b.ny b.nz c.nx c.ny c.nz *ℤ normal_square h)
unfolding determinant turned_number dot_cross normal_square
dot_of_cross h b c u v =
    let t = variable in
    let f = plane_from 0 in let g = plane_from 4 in let k = plane_from 8 in
    let sx = t 13 ⊗ (k.ny ⊗ f.nz ⊖ k.nz ⊗ f.ny) in
    let sy = t 13 ⊗ (k.nz ⊗ f.nx ⊖ k.nx ⊗ f.nz) in
    let sz = t 13 ⊗ (k.nx ⊗ f.ny ⊖ k.ny ⊗ f.nx) in
    let rx = t 12 ⊗ (f.ny ⊗ g.nz ⊖ f.nz ⊗ g.ny) in
    let ry = t 12 ⊗ (f.nz ⊗ g.nx ⊖ f.nx ⊗ g.nz) in
    let rz = t 12 ⊗ (f.nx ⊗ g.ny ⊖ f.ny ⊗ g.nx) in
    solved (numbers_of_plane h (numbers_of_plane b (numbers_of_plane c (u ∷ v ∷ []))))
    (f.nx ⊗ (sy ⊗ rz ⊖ sz ⊗ ry) ⊕ f.ny ⊗ (sz ⊗ rx ⊖ sx ⊗ rz) ⊕ f.nz ⊗ (sx ⊗ ry ⊖ sy ⊗ rx))
    (t 12 ⊗ t 13 ⊗ (symbol_determinant f.nx f.ny f.nz g.nx g.ny g.nz k.nx k.ny k.nz ⊗ (f.nx ⊗ f.nx ⊕ f.ny ⊗ f.ny ⊕ f.nz ⊗ f.nz))) tt

some_square : (z : ℤ) → (z ≡ pos 0 → ⊥) → pos 0 <ℤ (z *ℤ z)
some_square z other = by_sign z (λ below. negative_times_negative z z below below) (λ none. absurd (other none)) (λ above. product_positive z z above above)

no_normal : (h b c : Plane) → h.nx ≡ pos 0 → h.ny ≡ pos 0 → h.nz ≡ pos 0 → determinant h.nx h.ny h.nz b.nx b.ny b.nz c.nx c.ny c.nz ≡ pos 0
unfolding determinant
no_normal h b c x y z =
    let t = variable in
    let zero = number (pos 0) in
    (λ i. determinant (x i) (y i) (z i) b.nx b.ny b.nz c.nx c.ny c.nz)
    ∙ solved (b.nx ∷ b.ny ∷ b.nz ∷ c.nx ∷ c.ny ∷ c.nz ∷ []) (symbol_determinant zero zero zero (t 0) (t 1) (t 2) (t 3) (t 4) (t 5)) zero tt

normal_some : (h b c : Plane) → pos 0 <ℤ determinant h.nx h.ny h.nz b.nx b.ny b.nz c.nx c.ny c.nz → pos 0 <ℤ normal_square h
unfolding normal_square
normal_some h b c weight =
    let xx = square_not_negative h.nx in
    let yy = square_not_negative h.ny in
    let zz = square_not_negative h.nz in
    by_zero h.nx (λ x. by_zero h.ny (λ y. by_zero h.nz (λ z. absurd (let none = no_normal h b c x y z in omega (arith, linear))) (λ z. let s = some_square h.nz z in omega (arith, linear))) (λ y. let s = some_square h.ny y in omega (arith, linear))) (λ x. let s = some_square h.nx x in omega (arith, linear))

corners_turn : (h b c : Plane) (p r : Point) → value h p ≡ pos 0 → value h r ≡ pos 0 → value c p ≡ pos 0 → value b r ≡ pos 0 → pos 0 <ℤ (meet h b c).w → pos 0 <ℤ value b p → pos 0 <ℤ value c r → TurnToFront h p (meet h b c) r
unfolding TurnToFront meet turned_number dot_cross
corners_turn h b c p r p_on r_on p_third r_second weight p_front r_front =
    let one = step_on_third h b c p p_on p_third in
    let two = step_on_second h b c r r_on r_second in
    let u = value c r in
    let v = value b p in
    let number_is = dot_of_cross h b c u v in
    let square = normal_some h b c weight in
    let most = product_positive (u *ℤ v) (determinant h.nx h.ny h.nz b.nx b.ny b.nz c.nx c.ny c.nz *ℤ normal_square h) (product_positive u v r_front p_front) (product_positive (determinant h.nx h.ny h.nz b.nx b.ny b.nz c.nx c.ny c.nz) (normal_square h) weight square) in
    let all : dot_cross h (step_of (meet h b c) p).x (step_of (meet h b c) p).y (step_of (meet h b c) p).z (step_of (meet h b c) r).x (step_of (meet h b c) r).y (step_of (meet h b c) r).z ≡ (u *ℤ v) *ℤ (determinant h.nx h.ny h.nz b.nx b.ny b.nz c.nx c.ny c.nz *ℤ normal_square h) = (λ i. dot_cross h (one.x_is i) (one.y_is i) (one.z_is i) (two.x_is i) (two.y_is i) (two.z_is i)) ∙ number_is in
    subst (λ (n : ℤ). pos 0 <ℤ n) (sym all) most

-- three neighbours of a convex polygon, the last of them first, turn to the front of its plane
pub neighbours_turn : (w : Winding) → IsConvex w → (i : ℕ) → i < length w.edges → TurnToFront w.plane (corner_at w (next_place (length w.edges) (next_place (length w.edges) i))) (corner_at w (next_place (length w.edges) i)) (corner_at w i)
unfolding corner_at
neighbours_turn w convex i within =
    let n = length w.edges in
    let j = next_place n i in
    let k = next_place n j in
    let j_within = next_below n i within in
    let k_within = next_below n j j_within in
    let enough = convex.enough in
    corners_turn w.plane (edge_at w j) (edge_at w k) (corner_at w k) (corner_at w i) (corner_on_plane w k) (corner_on_plane w i) (corner_on_edge w k) (corner_on_next w i) (convex.weight j j_within) (far_corner_in_front w convex j j_within)
    (convex.inside i k within k_within (λ e. next_next_other n i enough within e) (λ e. next_other n j (omega (arith, enough)) j_within e))

next_back : (n k i : ℕ) → k < n → i < n → next_place n (place_back n k (next_place n i)) ≡ place_back n k i
unfolding next_place place_back
next_back n k i within there = grind (arith, within, there)

-- so three neighbours of a listing do, the first of them first
pub listed_turn : (w : Winding) → IsConvex w → (k i : ℕ) → k < length w.edges → i < length w.edges → TurnToFront w.plane (corner_at w (place_back (length w.edges) k i)) (corner_at w (place_back (length w.edges) k (next_place (length w.edges) i))) (corner_at w (place_back (length w.edges) k (next_place (length w.edges) (next_place (length w.edges) i))))
listed_turn w convex k i within there =
    let n = length w.edges in
    let j = next_place n i in
    let j_there = next_below n i there in
    let m = next_place n j in
    let m_there = next_below n j j_there in
    let last = place_back n k m in
    let one : next_place n last ≡ place_back n k j = next_back n k j within j_there in
    let two : next_place n (place_back n k j) ≡ place_back n k i = next_back n k i within there in
    let turn = neighbours_turn w convex last (place_back-within n k m within m_there) in
    let middle = subst (λ (place : ℕ). TurnToFront w.plane (corner_at w (next_place n place)) (corner_at w place) (corner_at w last)) one turn in
    subst (λ (place : ℕ). TurnToFront w.plane (corner_at w place) (corner_at w (place_back n k j)) (corner_at w last)) two middle
