-- The corners of a face turn to the side that the face faces.
use Rattle.std.proofs.Common.{◌≡◌, ◌<◌, ℕ, Bool, true, false, ℤ, pos, neg_ℤ, ◌+ℤ◌, ◌-ℤ◌, ◌*ℤ◌, ◌<ℤ◌, List, [], ◌∷◌, length, sym, subst, arith}
use Rattle.qm_numbers.proofs.Ring.{variable, negated, ◌⊕◌, ◌⊖◌, ◌⊗◌, solved}
use Rattle.qm_space.specs.Point.{Point}
use Rattle.qm_space.specs.Plane.{Plane, flipped}
use Rattle.qm_space.specs.Turned.{turned}
use Rattle.qm_convex.specs.Winding.{Winding, next_place, corner_at, IsConvex}
use Rattle.qm_convex.specs.Rotation.{place_after}
use Rattle.qm_convex.proofs.Places.{next_below, after_below, after_next}
use Rattle.qm_listing.specs.Turning.{step_of, TurnToFront}
use Rattle.qm_listing.proofs.Turns.{neighbours_turn, listed_turn}
use Rattle.qm_face_layout.specs.FaceCorners.{place_on, AreNumberedCorners}

same_turn : (x y z px py pz qx qy qz : ℤ) →
    (((neg_ℤ x *ℤ ((py *ℤ qz) -ℤ (pz *ℤ qy))) +ℤ (neg_ℤ y *ℤ ((pz *ℤ qx) -ℤ (px *ℤ qz)))) +ℤ (neg_ℤ z *ℤ ((px *ℤ qy) -ℤ (py *ℤ qx))))
    ≡ (((x *ℤ ((qy *ℤ pz) -ℤ (qz *ℤ py))) +ℤ (y *ℤ ((qz *ℤ px) -ℤ (qx *ℤ pz)))) +ℤ (z *ℤ ((qx *ℤ py) -ℤ (qy *ℤ px))))
same_turn x y z px py pz qx qy qz =
    let t = variable in
    solved (x ∷ y ∷ z ∷ px ∷ py ∷ pz ∷ qx ∷ qy ∷ qz ∷ [])
    (negated (t 0) ⊗ (t 4 ⊗ t 8 ⊖ t 5 ⊗ t 7) ⊕ negated (t 1) ⊗ (t 5 ⊗ t 6 ⊖ t 3 ⊗ t 8) ⊕ negated (t 2) ⊗ (t 3 ⊗ t 7 ⊖ t 4 ⊗ t 6))
    (t 0 ⊗ (t 7 ⊗ t 5 ⊖ t 8 ⊗ t 4) ⊕ t 1 ⊗ (t 8 ⊗ t 3 ⊖ t 6 ⊗ t 5) ⊕ t 2 ⊗ (t 6 ⊗ t 4 ⊖ t 7 ⊗ t 3)) tt

-- in the other order points turn to the other side
other_turn : (h : Plane) (a b c : Point) → TurnToFront h a b c → TurnToFront (flipped h) c b a
unfolding TurnToFront
other_turn h a b c turn =
    let p = step_of b c in
    let q = step_of b a in
    subst (λ (n : ℤ). pos 0 <ℤ n) (sym (same_turn h.nx h.ny h.nz p.x p.y p.z q.x q.y q.z)) turn

module _ (w : Winding) (convex : IsConvex w) (first i : ℕ) (within : first < length w.edges) (there : i < length w.edges) where
  abbrev corner_on : Bool → ℕ → Point
  corner_on backward k = corner_at w (place_on backward (length w.edges) first k)

  three_turn : (backward : Bool) → TurnToFront (turned backward w.plane) (corner_on backward i) (corner_on backward (next_place (length w.edges) i)) (corner_on backward (next_place (length w.edges) (next_place (length w.edges) i)))
  three_turn true = listed_turn w convex first i within there
  three_turn false =
      let count = length w.edges in
      let j = next_place count i in
      let j_there = next_below count i there in
      let p = place_after count first i in
      let p_there = after_below count first i (omega (arith, within)) there in
      let one : place_after count first j ≡ next_place count p = after_next count first i (omega (arith, within)) there in
      let two : place_after count first (next_place count j) ≡ next_place count (place_after count first j) = after_next count first j (omega (arith, within)) j_there in
      let turn = other_turn w.plane (corner_at w (next_place count (next_place count p))) (corner_at w (next_place count p)) (corner_at w p) (neighbours_turn w convex p p_there) in
      let middle = subst (λ (place : ℕ). TurnToFront (flipped w.plane) (corner_at w p) (corner_at w place) (corner_at w (next_place count place))) (sym one) turn in
      subst (λ (place : ℕ). TurnToFront (flipped w.plane) (corner_at w p) (corner_at w (place_after count first j)) (corner_at w place)) (sym two) middle

-- each three neighbours among the corners of a face turn to the side that it faces
pub face_turn : (planes : List Plane) (bound : ℕ) (w : Winding) (into : Plane) (corners : List (List ℤ)) → IsConvex w → (are : AreNumberedCorners planes bound w into corners) → (i : ℕ) → i < length w.edges →
    let n = length w.edges in
    let at : ℕ → Point = λ k. corner_at w (place_on are.in_front n are.first k) in
    TurnToFront into (at i) (at (next_place n i)) (at (next_place n (next_place n i)))
face_turn planes bound w into corners convex are i there =
    let n = length w.edges in
    let at : ℕ → Point = λ k. corner_at w (place_on are.in_front n are.first k) in
    subst (λ (h : Plane). TurnToFront h (at i) (at (next_place n i)) (at (next_place n (next_place n i)))) (sym are.into_is) (three_turn w convex are.first i are.first_is.within there are.in_front)
