-- Planes of which multiples are equal are one plane in lowest terms.
use Rattle.std.proofs.Common.{◌≡◌, ◌∙◌, ℤ, pos, ◌*ℤ◌, ◌<ℤ◌, Bool, true, false, not, IsTrue, ap, refl, sym, arith}
use Rattle.std.proofs.lemmas.Int.{ints}
use Rattle.qm_numbers.proofs.IntegerProducts.{one_*ℤ}
use Rattle.qm_numbers.proofs.Signs.{zero_beside}
use Rattle.qm_space.specs.Plane.{Plane, scaled}
use Rattle.qm_space.specs.Reduced.{leads_positive, HasNormal}
use Rattle.qm_space.specs.Turned.{turned}
use Rattle.qm_space.specs.Multiple.{IsPositiveMultiple}
use Rattle.qm_space.specs.ThreePoints.{common_factor, reduced, in_lowest_terms}
use Rattle.qm_space.proofs.ReducedPlanes.{IsLowest, same_plane, scaled_scaled, scaled_flipped, leads_scaled, leads_flipped, leading_has_normal, common_factor_positive, reduced_back, reduced_leads, reduced_lowest, multiples_equal}

-- ---- planes that lead with a positive component

lowest : (h : Plane) → HasNormal h → IsLowest (reduced h)
lowest h n = λ k x y z d. reduced_lowest h n k (record { nx = x; ny = y; nz = z; d = d })

factor_not_zero : (j : ℤ) (h : Plane) → (j ≡ pos 0 → ⊥) → HasNormal h → j *ℤ pos (common_factor h) ≡ pos 0 → ⊥
factor_not_zero j h some n e =
    let k = common_factor_positive h n in
    let z = zero_beside j (pos (common_factor h)) some e in
    absurd (omega (arith, ints))

pub lowest_of_multiples : (j k : ℤ) (g h : Plane) → (j ≡ pos 0 → ⊥) → (k ≡ pos 0 → ⊥) → scaled j g ≡ scaled k h → IsTrue (leads_positive g) → IsTrue (leads_positive h) → reduced g ≡ reduced h
lowest_of_multiples j k g h x y e s t =
    let m = leading_has_normal g s in let n = leading_has_normal h t in
    (multiples_equal (j *ℤ pos (common_factor g)) (k *ℤ pos (common_factor h)) (reduced g) (reduced h) (factor_not_zero j g x m) (factor_not_zero k h y n)
    (sym (scaled_scaled j (pos (common_factor g)) (reduced g)) ∙ ap (λ (p : Plane). scaled j p) (reduced_back g) ∙ e ∙ ap (λ (p : Plane). scaled k p) (sym (reduced_back h)) ∙ scaled_scaled k (pos (common_factor h)) (reduced h))
    (lowest g m) (lowest h n) (reduced_leads g m ∙ s) (reduced_leads h n ∙ t)).0

-- ---- planes that may be turned

-- turned to the side that its leading component says, it leads with a positive one
pub turned_leads : (side : Bool) (h : Plane) → leads_positive h ≡ side → HasNormal h → IsTrue (leads_positive (turned side h))
turned_leads true h e n = e
turned_leads false h e n = leads_flipped h n ∙ ap not e

turned_scaled : (side : Bool) (k : ℤ) (h : Plane) → turned side (scaled k h) ≡ scaled k (turned side h)
turned_scaled true k h = refl
turned_scaled false k h = sym (scaled_flipped k h)

scaled_once : (h : Plane) → scaled (pos 1) h ≡ h
scaled_once h = same_plane (scaled (pos 1) h) h (one_*ℤ h.nx) (one_*ℤ h.ny) (one_*ℤ h.nz) (one_*ℤ h.d)

pub scaled_in_lowest_terms : (k : ℤ) (h : Plane) → pos 0 <ℤ k → HasNormal h → in_lowest_terms (scaled k h) ≡ in_lowest_terms h
scaled_in_lowest_terms k h p n =
    let lead = leads_positive h in
    ap (λ (side : Bool). (reduced (turned side (scaled k h)), side)) (leads_scaled k h p)
    ∙ ap (λ (g : Plane). (g, lead)) (lowest_of_multiples (pos 1) k (turned lead (scaled k h)) (turned lead h)
    (λ e. absurd (omega (arith, ints))) (λ e. absurd (omega (arith, ints)))
    (scaled_once (turned lead (scaled k h)) ∙ turned_scaled lead k h)
    (ap leads_positive (turned_scaled lead k h) ∙ leads_scaled k (turned lead h) p ∙ turned_leads lead h refl n)
    (turned_leads lead h refl n))

-- a plane is a multiple of itself
pub multiple_of_itself : (h : Plane) → IsPositiveMultiple h h
multiple_of_itself h = record { factor = pos 1; positive = omega (arith, ints); multiple = sym (scaled_once h) }
