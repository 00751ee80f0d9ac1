-- What a polygon in code is seen as.
use Rattle.std.proofs.Common.{◌≡◌, ℕ, suc, pos, ◌+◌, ◌<◌, ◌<ℤ◌, get_or, List, [], ◌∷◌, ◌++◌, length, take, ap, sym, ◌∙◌, subst, arith}
use Rattle.qm_space.specs.Plane.{Plane}
use Rattle.std.proofs.lemmas.List.{get_or_default}
use Rattle.qm_space.specs.Meet.{meet}
use Rattle.qm_convex.specs.Winding.{Winding, next_place, corner_at, IsConvex}
use Rattle.qm_convex.specs.Rotation.{rotated_list}
use Rattle.qm_convex.specs.inner.Parallelogram.{parallelogram}
use Rattle.qm_convex.specs.inner.FrontRun.{cut}

-- what a winding is seen as has as many edges
pub view_length : (u v : Winding) → u ≡ v → length u.edges ≡ length v.edges
view_length u v e = ap (λ w. length w.edges) e

-- the winding of the cut's edges is the cut
pub cut_view : (u v : Winding) (g : Plane) (start count : ℕ) (es : List Plane) → u ≡ v → es ≡ take (count + 1) (rotated_list start u.edges) ++ g ∷ [] →
    record { plane = u.plane; edges = es } ≡ cut v g start count
cut_view u v g start count es e f =
    (λ t. record { plane = u.plane; edges = f t })
    ∙ ap (λ n. record { plane = u.plane; edges = take n (rotated_list start u.edges) ++ g ∷ [] }) {x = count + 1} {y = suc count} (omega arith)
    ∙ ap (λ w. cut w g start count) e

-- and that of a parallelogram's edges is the parallelogram
pub parallelogram_view : (h a b c d h' a' b' c' d' : Plane) (es : List Plane) → h' ≡ h → a' ≡ a → b' ≡ b → c' ≡ c → d' ≡ d → es ≡ a' ∷ b' ∷ c' ∷ d' ∷ [] →
    record { plane = h'; edges = es } ≡ parallelogram h a b c d
parallelogram_view h a b c d h' a' b' c' d' es eh ea eb ec ed e = λ i. record { plane = eh i; edges = (e ∙ (λ j. ea j ∷ eb j ∷ ec j ∷ ed j ∷ [])) i }

-- where two neighbouring edges that were read meet
pub corner_by_edges : (h : Plane) (es : List Plane) (i next : ℕ) (a b : Plane) → i < length es → next < length es → next ≡ next_place (length es) i →
    a ≡ get_or es i a → b ≡ get_or es next b → meet h a b ≡ corner_at (record { plane = h; edges = es }) i
unfolding corner_at
corner_by_edges h es i next a b l m e f g =
    (λ t. meet h ((f ∙ get_or_default es i a h l) t) ((g ∙ get_or_default es next b h m ∙ ap (λ k. get_or es k h) e) t))

pub weight_by_edges : (h : Plane) (es : List Plane) (i next : ℕ) (a b : Plane) → IsConvex (record { plane = h; edges = es }) → i < length es → next < length es → next ≡ next_place (length es) i →
    a ≡ get_or es i a → b ≡ get_or es next b → pos 0 <ℤ (meet h a b).w
weight_by_edges h es i next a b c l m e f g = subst (λ p. pos 0 <ℤ p.w) (sym (corner_by_edges h es i next a b l m e f g)) (c.weight i l)
