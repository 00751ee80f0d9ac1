-- A winding read from another edge on is the same winding.
use Rattle.std.proofs.Common.{◌≡◌, ℕ, ◌-◌, ◌<◌, ◌≤◌, pos, ◌<ℤ◌, List, length, get_or, take, drop, ◌↔◌, ap, sym, ◌∙◌, arith, subst}
use Rattle.std.proofs.lemmas.List.{get_or-drop, get_or-take, get_or_append_left, get_or-append_right, length-drop, length-take-le, length-append}
use Rattle.std.proofs.lemmas.List.Elements.{All-append, All-take, All-drop, All-from_get_or}
use Rattle.qm_space.specs.Point.{Point}
use Rattle.qm_space.specs.Plane.{IsInFront}
use Rattle.qm_space.specs.Meet.{meet}
use Rattle.qm_convex.specs.Winding.{Winding, next_place, edge_at, corner_at, IsConvex, IsInRegion}
use Rattle.qm_convex.specs.Rotation.{place_after, rotated_list, rotated, IsSameRotated}
use Rattle.qm_convex.proofs.Places.{next_below, by_after, after_below, after_next, after_injective, steps_to}

pub rotated_list_length : {X : Type 0} (i : ℕ) (xs : List X) → i ≤ length xs → length (rotated_list i xs) ≡ length xs
rotated_list_length i xs h =
    let a = length-append (drop i xs) (take i xs) in
    let b = length-drop i xs in
    let c = length-take-le i xs h in
    omega arith

pub rotated_list_at : {X : Type 0} (i : ℕ) (xs : List X) (k : ℕ) (d : X) → i ≤ length xs → k < length xs →
    get_or (rotated_list i xs) k d ≡ get_or xs (place_after (length xs) i k) d
rotated_list_at i xs k d h l =
    let n = length xs in
    let m : length (drop i xs) ≡ n - i = length-drop i xs in
    by_after n i k
    (λ g e. get_or_append_left (drop i xs) (take i xs) d k (omega arith) ∙ get_or-drop i xs k d ∙ ap (λ j. get_or xs j d) (sym e))
    (λ g e.
    get_or-append_right (drop i xs) (take i xs) (n - i) k d m (omega arith)
    ∙ get_or-take i xs (k - (n - i)) d (omega arith)
    ∙ ap (λ j. get_or xs j d) (omega arith))

pub rotated_length : (i : ℕ) (v : Winding) → i ≤ length v.edges → length (rotated i v).edges ≡ length v.edges
rotated_length i v h = rotated_list_length i v.edges h

pub rotated_edge : (i : ℕ) (v : Winding) (k : ℕ) → i ≤ length v.edges → k < length v.edges →
    edge_at (rotated i v) k ≡ edge_at v (place_after (length v.edges) i k)
rotated_edge i v k h l = rotated_list_at i v.edges k v.plane h l

pub rotated_corner : (i : ℕ) (v : Winding) (k : ℕ) → i ≤ length v.edges → k < length v.edges →
    corner_at (rotated i v) k ≡ corner_at v (place_after (length v.edges) i k)
unfolding corner_at
rotated_corner i v k h l =
    let n = length v.edges in
    let same = rotated_length i v h in
    (λ t. meet v.plane (rotated_edge i v k h l t) (edge_at (rotated i v) (next_place (same t) k)))
    ∙ ap (λ e. meet v.plane (edge_at v (place_after n i k)) e) (rotated_edge i v (next_place n k) h (next_below n k l) ∙ ap (edge_at v) (after_next n i k h l))

pub rotated_convex : (i : ℕ) (v : Winding) → i ≤ length v.edges → IsConvex v → IsConvex (rotated i v)
rotated_convex i v h c = record { enough = let e = c.enough in let s = same in omega arith; weight = weight; inside = inside }
  where
    same : length (rotated i v).edges ≡ length v.edges
    same = rotated_length i v h

    weight : (k : ℕ) → k < length (rotated i v).edges → pos 0 <ℤ (corner_at (rotated i v) k).w
    weight k l =
        let m : k < length v.edges = omega (arith, same) in
        subst (λ p. pos 0 <ℤ p.w) (sym (rotated_corner i v k h m)) (c.weight (place_after (length v.edges) i k) (after_below (length v.edges) i k h m))

    inside : (j k : ℕ) → j < length (rotated i v).edges → k < length (rotated i v).edges → (k ≡ j → ⊥) → (k ≡ next_place (length (rotated i v).edges) j → ⊥) →
        IsInFront (edge_at (rotated i v) k) (corner_at (rotated i v) j)
    inside j k l m f g =
        let n = length v.edges in
        let lj : j < n = omega (arith, same) in
        let lk : k < n = omega (arith, same) in
        subst (λ e. IsInFront e (corner_at (rotated i v) j)) (sym (rotated_edge i v k h lk))
        (subst (λ p. IsInFront (edge_at v (place_after n i k)) p) (sym (rotated_corner i v j h lj))
        (c.inside (place_after n i j) (place_after n i k) (after_below n i j h lj) (after_below n i k h lk)
        (λ e. f (after_injective n i k j h lk lj e))
        (λ e. g (after_injective n i k (next_place n j) h lk (next_below n j lj) (e ∙ sym (after_next n i j h lj)) ∙ ap (λ o. next_place o j) (sym same)))))

pub rotated_region : (i : ℕ) (v : Winding) (p : Point) → i < length v.edges → IsInRegion (rotated i v) p ↔ IsInRegion v p
rotated_region i v p h = (back, there)
  where
    there : IsInRegion v p → IsInRegion (rotated i v) p
    there r = record {
      weight = r.weight;
      on = r.on;
      inside = All-append (λ e. IsInFront e p) (drop i v.edges) (take i v.edges)
          (All-drop (λ e. IsInFront e p) i v.edges r.inside) (All-take (λ e. IsInFront e p) i v.edges r.inside);
    }

    back : IsInRegion (rotated i v) p → IsInRegion v p
    back r = record { weight = r.weight; on = r.on; inside = All-from_get_or (λ e. IsInFront e p) v.edges v.plane each }
      where
        each : (k : ℕ) → k < length v.edges → IsInFront (edge_at v k) p
        each k l =
            let s = steps_to (length v.edges) i k h l in
            let m : s.0 < length (rotated i v).edges = let e = rotated_length i v (omega arith) in let t = s.1 in omega arith in
            subst (λ e. IsInFront e p) (rotated_edge i v s.0 (omega arith) s.1 ∙ ap (edge_at v) s.2) (r.inside s.0 v.plane m)

pub rotated_same : (v : Winding) (i : ℕ) → IsConvex v → i < length v.edges → IsSameRotated v i
rotated_same v i c h = record {
  convex = rotated_convex i v (omega arith) c;
  points = λ p. rotated_region i v p h;
  corners = λ k l. rotated_corner i v k (omega arith) l;
}
