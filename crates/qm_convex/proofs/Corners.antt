-- The sides of a winding's edges on which its corners lie.
use Rattle.std.proofs.Common.{◌≡◌, ℕ, ◌<◌, ◌≤◌, pos, ◌+ℤ◌, ◌*ℤ◌, ◌≤ℤ◌, ◌*◌, ◌^◌, unsigned_abs, List, length, get_or, ap, sym, arith, subst, ⊎_elim}
use Rattle.std.specs.List.{All, Contains}
use Rattle.std.proofs.lemmas.List.{get_or_past}
use Rattle.std.proofs.lemmas.List.FromFn.{length-map-range_with_len, get_or-map-range_with_len, fill_by_all}
use Rattle.std.proofs.lemmas.Bool.{cases_eq, cases_lt}
use Rattle.std.proofs.lemmas.List.Elements.{Contains-get_or}
use Rattle.qm_space.specs.Point.{Point}
use Rattle.qm_space.specs.Plane.{Plane, value, IsOn, IsInFront}
use Rattle.qm_space.specs.Meet.{HasMeetSizes}
use Rattle.qm_space.specs.Reduced.{IsReduced}
use Rattle.qm_numbers.proofs.IntegerProducts.{linear}
use Rattle.qm_space.proofs.Planes.{first_holds_meet, second_holds_meet, third_holds_meet}
use Rattle.qm_space.proofs.Exchange.{value_on_line}
use Rattle.qm_space.proofs.Sizes.{meet_sizes, value_at_meet_small}
use Rattle.qm_convex.specs.Winding.{Winding, next_place, edge_at, edge_after, corner_at, corners, IsConvex}
use Rattle.qm_convex.proofs.Places.{next_below, next_other, next_next_other}

-- a corner lies on the plane and on the two edges that meet there

pub corner_on_plane : (v : Winding) (i : ℕ) → value v.plane (corner_at v i) ≡ pos 0
unfolding corner_at
corner_on_plane v i = first_holds_meet v.plane (edge_at v i) (edge_at v (next_place (length v.edges) i))

pub corner_on_edge : (v : Winding) (i : ℕ) → value (edge_at v i) (corner_at v i) ≡ pos 0
unfolding corner_at
corner_on_edge v i = second_holds_meet v.plane (edge_at v i) (edge_at v (next_place (length v.edges) i))

pub corner_on_next : (v : Winding) (i : ℕ) → value (edge_at v (next_place (length v.edges) i)) (corner_at v i) ≡ pos 0
unfolding corner_at
corner_on_next v i = third_holds_meet v.plane (edge_at v i) (edge_at v (next_place (length v.edges) i))

-- so the edge after a corner holds it and the next one

pub edge_after_listed : (v : Winding) (i : ℕ) → i < length v.edges → Contains v.edges (edge_after v i)
edge_after_listed v i within = Contains-get_or v.edges (next_place (length v.edges) i) v.plane (next_below (length v.edges) i within)

pub edge_after_here : (v : Winding) (i : ℕ) → IsOn (edge_after v i) (corner_at v i)
edge_after_here v i = corner_on_next v i

pub edge_after_next : (v : Winding) (i : ℕ) → IsOn (edge_after v i) (corner_at v (next_place (length v.edges) i))
edge_after_next v i = corner_on_edge v (next_place (length v.edges) i)

-- an edge is one of the two at a corner, or another
pub by_edge : {P : Type 0} (n i k : ℕ) → (k ≡ i → P) → (k ≡ next_place n i → P) → ((k ≡ i → ⊥) → (k ≡ next_place n i → ⊥) → P) → P
by_edge n i k first second other =
    ⊎_elim first (λ f. ⊎_elim second (λ g. other f g) (cases_eq k (next_place n i))) (cases_eq k i)

-- no corner lies behind an edge
pub corner_not_behind : (v : Winding) → IsConvex v → (i k : ℕ) → i < length v.edges → k < length v.edges → pos 0 ≤ℤ value (edge_at v k) (corner_at v i)
corner_not_behind v c i k h l = by_edge (length v.edges) i k
    (λ e. let f = corner_on_edge v i in let g = ap (λ j. value (edge_at v j) (corner_at v i)) e in omega (arith, linear))
    (λ e. let f = corner_on_next v i in let g = ap (λ j. value (edge_at v j) (corner_at v i)) e in omega (arith, linear))
    (λ f g. let s = c.inside i k h l f g in omega (arith, linear))

-- the corner at the far end of an edge lies strictly in front of the edge before it
pub far_corner_in_front : (v : Winding) → IsConvex v → (j : ℕ) → j < length v.edges → IsInFront (edge_at v j) (corner_at v (next_place (length v.edges) j))
far_corner_in_front v c j h =
    let n = length v.edges in
    let t = c.enough in
    c.inside (next_place n j) j (next_below n j h) h (λ e. next_other n j (omega arith) h (sym e)) (λ e. next_next_other n j t h (sym e))

-- A point on an edge, from its values at the two edges beside it: any plane's value there is made of its values at
-- the edge's two corners
pub value_on_edge : (v : Winding) (g : Plane) (j : ℕ) (p : Point) →
    IsOn v.plane p → IsOn (edge_at v (next_place (length v.edges) j)) p →
    value (edge_at v j) (corner_at v (next_place (length v.edges) j)) *ℤ value g p ≡
    (value (edge_at v j) p *ℤ value g (corner_at v (next_place (length v.edges) j)))
    +ℤ (value (edge_at v (next_place (length v.edges) (next_place (length v.edges) j))) p *ℤ value g (corner_at v j))
unfolding corner_at
value_on_edge v g j p x y =
    let n = length v.edges in
    value_on_line g v.plane (edge_at v j) (edge_at v (next_place n j)) (edge_at v (next_place n (next_place n j))) p x y

-- ---- the list of the corners

pub corners_length : (v : Winding) → length (corners v) ≡ length v.edges
corners_length v = length-map-range_with_len (corner_at v) 0 (length v.edges)

pub corner_in_list : (v : Winding) (i : ℕ) (d : Point) → i < length v.edges → get_or (corners v) i d ≡ corner_at v i
corner_in_list v i d h = get_or-map-range_with_len (corner_at v) 0 (length v.edges) i i d h (omega arith)

-- points that are the corners one by one are the list
pub corners_by_place : (v : Winding) (ps : List Point) (d : Point) → length ps ≡ length v.edges →
    ((i : ℕ) → i < length v.edges → get_or ps i d ≡ corner_at v i) → ps ≡ corners v
corners_by_place v ps d s f = fill_by_all (corner_at v) ps (length v.edges) d s f

-- ---- how large corners are, and values there: each fits into 128 bits

edge_reduced : (v : Winding) (i : ℕ) → IsReduced v.plane → All IsReduced v.edges → IsReduced (edge_at v i)
edge_reduced v i h a = ⊎_elim (λ l. a i v.plane l) (λ l. subst IsReduced (sym (get_or_past v.edges i v.plane l)) h) (cases_lt i (length v.edges))

pub corner_sizes : (v : Winding) (i : ℕ) → IsReduced v.plane → All IsReduced v.edges → HasMeetSizes (corner_at v i)
unfolding corner_at
corner_sizes v i h a =
    let j = next_place (length v.edges) i in
    meet_sizes v.plane (edge_at v i) (edge_at v j) h (edge_reduced v i h a) (edge_reduced v j h a)

pub value_at_corner_small : (g : Plane) (v : Winding) (i : ℕ) → IsReduced g → IsReduced v.plane → All IsReduced v.edges → unsigned_abs (value g (corner_at v i)) ≤ 3 * 2 ^ 125
unfolding corner_at
value_at_corner_small g v i r h a =
    let j = next_place (length v.edges) i in
    value_at_meet_small g v.plane (edge_at v i) (edge_at v j) r h (edge_reduced v i h a) (edge_reduced v j h a)
