-- The list of a winding's corners, by their places.
use Rattle.std.proofs.Common.{◌≡◌, ℕ, ◌<◌, length, Contains, Some, slice_get, ap, sym, subst, ◌∙◌, arith}
use Rattle.std.specs.List.{All, Any}
use Rattle.std.proofs.lemmas.Option.{slice_get-get_or, get_or_from_slice_get, slice_get_within}
use Rattle.qm_space.specs.Point.{Point}
use Rattle.qm_convex.specs.Winding.{Winding, corner_at, corners}
use Rattle.qm_convex.proofs.Corners.{corners_length, corner_in_list}

pub corner_of_slice : (v : Winding) (i : ℕ) (p : Point) → slice_get (corners v) i ≡ Some p → (i < length v.edges) × (p ≡ corner_at v i)
corner_of_slice v i p e =
    let below = slice_get_within (corners v) i p e in
    let n = corners_length v in
    let within : i < length v.edges = omega arith in
    (within, sym (get_or_from_slice_get (corners v) i p p e) ∙ corner_in_list v i p within)

pub slice_of_corner : (v : Winding) (i : ℕ) → i < length v.edges → slice_get (corners v) i ≡ Some (corner_at v i)
slice_of_corner v i h = slice_get-get_or (corners v) i (corner_at v i) (let n = corners_length v in omega arith) ∙ ap (λ (p : Point). Some p) (corner_in_list v i (corner_at v i) h)

pub corner_of_contains : (v : Winding) (p : Point) → Contains (corners v) p → (i : ℕ) × (i < length v.edges) × (p ≡ corner_at v i)
corner_of_contains v p c =
    let n = corners_length v in
    let within : c.0 < length v.edges = let l = c.1 in omega arith in
    (c.0, within, sym c.2 ∙ corner_in_list v c.0 p within)

pub contains_corner : (v : Winding) (i : ℕ) → i < length v.edges → Contains (corners v) (corner_at v i)
contains_corner v i h = (i, (let n = corners_length v in omega arith), corner_in_list v i (corner_at v i) h)

-- ---- what holds of all corners, or of some, by places and in the list

pub all_corners : (P : Point → Type 0) (u : Winding) → All P (corners u) → (i : ℕ) → i < length u.edges → P (corner_at u i)
all_corners P u all i h = subst P (corner_in_list u i (corner_at u i) h) (all i (corner_at u i) (let n = corners_length u in omega arith))

pub corners_all : (P : Point → Type 0) (u : Winding) → ((i : ℕ) → i < length u.edges → P (corner_at u i)) → All P (corners u)
corners_all P u all i d h = let n = corners_length u in let below : i < length u.edges = omega arith in subst P (sym (corner_in_list u i d below)) (all i below)

pub any_corner : (P : Point → Type 0) (u : Winding) → Any P (corners u) → (i : ℕ) × (i < length u.edges) × P (corner_at u i)
any_corner P u some = let n = corners_length u in let below : some.0 < length u.edges = (let l = some.2 in omega arith) in (some.0, below, subst P (sym some.3 ∙ corner_in_list u some.0 some.1 below) some.4)

pub corner_any : (P : Point → Type 0) (u : Winding) → ((i : ℕ) × (i < length u.edges) × P (corner_at u i)) → Any P (corners u)
corner_any P u some = (some.0, corner_at u some.0, (let n = corners_length u in let l = some.1 in omega arith), corner_in_list u some.0 (corner_at u some.0) some.1, some.2)
