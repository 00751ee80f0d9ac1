-- A plane's sides of a winding are those of its corners.
use Rattle.std.proofs.Common.{◌≡◌, ℕ, zero, suc, ◌+◌, ◌<◌, ◌≤◌, ℤ, pos, neg_ℤ, ◌+ℤ◌, ◌*ℤ◌, ◌<ℤ◌, ◌≤ℤ◌, unsigned_abs, length, ◌↔◌, ap, sym, ◌∙◌, arith, subst, ◌⊎◌, inl, inr, ⊎_elim}
use Rattle.std.proofs.lemmas.Bool.{cases_eq}
use Rattle.std.proofs.lemmas.Int.{ints}
use Rattle.std.proofs.lemmas.List.Elements.{All-from_get_or}
use Rattle.qm_space.specs.Point.{Point, point_sum, point_times}
use Rattle.qm_space.specs.Plane.{Plane, value, IsOn, IsInFront, IsBehind, flipped}
use Rattle.qm_numbers.proofs.IntegerProducts.{linear, *ℤ_zero, *ℤ_one}
use Rattle.qm_numbers.proofs.Signs.{by_least, product_not_negative, times_at_most}
use Rattle.qm_space.proofs.Planes.{value_sum, value_times, value_flipped, flipped_in_front}
use Rattle.qm_convex.specs.Winding.{Winding, next_place, edge_at, corner_at, IsConvex, IsInRegion}
use Rattle.qm_convex.specs.Sides.{HasNoneInFront, HasSomeInFront, IsWhollyInFront, LiesIn, HasNoCornerInFront, HasNoCornerBehind, HasCornerInFront, HasCornerBehind, HasCornersOn}
use Rattle.qm_convex.specs.Rotation.{place_after, rotated}
use Rattle.qm_convex.proofs.Places.{next_inner, next_next_other, after_below, after_none}
use Rattle.qm_convex.proofs.Corners.{corner_on_plane, corner_not_behind, by_edge}
use Rattle.qm_convex.proofs.Rotation.{rotated_length, rotated_corner, rotated_convex, rotated_region}
use Rattle.qm_convex.proofs.Hull.{hull, hull_strict_at_first}

-- ---- the strict form of the hull law

-- a plane that has no corner in front of it, and one strictly behind it, has each point of the winding strictly behind it
pub hull_strict : (v : Winding) (g : Plane) → IsConvex v → ((i : ℕ) → i < length v.edges → value g (corner_at v i) ≤ℤ pos 0) →
    (k : ℕ) → k < length v.edges → value g (corner_at v k) <ℤ pos 0 → (p : Point) → IsInRegion v p → value g p <ℤ pos 0
hull_strict v g c a k h s p r =
    hull_strict_at_first (rotated k v) g (rotated_convex k v (omega arith) c)
    (λ i l. let m : i < length v.edges = omega (arith, same) in subst (λ q. value g q ≤ℤ pos 0) (sym (rotated_corner k v i (omega arith) m)) (a (place_after (length v.edges) k i) (after_below (length v.edges) k i (omega arith) m)))
    (subst (λ q. value g q <ℤ pos 0) (sym (rotated_corner k v 0 (omega arith) (omega arith) ∙ ap (corner_at v) (after_none (length v.edges) k h))) s)
    p ((rotated_region k v p h).1 r)
  where
    same : length (rotated k v).edges ≡ length v.edges
    same = rotated_length k v (omega arith)

-- the same with the sides exchanged
pub hull_in_front : (v : Winding) (g : Plane) → IsConvex v → ((i : ℕ) → i < length v.edges → pos 0 ≤ℤ value g (corner_at v i)) →
    (k : ℕ) → k < length v.edges → pos 0 <ℤ value g (corner_at v k) → (p : Point) → IsInRegion v p → pos 0 <ℤ value g p
hull_in_front v g c a k h s p r =
    let l = hull_strict v (flipped g) c (λ i m. let e = value_flipped g (corner_at v i) in let b = a i m in omega (arith, linear)) k h (let e = value_flipped g (corner_at v k) in omega (arith, linear)) p r in
    let e = value_flipped g p in
    omega (arith, linear)

-- ---- a winding has a point

-- the sum of the first three corners
pub middle : Winding → Point
middle v = point_sum (point_sum (corner_at v 0) (corner_at v 1)) (corner_at v 2)

value_middle : (g : Plane) (v : Winding) → value g (middle v) ≡ (value g (corner_at v 0) +ℤ value g (corner_at v 1)) +ℤ value g (corner_at v 2)
unfolding middle
value_middle g v =
    let s = value_sum g (point_sum (corner_at v 0) (corner_at v 1)) (corner_at v 2) in
    let t = value_sum g (corner_at v 0) (corner_at v 1) in
    omega (arith, linear)

not_after_two : (n k : ℕ) → 3 ≤ n → k ≡ next_place n 0 → next_place n 0 ≡ 1 → next_place n 1 ≡ 2 → k < n → k ≡ next_place n 2 → ⊥
not_after_two n k t e one two h f = next_next_other n 1 t (omega arith) (ap (next_place n) two ∙ sym f ∙ e ∙ one)

pub middle_in_region : (v : Winding) → IsConvex v → IsInRegion v (middle v)
unfolding middle
middle_in_region v c = record { weight = weight; on = on; inside = All-from_get_or (λ e. IsInFront e (middle v)) v.edges v.plane each }
  where
    enough : 3 ≤ length v.edges
    enough = c.enough

    weight : pos 0 <ℤ (middle v).w
    weight =
        let a = c.weight 0 (omega (arith, enough)) in
        let b = c.weight 1 (omega (arith, enough)) in
        let d = c.weight 2 (omega (arith, enough)) in
        omega (arith, linear)

    on : IsOn v.plane (middle v)
    on =
        let s = value_middle v.plane v in
        let a = corner_on_plane v 0 in
        let b = corner_on_plane v 1 in
        let d = corner_on_plane v 2 in
        omega (arith, linear)

    each : (k : ℕ) → k < length v.edges → IsInFront (edge_at v k) (middle v)
    each k h =
        let n = length v.edges in
        let s = value_middle (edge_at v k) v in
        let a = corner_not_behind v c 0 k (omega (arith, enough)) h in
        let b = corner_not_behind v c 1 k (omega (arith, enough)) h in
        let d = corner_not_behind v c 2 k (omega (arith, enough)) h in
        let one = next_inner n 0 (omega (arith, enough)) in
        let two = next_inner n 1 (omega (arith, enough)) in
        by_edge n 0 k
        (λ e. let i = c.inside 1 k (omega (arith, enough)) h (λ f. omega arith) (λ f. omega arith) in omega (arith, linear))
        (λ e. let i = c.inside 2 k (omega (arith, enough)) h (λ f. omega arith) (λ f. not_after_two n k enough e one two h f) in omega (arith, linear))
        (λ e f. let i = c.inside 0 k (omega (arith, enough)) h e f in omega (arith, linear))

pub has_a_point : (v : Winding) → IsConvex v → (p : Point) × IsInRegion v p
has_a_point v c = (middle v, middle_in_region v c)

-- ---- a corner in front of a plane has points of the winding beside it that are in front of it

-- many times the corner at the place i, and the middle
beside : Winding → ℕ → ℤ → Point
beside v i k = point_sum (point_times k (corner_at v i)) (middle v)

value_beside : (g : Plane) (v : Winding) (i : ℕ) (k : ℤ) → value g (beside v i k) ≡ (k *ℤ value g (corner_at v i)) +ℤ value g (middle v)
unfolding beside
value_beside g v i k =
    let s = value_sum g (point_times k (corner_at v i)) (middle v) in
    let t = value_times g k (corner_at v i) in
    omega (arith, linear)

beside_in_region : (v : Winding) (i : ℕ) (k : ℤ) → IsConvex v → i < length v.edges → pos 0 ≤ℤ k → IsInRegion v (beside v i k)
unfolding beside
beside_in_region v i k c h l = record { weight = weight; on = on; inside = All-from_get_or (λ e. IsInFront e (beside v i k)) v.edges v.plane each }
  where
    r : IsInRegion v (middle v)
    r = middle_in_region v c

    weight : pos 0 <ℤ (beside v i k).w
    weight =
        let a = c.weight i h in
        let b = product_not_negative k (corner_at v i).w l (omega (arith, linear)) in
        let d = r.weight in
        omega (arith, linear)

    on : IsOn v.plane (beside v i k)
    on =
        let s = value_beside v.plane v i k in
        let a = ap (λ x. k *ℤ x) (corner_on_plane v i) ∙ *ℤ_zero k in
        let b = r.on in
        omega (arith, linear)

    each : (j : ℕ) → j < length v.edges → IsInFront (edge_at v j) (beside v i k)
    each j m =
        let s = value_beside (edge_at v j) v i k in
        let a = product_not_negative k (value (edge_at v j) (corner_at v i)) l (corner_not_behind v c i j h m) in
        let b = r.inside j v.plane m in
        omega (arith, linear)

-- a whole number above 0 times a positive number is at least it
at_least_factor : (k a : ℤ) → pos 0 ≤ℤ k → pos 0 <ℤ a → k ≤ℤ (k *ℤ a)
at_least_factor k a h l = let m = times_at_most k (pos 1) a h (omega (arith, ints)) in let e = *ℤ_one k in omega (arith, linear)

pub point_in_front : (v : Winding) (g : Plane) (i : ℕ) → IsConvex v → i < length v.edges → pos 0 <ℤ value g (corner_at v i) →
    (p : Point) × IsInRegion v p × IsInFront g p
point_in_front v g i c h l = (
  beside v i many,
  beside_in_region v i many c h (omega (arith, ints)),
  (
      let s = value_beside g v i many in
      let m = at_least_factor many (value g (corner_at v i)) (omega (arith, ints)) l in
      let f : neg_ℤ (value g (middle v)) <ℤ many = omega (arith, ints) in
      omega (arith, linear)
      ),
)
  where
    many : ℤ
    many = pos (unsigned_abs (value g (middle v)) + 1)

-- ---- a corner in front, or none, by going through them all

first_in_front : (v : Winding) (g : Plane) (m : ℕ) → m ≤ length v.edges →
    HasCornerInFront v g ⊎ ((i : ℕ) → i < m → value g (corner_at v i) ≤ℤ pos 0)
first_in_front v g zero h = inr (λ i l. absurd (omega arith))
first_in_front v g (suc m) h = ⊎_elim
    inl
    (λ a. by_least (pos 0) (value g (corner_at v m))
    (λ l. inl (m, omega arith, l))
    (λ l. inr (λ i k. ⊎_elim
    (λ e. subst (λ j. value g (corner_at v j) ≤ℤ pos 0) (sym e) l)
    (λ f. a i (omega (arith, f)))
    (cases_eq i m))))
    (first_in_front v g m (omega arith))

pub by_corner_in_front : {P : Type 0} (v : Winding) (g : Plane) → (HasCornerInFront v g → P) → (HasNoCornerInFront v g → P) → P
by_corner_in_front v g some none = ⊎_elim some none (first_in_front v g (length v.edges) (omega arith))

-- ---- the central law, in its forms

-- no point is in front exactly where no corner is
pub none_in_front : (v : Winding) (g : Plane) → IsConvex v → HasNoneInFront v g ↔ HasNoCornerInFront v g
none_in_front v g c = (corners, hull v g c)
  where
    corners : HasNoneInFront v g → HasNoCornerInFront v g
    corners a i h = by_least (pos 0) (value g (corner_at v i))
        (λ l. let p = point_in_front v g i c h l in let m = a p.0 p.1 in let f = p.2 in omega (arith, linear))
        (λ l. l)

-- some point is in front exactly where some corner is
pub some_in_front : (v : Winding) (g : Plane) → IsConvex v → HasSomeInFront v g ↔ HasCornerInFront v g
some_in_front v g c = (
  (λ s. by_corner_in_front v g (λ t. t) (λ a. let m = hull v g c a s.0 s.1 in let f = s.2 in absurd (omega (arith, linear)))),
  (λ s. point_in_front v g s.0 c s.1 s.2),
)

-- some point of the winding is behind the plane
abbrev pub HasSomeBehind : Winding → Plane → Type 0
HasSomeBehind v g = (p : Point) × IsInRegion v p × IsBehind g p

-- some point is behind exactly where some corner is
pub some_behind : (v : Winding) (g : Plane) → IsConvex v → HasSomeBehind v g ↔ HasCornerBehind v g
some_behind v g c = (
  (λ s. let t = (some_in_front v (flipped g) c).0 (s.0, s.1, (flipped_in_front g s.0).1 s.2) in (t.0, t.1, (flipped_in_front g (corner_at v t.0)).0 t.2)),
  (λ s. let t = (some_in_front v (flipped g) c).1 (s.0, s.1, (flipped_in_front g (corner_at v s.0)).1 s.2) in (t.0, t.1, (flipped_in_front g t.0).0 t.2)),
)

-- each point is in front exactly where no corner is behind and some corner is in front
pub wholly_in_front : (v : Winding) (g : Plane) → IsConvex v → IsWhollyInFront v g ↔ (HasNoCornerBehind v g × HasCornerInFront v g)
wholly_in_front v g c = (corners, (λ s. hull_in_front v g c s.0 s.1.0 s.1.1 s.1.2))
  where
    turned_side : IsWhollyInFront v g → HasNoneInFront v (flipped g)
    turned_side a p r = let f = a p r in let e = value_flipped g p in omega (arith, linear)

    corners : IsWhollyInFront v g → HasNoCornerBehind v g × HasCornerInFront v g
    corners a = (
      (λ i h. let m = (none_in_front v (flipped g) c).0 (turned_side a) i h in let e = value_flipped g (corner_at v i) in omega (arith, linear)),
      (some_in_front v g c).0 (middle v, middle_in_region v c, a (middle v) (middle_in_region v c)),
    )

-- the winding lies in a plane exactly where its corners are on it
pub lies_in : (v : Winding) (g : Plane) → IsConvex v → LiesIn v g ↔ HasCornersOn v g
lies_in v g c = (corners, points)
  where
    corners : LiesIn v g → HasCornersOn v g
    corners a i h =
        let l = (none_in_front v g c).0 (λ p r. let f = a p r in omega (arith, linear)) i h in
        let m = (none_in_front v (flipped g) c).0 (λ p r. let f = a p r in let e = value_flipped g p in omega (arith, linear)) i h in
        let e = value_flipped g (corner_at v i) in
        omega (arith, linear)

    points : HasCornersOn v g → LiesIn v g
    points a p r =
        let l = hull v g c (λ i h. let f = a i h in omega (arith, linear)) p r in
        let m = hull v (flipped g) c (λ i h. let f = a i h in let e = value_flipped g (corner_at v i) in omega (arith, linear)) p r in
        let e = value_flipped g p in
        omega (arith, linear)
