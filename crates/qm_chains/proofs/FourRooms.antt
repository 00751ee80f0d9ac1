-- A worked world: four rooms in a row, and a segment through all of them. So the last room is in sight of the first door, and it is
-- seen via the second one.
use Rattle.std.proofs.Common.{◌≡◌, ℕ, pos, neg_ℤ, ◌<ℤ◌, int_lt, Bool, [], ◌∷◌, Contains, if◌then◌else◌, true, false, refl, sym, ap, ◌∙◌, subst, arith, ⊎_elim}
use Rattle.std.proofs.lemmas.Int.{ints}
use Rattle.std.proofs.lemmas.List.Elements.{All-from_recursion, All-contains}
use Rattle.qm_space.specs.Point.{Point}
use Rattle.qm_space.specs.Plane.{Plane, value, IsOn, IsInFront, flipped}
use Rattle.qm_space.specs.Line.{IsBetween}
use Rattle.qm_space.specs.Book.{plane_at}
use Rattle.qm_partition.specs.Partition.{leaf, node}
use Rattle.qm_partition.specs.Tree.{Tree}
use Rattle.qm_partition.specs.LeafOfPoint.{node_value}
use Rattle.qm_contacts.specs.Portals.{Portal}
use Rattle.qm_contacts.specs.World.{World}
use Rattle.qm_coarse_rows.proofs.RoomSamples.{at, empty, door, out, in_again, on, back}
use Rattle.qm_segments.specs.Segment.{IsOnSegment}
use Rattle.qm_segments.specs.Generic.{IsGeneric}
use Rattle.qm_segments.specs.Clear.{IsClear, LeafHas}
use Rattle.qm_segments.specs.Passes.{IsWithinLeaf, Passes, within, onward}
use Rattle.qm_segments.specs.Sight.{IsInSight}
use Rattle.qm_segments.specs.SeenVia.{IsSeenVia}
use Rattle.qm_segments.proofs.Betweenness.{between_weight, between_in_front, between_in_front_first}
use Rattle.qm_segments.proofs.RoomSights.{place, line, at_value}

abbrev third : Plane
third = at (neg_ℤ (pos 64))

-- between x = 0 and x = -64 is leaf 2, behind that leaf 3
abbrev pub four_rooms : Tree
four_rooms = record { planes = at (pos 64) ∷ at (pos 0) ∷ third ∷ []; shape = node 0 (leaf empty) (node 1 (leaf empty) (node 2 (leaf empty) (leaf empty))) }

abbrev pub last_door : Portal
last_door = record { winding = door (neg_ℤ (pos 64)); into = flipped third; from = 2; to = 3 }

abbrev pub last_back : Portal
last_back = record { winding = door (neg_ℤ (pos 64)); into = third; from = 3; to = 2 }

abbrev pub four_world : World
four_world = record { tree = four_rooms; portals = out ∷ in_again ∷ on ∷ back ∷ last_door ∷ last_back ∷ [] }

-- ---- the segment is generic

on_line_weight : (x : Point) → IsOnSegment line x → pos 0 <ℤ x.w
on_line_weight x on = ⊎_elim
    (λ same. let e = ap (λ (p : Point). p.w) same in omega (arith, ints))
    (λ more. ⊎_elim
    (λ same. let e = ap (λ (p : Point). p.w) same in omega (arith, ints))
    (λ b. between_weight x line.from line.to b (omega (arith, ints)) (omega (arith, ints)))
    more)
    on

-- no point is on two of the planes
module _ (x : Point) (weight : pos 0 <ℤ x.w) where
  one_two : IsOn (at (pos 64)) x → IsOn (at (pos 0)) x → ⊥
  one_two near far = let a = at_value (pos 64) x in let b = at_value (pos 0) x in omega (arith, ints, a, b, near, far, weight)

  two_three : IsOn (at (pos 0)) x → IsOn third x → ⊥
  two_three near far = let a = at_value (pos 0) x in let b = at_value (neg_ℤ (pos 64)) x in omega (arith, ints, a, b, near, far, weight)

  one_three : IsOn (at (pos 64)) x → IsOn third x → ⊥
  one_three near far = let a = at_value (pos 64) x in let b = at_value (neg_ℤ (pos 64)) x in omega (arith, ints, a, b, near, far, weight)

each_node : (P : ℕ → Type 0) → P 0 → P 1 → P 2 → (n : ℕ) → Contains (0 ∷ 1 ∷ 2 ∷ []) n → P n
each_node P first second last n there = All-contains P (0 ∷ 1 ∷ 2 ∷ []) n (All-from_recursion P (0 ∷ 1 ∷ 2 ∷ []) (first, (second, (last, tt)))) there

abbrev IsOnBothOnce : Point → ℕ → ℕ → Type 0
IsOnBothOnce x n m = IsOn (plane_at four_rooms.planes n) x → IsOn (plane_at four_rooms.planes m) x → plane_at four_rooms.planes n ≡ plane_at four_rooms.planes m

one_plane : (x : Point) → pos 0 <ℤ x.w → (n m : ℕ) → Contains (0 ∷ 1 ∷ 2 ∷ []) n → Contains (0 ∷ 1 ∷ 2 ∷ []) m → IsOnBothOnce x n m
one_plane x weight n m n_there m_there = each_node (λ n. IsOnBothOnce x n m)
    (each_node (λ m. IsOnBothOnce x 0 m) (λ a b. refl) (λ a b. absurd (one_two x weight a b)) (λ a b. absurd (one_three x weight a b)) m m_there)
    (each_node (λ m. IsOnBothOnce x 1 m) (λ a b. absurd (one_two x weight b a)) (λ a b. refl) (λ a b. absurd (two_three x weight a b)) m m_there)
    (each_node (λ m. IsOnBothOnce x 2 m) (λ a b. absurd (one_three x weight b a)) (λ a b. absurd (two_three x weight b a)) (λ a b. refl) m m_there)
    n n_there

pub four_generic : IsGeneric four_rooms line
unfolding node_value value
four_generic = record {
  from_in_cube = record { weight = omega (arith, ints); x = record { above = omega (arith, ints); below = omega (arith, ints) }; y = record { above = omega (arith, ints); below = omega (arith, ints) }; z = record { above = omega (arith, ints); below = omega (arith, ints) } };
  to_in_cube = record { weight = omega (arith, ints); x = record { above = omega (arith, ints); below = omega (arith, ints) }; y = record { above = omega (arith, ints); below = omega (arith, ints) }; z = record { above = omega (arith, ints); below = omega (arith, ints) } };
  from_off = ((λ e. omega (arith, ints, e)), tt, ((λ e. omega (arith, ints, e)), tt, ((λ e. omega (arith, ints, e)), tt, tt)));
  to_off = ((λ e. omega (arith, ints, e)), tt, ((λ e. omega (arith, ints, e)), tt, ((λ e. omega (arith, ints, e)), tt, tt)));
  one_plane = λ x g h on_line g_plane h_plane on_g on_h. sym g_plane.2 ∙ one_plane x (on_line_weight x on_line) g_plane.0 h_plane.0 g_plane.1 h_plane.1 (subst (λ (k : Plane). IsOn k x) (sym g_plane.2) on_g) (subst (λ (k : Plane). IsOn k x) (sym h_plane.2) on_h) ∙ h_plane.2;
}

-- ---- it is clear, since all rooms are empty

pub four_clear : IsClear (LeafHas four_rooms) four_rooms line empty.contents
four_clear x on_line off = any (is_behind 0) (is_behind 1) (is_behind 2)
  where
    is_behind : ℕ → Bool
    is_behind n = int_lt (node_value four_rooms.planes n x) (pos 0)

    any : (b c d : Bool) → (if b then (if c then (if d then empty else empty) else empty) else empty).contents ≡ empty.contents
    any true true true = refl
    any true true false = refl
    any true false d = refl
    any false c d = refl

-- ---- it passes the four leaves

in_first : IsWithinLeaf four_rooms line.from (place (pos 64)) 0
unfolding value
in_first = record {
  way = record { plane = 0; front = true } ∷ [];
  way_is = refl;
  inside = λ x b. All-from_recursion (λ h. IsInFront h x) (at (pos 64) ∷ []) (between_in_front_first (at (pos 64)) x line.from (place (pos 64)) b (omega (arith, ints)) (omega (arith, ints)), tt);
}

in_second : IsWithinLeaf four_rooms (place (pos 64)) (place (pos 0)) 1
unfolding value
in_second = record {
  way = record { plane = 0; front = false } ∷ record { plane = 1; front = true } ∷ [];
  way_is = refl;
  inside = λ x b. All-from_recursion (λ h. IsInFront h x) (flipped (at (pos 64)) ∷ at (pos 0) ∷ []) (
    between_in_front (flipped (at (pos 64))) x (place (pos 64)) (place (pos 0)) b (omega (arith, ints)) (omega (arith, ints)),
    (between_in_front_first (at (pos 0)) x (place (pos 64)) (place (pos 0)) b (omega (arith, ints)) (omega (arith, ints)), tt),
  );
}

in_third : IsWithinLeaf four_rooms (place (pos 0)) (place (neg_ℤ (pos 64))) 2
unfolding value
in_third = record {
  way = record { plane = 0; front = false } ∷ record { plane = 1; front = false } ∷ record { plane = 2; front = true } ∷ [];
  way_is = refl;
  inside = λ x b. All-from_recursion (λ h. IsInFront h x) (flipped (at (pos 64)) ∷ flipped (at (pos 0)) ∷ third ∷ []) (
    between_in_front (flipped (at (pos 64))) x (place (pos 0)) (place (neg_ℤ (pos 64))) b (omega (arith, ints)) (omega (arith, ints)),
    (
      between_in_front (flipped (at (pos 0))) x (place (pos 0)) (place (neg_ℤ (pos 64))) b (omega (arith, ints)) (omega (arith, ints)),
      (between_in_front_first third x (place (pos 0)) (place (neg_ℤ (pos 64))) b (omega (arith, ints)) (omega (arith, ints)), tt),
    ),
  );
}

in_last : IsWithinLeaf four_rooms (place (neg_ℤ (pos 64))) line.to 3
unfolding value
in_last = record {
  way = record { plane = 0; front = false } ∷ record { plane = 1; front = false } ∷ record { plane = 2; front = false } ∷ [];
  way_is = refl;
  inside = λ x b. All-from_recursion (λ h. IsInFront h x) (flipped (at (pos 64)) ∷ flipped (at (pos 0)) ∷ flipped third ∷ []) (
    between_in_front (flipped (at (pos 64))) x (place (neg_ℤ (pos 64))) line.to b (omega (arith, ints)) (omega (arith, ints)),
    (
      between_in_front (flipped (at (pos 0))) x (place (neg_ℤ (pos 64))) line.to b (omega (arith, ints)) (omega (arith, ints)),
      (between_in_front (flipped third) x (place (neg_ℤ (pos 64))) line.to b (omega (arith, ints)) (omega (arith, ints)), tt),
    ),
  );
}

pub first_through : IsBetween (place (pos 64)) line.from line.to
first_through = record { times_p = pos 200; times_q = pos 164; times_r = pos 36; some_p = omega (arith, ints); some_q = omega (arith, ints); some_r = omega (arith, ints); sum = refl }

pub second_after : IsBetween (place (pos 0)) (place (pos 64)) line.to
second_after = record { times_p = pos 164; times_q = pos 100; times_r = pos 64; some_p = omega (arith, ints); some_q = omega (arith, ints); some_r = omega (arith, ints); sum = refl }

third_after : IsBetween (place (neg_ℤ (pos 64))) (place (pos 0)) line.to
third_after = record { times_p = pos 100; times_q = pos 36; times_r = pos 64; some_p = omega (arith, ints); some_q = omega (arith, ints); some_r = omega (arith, ints); sum = refl }

-- from the second door on
pub passes_on : Passes four_rooms (place (pos 0)) line.to (2 ∷ 3 ∷ [])
passes_on = onward third_after in_third (λ e. omega (arith, e)) (within in_last)

pub passes : Passes four_rooms line.from line.to (0 ∷ 1 ∷ 2 ∷ 3 ∷ [])
passes = onward first_through in_first (λ e. omega (arith, e)) (onward second_after in_second (λ e. omega (arith, e)) passes_on)

-- ---- the last room is in sight of the first door, and seen via the second

unfoldable pub four_sight : IsInSight four_rooms out 3
unfolding node_value value
four_sight = record {
  segment = line;
  generic = four_generic;
  contents = empty.contents;
  not_solid = λ e. cc;
  clear = four_clear;
  left = 0;
  entered = 1;
  rest = 2 ∷ 3 ∷ [];
  passes = passes;
  from_is = refl;
  to_is = refl;
  last_is = refl;
}

unfoldable pub seen_on : IsSeenVia four_rooms out on 3
unfolding four_sight
seen_on = record { sight = four_sight; before = []; left = 1; entered = 2; after = 3 ∷ []; leaves_are = refl; left_is = refl; entered_is = refl }
