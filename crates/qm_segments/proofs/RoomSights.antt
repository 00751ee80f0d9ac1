-- Worked rows: a segment through three rooms in a row. It is generic and clear, passes the three leaves in order, and so
-- the last one is in sight of the first door.
use Rattle.std.proofs.Common.{◌≡◌, ℕ, ℤ, pos, neg_ℤ, ◌-ℤ◌, ◌*ℤ◌, ◌<ℤ◌, Bool, true, false, [], ◌∷◌, Contains, if◌then◌else◌, refl, sym, ap, ◌∙◌, subst, arith, ⊎_elim}
use Rattle.std.proofs.lemmas.Int.{ints}
use Rattle.std.proofs.lemmas.List.Elements.{All-from_recursion, All-contains}
use Rattle.qm_space.specs.Point.{Point}
use Rattle.qm_space.specs.Plane.{Plane, value, IsOn, IsInFront, flipped}
use Rattle.qm_space.specs.Line.{IsBetween}
use Rattle.qm_space.specs.Book.{plane_at}
use Rattle.qm_numbers.proofs.IntegerProducts.{linear, one_*ℤ, zero_*ℤ}
use Rattle.qm_numbers.proofs.Signs.{product_positive}
use Rattle.qm_contents.specs.declared.contents.Contents.TheVariants.{Empty}
use Rattle.qm_partition.specs.LeafOfPoint.{node_value}
use Rattle.qm_coarse_rows.proofs.RoomSamples.{at, empty, rooms, out}
use Rattle.qm_segments.specs.Segment.{Segment, IsOnSegment}
use Rattle.qm_segments.specs.Generic.{IsGeneric}
use Rattle.qm_segments.specs.Clear.{IsClear, LeafHas}
use Rattle.qm_segments.specs.Passes.{IsWithinLeaf, Passes, within, onward}
use Rattle.qm_segments.specs.Sight.{IsInSight}
use Rattle.qm_segments.proofs.Betweenness.{between_weight, between_in_front, between_in_front_first}

abbrev pub place : ℤ → Point
place x = record { x = x; y = pos 5; z = pos 5; w = pos 1 }

abbrev pub line : Segment
line = record { from = place (pos 100); to = place (neg_ℤ (pos 100)) }

pub at_value : (d : ℤ) (p : Point) → value (at d) p ≡ p.x -ℤ (d *ℤ p.w)
unfolding value
at_value d p = let a = one_*ℤ p.x in let b = zero_*ℤ p.y in let c = zero_*ℤ p.z in omega (arith, linear)

-- ---- it is generic

on_line_weight : (x : Point) → IsOnSegment line x → pos 0 <ℤ x.w
on_line_weight x on = ⊎_elim
    (λ same. let e = ap (λ (p : Point). p.w) same in omega (arith, ints))
    (λ more. ⊎_elim
    (λ same. let e = ap (λ (p : Point). p.w) same in omega (arith, ints))
    (λ b. between_weight x line.from line.to b (omega (arith, ints)) (omega (arith, ints)))
    more)
    on

not_both : (x : Point) → pos 0 <ℤ x.w → IsOn (at (pos 64)) x → IsOn (at (pos 0)) x → ⊥
not_both x weight near far =
    let e = at_value (pos 64) x in
    let f = at_value (pos 0) x in
    let z = zero_*ℤ x.w in
    let m = product_positive (pos 64) x.w (omega (arith, ints)) weight in
    absurd (omega (arith, linear))

pub generic : IsGeneric rooms line
unfolding node_value value
generic = record {
  from_in_cube = record { weight = omega (arith, ints); x = record { above = omega (arith, ints); below = omega (arith, ints) }; y = record { above = omega (arith, ints); below = omega (arith, ints) }; z = record { above = omega (arith, ints); below = omega (arith, ints) } };
  to_in_cube = record { weight = omega (arith, ints); x = record { above = omega (arith, ints); below = omega (arith, ints) }; y = record { above = omega (arith, ints); below = omega (arith, ints) }; z = record { above = omega (arith, ints); below = omega (arith, ints) } };
  from_off = ((λ e. omega (arith, ints, e)), tt, ((λ e. omega (arith, ints, e)), tt, tt));
  to_off = ((λ e. omega (arith, ints, e)), tt, ((λ e. omega (arith, ints, e)), tt, tt));
  one_plane = λ x g h on_line g_plane h_plane on_g on_h. sym g_plane.2 ∙ one x (on_line_weight x on_line) g_plane.0 h_plane.0 g_plane.1 h_plane.1 (subst (λ (k : Plane). IsOn k x) (sym g_plane.2) on_g) (subst (λ (k : Plane). IsOn k x) (sym h_plane.2) on_h) ∙ h_plane.2;
}
  where
    one : (x : Point) → pos 0 <ℤ x.w → (n m : ℕ) → Contains (0 ∷ 1 ∷ []) n → Contains (0 ∷ 1 ∷ []) m → IsOn (plane_at rooms.planes n) x → IsOn (plane_at rooms.planes m) x → plane_at rooms.planes n ≡ plane_at rooms.planes m
    one x weight n m n_there m_there = All-contains (λ n. IsOn (plane_at rooms.planes n) x → IsOn (plane_at rooms.planes m) x → plane_at rooms.planes n ≡ plane_at rooms.planes m) (0 ∷ 1 ∷ []) n
        (All-from_recursion (λ n. IsOn (plane_at rooms.planes n) x → IsOn (plane_at rooms.planes m) x → plane_at rooms.planes n ≡ plane_at rooms.planes m) (0 ∷ 1 ∷ []) (
          All-contains (λ m. IsOn (at (pos 64)) x → IsOn (plane_at rooms.planes m) x → at (pos 64) ≡ plane_at rooms.planes m) (0 ∷ 1 ∷ []) m
              (All-from_recursion (λ m. IsOn (at (pos 64)) x → IsOn (plane_at rooms.planes m) x → at (pos 64) ≡ plane_at rooms.planes m) (0 ∷ 1 ∷ []) ((λ a b. refl), ((λ a b. absurd (not_both x weight a b)), tt)))
              m_there,
          (
            All-contains (λ m. IsOn (at (pos 0)) x → IsOn (plane_at rooms.planes m) x → at (pos 0) ≡ plane_at rooms.planes m) (0 ∷ 1 ∷ []) m
                (All-from_recursion (λ m. IsOn (at (pos 0)) x → IsOn (plane_at rooms.planes m) x → at (pos 0) ≡ plane_at rooms.planes m) (0 ∷ 1 ∷ []) ((λ a b. absurd (not_both x weight b a)), ((λ a b. refl), tt)))
                m_there,
            tt,
          ),
        ))
        n_there

-- ---- it is clear, since all rooms are empty

pub clear : IsClear (LeafHas rooms) rooms line Empty
clear x on_line off = any _ _
  where
    any : (b c : Bool) → (if b then (if c then empty else empty) else empty).contents ≡ Empty
    any true true = refl
    any true false = refl
    any false c = refl

-- ---- it passes the three leaves

in_first : IsWithinLeaf rooms line.from (place (pos 64)) 0
unfolding value
in_first = record {
  way = record { plane = 0; front = true } ∷ [];
  way_is = refl;
  inside = λ x b. All-from_recursion (λ h. IsInFront h x) (at (pos 64) ∷ []) (between_in_front_first (at (pos 64)) x line.from (place (pos 64)) b (omega (arith, ints)) (omega (arith, ints)), tt);
}

in_middle : IsWithinLeaf rooms (place (pos 64)) (place (pos 0)) 1
unfolding value
in_middle = record {
  way = record { plane = 0; front = false } ∷ record { plane = 1; front = true } ∷ [];
  way_is = refl;
  inside = λ x b. All-from_recursion (λ h. IsInFront h x) (flipped (at (pos 64)) ∷ at (pos 0) ∷ []) (
    between_in_front (flipped (at (pos 64))) x (place (pos 64)) (place (pos 0)) b (omega (arith, ints)) (omega (arith, ints)),
    (between_in_front_first (at (pos 0)) x (place (pos 64)) (place (pos 0)) b (omega (arith, ints)) (omega (arith, ints)), tt),
  );
}

in_last : IsWithinLeaf rooms (place (pos 0)) line.to 2
unfolding value
in_last = record {
  way = record { plane = 0; front = false } ∷ record { plane = 1; front = false } ∷ [];
  way_is = refl;
  inside = λ x b. All-from_recursion (λ h. IsInFront h x) (flipped (at (pos 64)) ∷ flipped (at (pos 0)) ∷ []) (
    between_in_front (flipped (at (pos 64))) x (place (pos 0)) line.to b (omega (arith, ints)) (omega (arith, ints)),
    (between_in_front (flipped (at (pos 0))) x (place (pos 0)) line.to b (omega (arith, ints)) (omega (arith, ints)), tt),
  );
}

first_door : IsBetween (place (pos 64)) line.from line.to
first_door = record { times_p = pos 200; times_q = pos 164; times_r = pos 36; some_p = omega (arith, ints); some_q = omega (arith, ints); some_r = omega (arith, ints); sum = refl }

second_door : IsBetween (place (pos 0)) (place (pos 64)) line.to
second_door = record { times_p = pos 164; times_q = pos 100; times_r = pos 64; some_p = omega (arith, ints); some_q = omega (arith, ints); some_r = omega (arith, ints); sum = refl }

pub passes : Passes rooms line.from line.to (0 ∷ 1 ∷ 2 ∷ [])
passes = onward first_door in_first (λ e. omega (arith, e)) (onward second_door in_middle (λ e. omega (arith, e)) (within in_last))

-- ---- so the last room is in sight of the first door

unfoldable pub sight_row : IsInSight rooms out 2
unfolding node_value value
sight_row = record {
  segment = line;
  generic = generic;
  contents = Empty;
  not_solid = λ e. cc;
  clear = clear;
  left = 0;
  entered = 1;
  rest = 2 ∷ [];
  passes = passes;
  from_is = refl;
  to_is = refl;
  last_is = refl;
}
