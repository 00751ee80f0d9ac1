-- The boxes of a map of rooms are a shell round all rooms: floor, ceiling, the walls to the south, north and west, and the
-- last room's wall to the east.
use Rattle.std.proofs.Common.{◌≡◌, ℕ, ◌-◌, ◌≤◌, ℤ, pos, neg_ℤ, ◌+ℤ◌, ◌-ℤ◌, ◌*ℤ◌, ◌<ℤ◌, ◌≤ℤ◌, ap, refl, arith}
use Rattle.std.proofs.Math.IntN.{*ℤ_comm}
use Rattle.std.proofs.lemmas.Int.{ints}
use Rattle.qm_numbers.proofs.IntegerProducts.{linear, -ℤ-*ℤ, neg-*ℤ}
use Rattle.qm_numbers.proofs.Signs.{by_least, product_positive, times_at_most}
use Rattle.qm_space.specs.Bounds.{extent}
use Rattle.qm_space.specs.Point.{Point, IsInCube, IsWithinExtent}
use Rattle.qm_solids.specs.Holding.{IsInFrontOfNone}
use Rattle.qm_drawn.specs.Solids.{drawn_solids}
use Rattle.qm_rooms.specs.Boxes.{StoneBox}
use Rattle.qm_rooms.specs.Rooms.{east_end, wall_west, wall_part, hull_boxes, closed_wall, rooms_map}
use Rattle.qm_sealed_rooms.proofs.Borders.{IsBehindEach}
use Rattle.qm_sealed_rooms.proofs.Shells.{IsInStone, IsShell}
use Rattle.qm_sealed_rooms.proofs.BoxSolids.{box_outward, IsWithin, within_from_none, behind_from_strict, strict_from_behind, IsProperSpan}
use Rattle.qm_sealed_rooms.proofs.RoomSolids.{in_box, hull_listed, last_listed}

-- ---- products

less_times : (a b w : ℤ) → pos 0 <ℤ w → a <ℤ b → (a *ℤ w) <ℤ (b *ℤ w)
less_times a b w h l =
    let p = product_positive (b -ℤ a) w (omega (arith, linear)) h in
    let e = -ℤ-*ℤ b a w in
    omega (arith, linear)

pub at_most_times : (a b w : ℤ) → pos 0 <ℤ w → a ≤ℤ b → (a *ℤ w) ≤ℤ (b *ℤ w)
at_most_times a b w h l =
    let p = times_at_most w a b (omega (arith, linear)) l in
    let e = *ℤ_comm w a in
    let f = *ℤ_comm w b in
    omega (arith, linear)

-- ---- the boxes

-- all that the walls enclose, with the walls
abbrev pub outer_box : ℕ → StoneBox
outer_box rooms =
    record { west = neg_ℤ (pos 3600); south = neg_ℤ (pos 80); bottom = neg_ℤ (pos 16); east = east_end rooms; north = pos 80; top = pos 112 }

-- and without them
abbrev pub inner_box : ℕ → StoneBox
inner_box rooms =
    record { west = neg_ℤ (pos 3584); south = neg_ℤ (pos 64); bottom = pos 0; east = wall_west (rooms - 1); north = pos 64; top = pos 96 }

module _ (rooms : ℕ) (some : 1 ≤ rooms) (few : rooms ≤ 64) where
  long : IsProperSpan (neg_ℤ (pos 3600)) (east_end rooms)
  long = record { low_in = omega (arith, ints); order = omega (arith, ints); high_in = omega (arith, ints) }

  last_east : wall_west (rooms - 1) +ℤ pos 16 ≡ east_end rooms
  last_east = omega (arith, ints)

  -- ---- what lies within what

  pub inner_within : (x : Point) → pos 0 <ℤ x.w → IsInFrontOfNone (box_outward (inner_box rooms)) x → IsBehindEach (box_outward (outer_box rooms)) x
  inner_within x weight none =
      let i = within_from_none (inner_box rooms) x none in
      let a = i.west in let b = i.east in let c = i.south in let d = i.north in let e = i.bottom in let f = i.top in
      let w = less_times (neg_ℤ (pos 3600)) (neg_ℤ (pos 3584)) x.w weight (omega (arith, ints)) in
      let s = less_times (neg_ℤ (pos 80)) (neg_ℤ (pos 64)) x.w weight (omega (arith, ints)) in
      let l = less_times (neg_ℤ (pos 16)) (pos 0) x.w weight (omega (arith, ints)) in
      let o = less_times (wall_west (rooms - 1)) (east_end rooms) x.w weight (omega (arith, ints)) in
      let n = less_times (pos 64) (pos 80) x.w weight (omega (arith, ints)) in
      let t = less_times (pos 96) (pos 112) x.w weight (omega (arith, ints)) in
      behind_from_strict (outer_box rooms) x (record {
        west = omega (arith, linear);
        east = omega (arith, linear);
        south = omega (arith, linear);
        north = omega (arith, linear);
        bottom = omega (arith, linear);
        top = omega (arith, linear);
      })

  -- strictly between two coordinates of the closed cube
  in_extent : (low high c w : ℤ) → pos 0 <ℤ w → neg_ℤ extent ≤ℤ low → high ≤ℤ extent → (low *ℤ w) <ℤ c → c <ℤ (high *ℤ w) → IsWithinExtent c w
  in_extent low high c w weight l h a b =
      let p = at_most_times (neg_ℤ extent) low w weight l in
      let q = at_most_times high extent w weight h in
      let e = neg-*ℤ extent w in
      record { above = omega (arith, linear); below = omega (arith, linear) }

  pub outer_within : (x : Point) → pos 0 <ℤ x.w → IsBehindEach (box_outward (outer_box rooms)) x → IsInCube x
  outer_within x weight behind =
      let i = strict_from_behind (outer_box rooms) x behind in
      record {
        weight = weight;
        x = in_extent (neg_ℤ (pos 3600)) (east_end rooms) x.x x.w weight (omega (arith, ints)) (omega (arith, ints)) i.west i.east;
        y = in_extent (neg_ℤ (pos 80)) (pos 80) x.y x.w weight (omega (arith, ints)) (omega (arith, ints)) i.south i.north;
        z = in_extent (neg_ℤ (pos 16)) (pos 112) x.z x.w weight (omega (arith, ints)) (omega (arith, ints)) i.bottom i.top;
      }

  -- ---- each wall

  module _ (number : ℕ) (x : Point) (i : IsWithin (outer_box rooms) x) where
    abbrev InStone : Type 0
    InStone = IsInStone (drawn_solids (rooms_map rooms number)) x

    floor : x.z ≤ℤ (pos 0 *ℤ x.w) → InStone
    unfolding hull_boxes
    floor low =
        let box : StoneBox = record { west = neg_ℤ (pos 3600); south = neg_ℤ (pos 80); bottom = neg_ℤ (pos 16); east = east_end rooms; north = pos 80; top = pos 0 } in
        in_box rooms number box x (hull_listed rooms number box (0, omega arith, refl))
        (record {
          x = long;
          y = record { low_in = omega (arith, ints); order = omega (arith, ints); high_in = omega (arith, ints) };
          z = record { low_in = omega (arith, ints); order = omega (arith, ints); high_in = omega (arith, ints) };
        })
        (record { west = i.west; east = i.east; south = i.south; north = i.north; bottom = i.bottom; top = low })

    ceiling : (pos 96 *ℤ x.w) ≤ℤ x.z → InStone
    unfolding hull_boxes
    ceiling high =
        let box : StoneBox = record { west = neg_ℤ (pos 3600); south = neg_ℤ (pos 80); bottom = pos 96; east = east_end rooms; north = pos 80; top = pos 112 } in
        in_box rooms number box x (hull_listed rooms number box (1, omega arith, refl))
        (record {
          x = long;
          y = record { low_in = omega (arith, ints); order = omega (arith, ints); high_in = omega (arith, ints) };
          z = record { low_in = omega (arith, ints); order = omega (arith, ints); high_in = omega (arith, ints) };
        })
        (record { west = i.west; east = i.east; south = i.south; north = i.north; bottom = high; top = i.top })

    module _ (above : (pos 0 *ℤ x.w) ≤ℤ x.z) (below : x.z ≤ℤ (pos 96 *ℤ x.w)) where
      south_wall : x.y ≤ℤ (neg_ℤ (pos 64) *ℤ x.w) → InStone
      unfolding hull_boxes
      south_wall low =
          let box : StoneBox = record { west = neg_ℤ (pos 3600); south = neg_ℤ (pos 80); bottom = pos 0; east = east_end rooms; north = neg_ℤ (pos 64); top = pos 96 } in
          in_box rooms number box x (hull_listed rooms number box (2, omega arith, refl))
          (record {
            x = long;
            y = record { low_in = omega (arith, ints); order = omega (arith, ints); high_in = omega (arith, ints) };
            z = record { low_in = omega (arith, ints); order = omega (arith, ints); high_in = omega (arith, ints) };
          })
          (record { west = i.west; east = i.east; south = i.south; north = low; bottom = above; top = below })

      north_wall : (pos 64 *ℤ x.w) ≤ℤ x.y → InStone
      unfolding hull_boxes
      north_wall high =
          let box : StoneBox = record { west = neg_ℤ (pos 3600); south = pos 64; bottom = pos 0; east = east_end rooms; north = pos 80; top = pos 96 } in
          in_box rooms number box x (hull_listed rooms number box (3, omega arith, refl))
          (record {
            x = long;
            y = record { low_in = omega (arith, ints); order = omega (arith, ints); high_in = omega (arith, ints) };
            z = record { low_in = omega (arith, ints); order = omega (arith, ints); high_in = omega (arith, ints) };
          })
          (record { west = i.west; east = i.east; south = high; north = i.north; bottom = above; top = below })

      module _ (from_south : (neg_ℤ (pos 64) *ℤ x.w) ≤ℤ x.y) (to_north : x.y ≤ℤ (pos 64 *ℤ x.w)) where
        west_wall : x.x ≤ℤ (neg_ℤ (pos 3584) *ℤ x.w) → InStone
        unfolding hull_boxes
        west_wall low =
            let box : StoneBox = record { west = neg_ℤ (pos 3600); south = neg_ℤ (pos 64); bottom = pos 0; east = neg_ℤ (pos 3584); north = pos 64; top = pos 96 } in
            in_box rooms number box x (hull_listed rooms number box (4, omega arith, refl))
            (record {
              x = record { low_in = omega (arith, ints); order = omega (arith, ints); high_in = omega (arith, ints) };
              y = record { low_in = omega (arith, ints); order = omega (arith, ints); high_in = omega (arith, ints) };
              z = record { low_in = omega (arith, ints); order = omega (arith, ints); high_in = omega (arith, ints) };
            })
            (record { west = i.west; east = low; south = from_south; north = to_north; bottom = above; top = below })

        east_wall : (wall_west (rooms - 1) *ℤ x.w) ≤ℤ x.x → InStone
        unfolding wall_part
        east_wall high =
            let end = ap (λ (z : ℤ). z *ℤ x.w) last_east in
            let b = i.east in
            in_box rooms number (closed_wall (rooms - 1)) x (last_listed rooms number)
            (record {
              x = record { low_in = omega (arith, ints); order = omega (arith, ints); high_in = omega (arith, ints) };
              y = record { low_in = omega (arith, ints); order = omega (arith, ints); high_in = omega (arith, ints) };
              z = record { low_in = omega (arith, ints); order = omega (arith, ints); high_in = omega (arith, ints) };
            })
            (record { west = high; east = omega (arith, linear); south = from_south; north = to_north; bottom = above; top = below })

  -- ---- all of them

  pub filled : (number : ℕ) (x : Point) → IsInCube x → IsInFrontOfNone (box_outward (outer_box rooms)) x → (IsBehindEach (box_outward (inner_box rooms)) x → ⊥) → IsInStone (drawn_solids (rooms_map rooms number)) x
  filled number x in_cube none not_inside =
      let i = within_from_none (outer_box rooms) x none in
      by_least (pos 0 *ℤ x.w) x.z
      (λ above. by_least x.z (pos 96 *ℤ x.w)
      (λ below.
      by_least (neg_ℤ (pos 64) *ℤ x.w) x.y
      (λ from_south. by_least x.y (pos 64 *ℤ x.w)
      (λ to_north. by_least (neg_ℤ (pos 3584) *ℤ x.w) x.x
      (λ from_west. by_least x.x (wall_west (rooms - 1) *ℤ x.w)
      (λ to_east. absurd (not_inside (behind_from_strict (inner_box rooms) x (record { west = from_west; east = to_east; south = from_south; north = to_north; bottom = above; top = below }))))
      (λ far. east_wall number x i (at_most _ _ above) (at_most _ _ below) (at_most _ _ from_south) (at_most _ _ to_north) far))
      (λ near. west_wall number x i (at_most _ _ above) (at_most _ _ below) (at_most _ _ from_south) (at_most _ _ to_north) near))
      (λ far. north_wall number x i (at_most _ _ above) (at_most _ _ below) far))
      (λ near. south_wall number x i (at_most _ _ above) (at_most _ _ below) near))
      (λ far. ceiling number x i far))
      (λ near. floor number x i near)
    where
      at_most : (a b : ℤ) → a <ℤ b → a ≤ℤ b
      at_most a b l = omega (arith, linear)

  pub rooms_are_shell : (number : ℕ) → IsShell (drawn_solids (rooms_map rooms number)) (box_outward (outer_box rooms)) (box_outward (inner_box rooms))
  rooms_are_shell number = record { inner_within = inner_within; outer_within = outer_within; filled = filled number }
