-- A cuboid has all of a body where it has all corners of the facets.
use Rattle.std.proofs.Common.{◌≡◌, ◌+◌, pos, neg_ℤ, ◌+ℤ◌, ◌*ℤ◌, List, [], ◌∷◌, All, get_or, unsigned_abs, arith, ◌↔◌, Some, refl}
use Rattle.std.proofs.lemmas.Int.{ints}
use Rattle.std.proofs.lemmas.List.Elements.{All-from_recursion, All-pop, Contains-get_or}
use Rattle.qm_numbers.proofs.IntegerProducts.{linear, neg-*ℤ, one_*ℤ, zero_*ℤ}
use Rattle.qm_numbers.proofs.Signs.{by_least}
use Rattle.qm_space.specs.Point.{Point, IsInCube}
use Rattle.qm_space.specs.Plane.{Plane, value, IsInFront, IsNotInFront}
use Rattle.qm_space.specs.Cell.{IsInCell}
use Rattle.qm_space.specs.Cube.{cube_walls}
use Rattle.qm_space.specs.Cuboid.{Cuboid, IsInCuboid}
use Rattle.qm_space.proofs.Cubes.{cube_is_cell, cube_in_closed, walls_from_closed}
use Rattle.qm_space.proofs.Openness.{moved, moved_in_front}
use Rattle.qm_space.proofs.ClosedCells.{cell_is_closed, cell_from_closed}
use Rattle.qm_convex.specs.Winding.{corner_at}
use Rattle.qm_convex.specs.Sides.{HasNoCornerInFront}
use Rattle.qm_convex.specs.inner.Facets.{Facet}
use Rattle.qm_convex.proofs.Central.{none_in_front as none_in_front_by_corners}
use Rattle.qm_facets.specs.Body.{IsBody, with_plane, HasNoFacetInFront}
use Rattle.qm_facets.specs.Extent.{HasEachPoint, IsInClosure}
use Rattle.qm_facets.specs.inner.Joined.{HasCornersOfAll}
use Rattle.qm_facets.proofs.Bodies.{one_of_facets, none_in_front, some_in_front}

-- ---- the planes of a cuboid, with what is outside in front

abbrev low_x : Cuboid → Plane
low_x c = record { nx = neg_ℤ (pos 1); ny = pos 0; nz = pos 0; d = neg_ℤ c.x.low }

abbrev high_x : Cuboid → Plane
high_x c = record { nx = pos 1; ny = pos 0; nz = pos 0; d = c.x.high }

abbrev low_y : Cuboid → Plane
low_y c = record { nx = pos 0; ny = neg_ℤ (pos 1); nz = pos 0; d = neg_ℤ c.y.low }

abbrev high_y : Cuboid → Plane
high_y c = record { nx = pos 0; ny = pos 1; nz = pos 0; d = c.y.high }

abbrev low_z : Cuboid → Plane
low_z c = record { nx = pos 0; ny = pos 0; nz = neg_ℤ (pos 1); d = neg_ℤ c.z.low }

abbrev high_z : Cuboid → Plane
high_z c = record { nx = pos 0; ny = pos 0; nz = pos 1; d = c.z.high }

abbrev outside : Cuboid → List Plane
outside c = low_x c ∷ high_x c ∷ low_y c ∷ high_y c ∷ low_z c ∷ high_z c ∷ []

module _ (c : Cuboid) (p : Point) where
  at_low_x : value (low_x c) p ≡ (c.x.low *ℤ p.w) +ℤ neg_ℤ p.x
  unfolding value
  at_low_x = omega (arith, linear, neg-*ℤ (pos 1) p.x, one_*ℤ p.x, zero_*ℤ p.y, zero_*ℤ p.z, neg-*ℤ c.x.low p.w)

  at_high_x : value (high_x c) p ≡ p.x +ℤ neg_ℤ (c.x.high *ℤ p.w)
  unfolding value
  at_high_x = omega (arith, linear, one_*ℤ p.x, zero_*ℤ p.y, zero_*ℤ p.z)

  at_low_y : value (low_y c) p ≡ (c.y.low *ℤ p.w) +ℤ neg_ℤ p.y
  unfolding value
  at_low_y = omega (arith, linear, neg-*ℤ (pos 1) p.y, one_*ℤ p.y, zero_*ℤ p.x, zero_*ℤ p.z, neg-*ℤ c.y.low p.w)

  at_high_y : value (high_y c) p ≡ p.y +ℤ neg_ℤ (c.y.high *ℤ p.w)
  unfolding value
  at_high_y = omega (arith, linear, one_*ℤ p.y, zero_*ℤ p.x, zero_*ℤ p.z)

  at_low_z : value (low_z c) p ≡ (c.z.low *ℤ p.w) +ℤ neg_ℤ p.z
  unfolding value
  at_low_z = omega (arith, linear, neg-*ℤ (pos 1) p.z, one_*ℤ p.z, zero_*ℤ p.x, zero_*ℤ p.y, neg-*ℤ c.z.low p.w)

  at_high_z : value (high_z c) p ≡ p.z +ℤ neg_ℤ (c.z.high *ℤ p.w)
  unfolding value
  at_high_z = omega (arith, linear, one_*ℤ p.z, zero_*ℤ p.x, zero_*ℤ p.y)

  -- a point lies in the cuboid where it is in front of none
  in_cuboid : IsInCuboid c p ↔ All (λ g. IsNotInFront g p) (outside c)
  in_cuboid =
      let xl = at_low_x in let xh = at_high_x in let yl = at_low_y in let yh = at_high_y in let zl = at_low_z in let zh = at_high_z in (
        (λ is. let xa = is.x.above in let xb = is.x.below in let ya = is.y.above in let yb = is.y.below in let za = is.z.above in let zb = is.z.below in
            All-from_recursion (λ g. IsNotInFront g p) (outside c)
            (omega (arith, linear), (omega (arith, linear), (omega (arith, linear), (omega (arith, linear), (omega (arith, linear), (omega (arith, linear), tt))))))),
        (λ a.
            let xa = a 0 (low_x c) (omega arith) in let xb = a 1 (low_x c) (omega arith) in
            let ya = a 2 (low_x c) (omega arith) in let yb = a 3 (low_x c) (omega arith) in
            let za = a 4 (low_x c) (omega arith) in let zb = a 5 (low_x c) (omega arith) in
            record {
              x = record { above = omega (arith, linear); below = omega (arith, linear) };
              y = record { above = omega (arith, linear); below = omega (arith, linear) };
              z = record { above = omega (arith, linear); below = omega (arith, linear) };
            }),
      )

-- ---- a body and a plane

module _ (cell : List Plane) (facets : List Facet) (body : IsBody cell facets) where
  is_closed : (x : Point) → IsInCube x → IsInCell cell x → IsInClosure cell x
  is_closed x in_cube in_cell = record { in_cube = cube_in_closed x in_cube; not_behind = cell_is_closed cell x in_cell }

  -- what is not in front of a plane, its border with it, has no corner in front
  no_corner : (g : Plane) → ((x : Point) → IsInClosure cell x → IsNotInFront g x) → All (λ found. HasNoCornerInFront found.winding g) facets
  no_corner g all = λ place d there.
      let found = get_or facets place d in
      let listed = Contains-get_or facets place d there in
      let is = one_of_facets _ _ facets found body.are_facets listed in
      (none_in_front_by_corners found.winding g is.convex).0
      (λ z r. by_least (pos 0) (value g z)
      (λ front.
      let some = some_in_front cell facets body g (record { found = found; listed = listed; some = (z, r, front) }) in
      let both = All-pop (λ k. IsInFront k some.point) (with_plane cell g) cell (Some g) refl some.in_cell in
      let n = all some.point (is_closed some.point some.in_cube both.0) in
      let f = both.1 in
      absurd (omega (arith, linear, n, f)))
      (λ not. not))

  not_ahead : (g : Plane) → All (λ found. HasNoCornerInFront found.winding g) facets → HasNoFacetInFront g facets
  not_ahead g corners = λ place d there.
      let found = get_or facets place d in
      let is = one_of_facets _ _ facets found body.are_facets (Contains-get_or facets place d there) in
      (none_in_front_by_corners found.winding g is.convex).1 (corners place d there)

  -- and the other way round
  none_closed_in_front : (g : Plane) → All (λ found. HasNoCornerInFront found.winding g) facets → (x : Point) → IsInClosure cell x → IsNotInFront g x
  none_closed_in_front g corners x closed = by_least (pos 0) (value g x)
      (λ front.
      let v = body.has_point.point in
      let k = pos (unsigned_abs (value g v) + 1) in
      let in_cube = (cube_is_cell (moved k x v)).1 (cell_from_closed cube_walls x v k (omega (arith, ints)) (walls_from_closed x closed.in_cube) ((cube_is_cell v).0 body.has_point.in_cube)) in
      let in_cell = cell_from_closed cell x v k (omega (arith, ints)) closed.not_behind body.has_point.in_cell in
      let f = moved_in_front g x v k (unsigned_abs (value g v)) (omega arith) (omega (arith, ints)) front in
      let n = none_in_front cell facets body g (moved k x v) (not_ahead g corners) in_cube in_cell in
      absurd (omega (arith, linear, n, f)))
      (λ not. not)

  -- ---- a body and a cuboid

  pub cuboid_by_corners : (c : Cuboid) → HasEachPoint (IsInClosure cell) c ↔ HasCornersOfAll facets c
  cuboid_by_corners c = (corners, all)
    where
      corners : HasEachPoint (IsInClosure cell) c → HasCornersOfAll facets c
      corners has = λ place d there i within. (in_cuboid c (corner_at (get_or facets place d).winding i)).1
          (λ j e below. no_corner (get_or (outside c) j e) (λ x closed. (in_cuboid c x).0 (has x closed) j e below) place d there i within)

      all : HasCornersOfAll facets c → HasEachPoint (IsInClosure cell) c
      all has x closed = (in_cuboid c x).1
          (λ j e below. none_closed_in_front (get_or (outside c) j e)
          (λ place d there i within. (in_cuboid c (corner_at (get_or facets place d).winding i)).0 (has place d there i within) j e below) x closed)
