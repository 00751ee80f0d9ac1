-- The two sides of a cell that a plane parts: both have points, and which solids contain one of them shows on a polygon
-- where the plane goes through the cell.
use Rattle.std.proofs.Common.{◌≡◌, suc, ◌+◌, ◌≤◌, Bool, ℤ, pos, neg_ℤ, ◌*ℤ◌, ◌<ℤ◌, List, [], ◌∷◌, ◌++◌, Contains, get_or, unsigned_abs, ap, subst, arith, ◌⊎◌, ⊎_elim, true, All}
use Rattle.std.proofs.lemmas.Int.{ints}
use Rattle.std.proofs.lemmas.List.Elements.{All-push, All-contains, Contains-get_or}
use Rattle.std.proofs.Math.IntN.{*ℤ_comm}
use Rattle.qm_space.specs.Point.{Point, point_times, IsInCube}
use Rattle.qm_space.specs.Plane.{Plane, value, IsBehind, IsOn, IsInFront, IsNotInFront, flipped}
use Rattle.qm_space.specs.Reduced.{HasNormal, IsReduced}
use Rattle.qm_space.specs.Turned.{turned}
use Rattle.qm_space.specs.Cell.{IsInCell, HasPoint}
use Rattle.qm_space.specs.Cube.{cube_walls}
use Rattle.qm_space.specs.Multiple.{HasSameSides}
use Rattle.qm_numbers.proofs.IntegerProducts.{linear, *ℤ_zero, zero_*ℤ}
use Rattle.qm_numbers.proofs.Signs.{by_sign, by_least, zero_beside_positive}
use Rattle.qm_space.proofs.Planes.{value_times, value_scaled, flipped_behind}
use Rattle.qm_space.proofs.TurnedPlanes.{turned_on, turned_has_normal}
use Rattle.qm_space.proofs.Openness.{moved, value_moved, reach, each_within_reach, moved_in_front, moved_behind, moved_in_cell, moved_in_cube, ahead, ahead_in_front}
use Rattle.qm_space.proofs.Proportional.{by_proportional}
use Rattle.qm_convex.specs.Winding.{Winding, IsConvex, IsInRegion}
use Rattle.qm_convex.specs.Sides.{HasNoneInFront, HasSomeInFront, LiesIn}
use Rattle.qm_convex.proofs.Central.{has_a_point}
use Rattle.qm_solids.specs.Solid.{Solid}
use Rattle.qm_solids.specs.Holding.{IsInside, IsFull}
use Rattle.qm_solids.specs.Cells.{ContainsCell}
use Rattle.qm_solids.specs.Uniform.{MeetsNoFace, LiesOutside}
use Rattle.qm_solids.proofs.Insides.{behind_all, inside_of_behind}
use Rattle.qm_solids.proofs.PlanesInCommon.{reduced_same_sides, by_lies_on, by_sides}
use Rattle.qm_space.proofs.SameSides.{same_sides_itself, same_in_front, same_behind}
use Rattle.qm_solids.proofs.UniformCells.{contains_throughout, outside_throughout}

-- ---- both sides have points

-- the part of a cell on one side of a plane
abbrev pub side_of : List Plane → Plane → Bool → List Plane
side_of cell h side = cell ++ turned side h ∷ []

-- from a point on the plane a little to the side; planes on whose sides the point lies keep it there
module _ (cell : List Plane) (h : Plane) (side : Bool) (normal : HasNormal h) (others : List Plane) (x : Point) (in_cube : IsInCube x) (in_cell : IsInCell cell x) (on : IsOn h x) where
  step : Point
  step = ahead (turned side h)

  many : ℤ
  many = pos (suc (reach cube_walls step + reach cell step + reach others step))

  aside : Point
  aside = moved many x step

  aside_in_cube : IsInCube aside
  unfolding aside many
  aside_in_cube = moved_in_cube x step many (omega (arith, ints)) in_cube

  aside_in_front : IsInFront (turned side h) aside
  unfolding aside step
  aside_in_front =
      let front = ahead_in_front (turned side h) (turned_has_normal side h normal) in
      let e = value_moved (turned side h) many x step in
      let z = ap (λ v. many *ℤ v) ((turned_on side h x).1 on) in
      let n = *ℤ_zero many in
      omega (arith, linear)

  aside_in_side : IsInCell (side_of cell h side) aside
  unfolding aside many
  aside_in_side = All-push (λ g. IsInFront g aside) cell (turned side h) (moved_in_cell cell x step many (omega (arith, ints)) in_cell) aside_in_front

  within_reach : (g : Plane) → Contains others g → unsigned_abs (value g step) ≤ reach others step
  within_reach g among = All-contains (λ f. unsigned_abs (value f step) ≤ reach others step) others g (each_within_reach others step) among

  aside_front : (g : Plane) → Contains others g → IsInFront g x → IsInFront g aside
  unfolding aside many
  aside_front g among front = moved_in_front g x step many (reach others step) (within_reach g among) (omega (arith, ints)) front

  aside_behind : (g : Plane) → Contains others g → IsBehind g x → IsBehind g aside
  unfolding aside many
  aside_behind g among behind = moved_behind g x step many (reach others step) (within_reach g among) (omega (arith, ints)) behind

-- a cell with a point on a plane has points on both sides of it
pub both_sides : (cell : List Plane) (h : Plane) (x : Point) (side : Bool) → HasNormal h → IsInCube x → IsInCell cell x → IsOn h x → HasPoint (side_of cell h side)
both_sides cell h x side normal in_cube in_cell on = record {
  point = aside cell h side normal [] x in_cube in_cell on;
  in_cube = aside_in_cube cell h side normal [] x in_cube in_cell on;
  in_cell = aside_in_side cell h side normal [] x in_cube in_cell on;
}

-- ---- which solids contain a side

-- a polygon whose points are on the plane and in the cell
pub record IsPartOn (w : Winding) (cell : List Plane) (h : Plane) : Type 0 where
  pub convex : IsConvex w
  pub on : LiesIn w h
  pub in_cube : (p : Point) → IsInRegion w p → IsInCube p
  pub in_cell : (p : Point) → IsInRegion w p → IsInCell cell p

-- no outward plane has a point of the polygon in front, and none has the sides of the plane turned to the side
pub record SparesSide (solid : Solid) (w : Winding) (h : Plane) (side : Bool) : Type 0 where
  pub none_in_front : (g : Plane) → Contains solid.outward g → HasNoneInFront w g
  pub none_same : (g : Plane) → Contains solid.outward g → HasSameSides g (turned side h) → ⊥

-- many times a point of the polygon stays in it when it is moved along its plane
moved_in_region : (w : Winding) (p u : Point) (k : ℤ) → IsInRegion w p → IsInCube p → pos (reach cube_walls u + reach w.edges u) <ℤ k → IsOn w.plane u → IsInRegion w (moved k p u)
moved_in_region w p u k in_region in_cube large on_u = record {
  weight = (moved_in_cube p u k (omega (arith, ints)) in_cube).weight;
  on =
      let e = value_moved w.plane k p u in
      let z = ap (λ n. k *ℤ n) in_region.on in
      let n = *ℤ_zero k in
      omega (arith, linear);
  inside = moved_in_cell w.edges p u k (omega (arith, ints)) in_region.inside;
}

-- a plane on which its points are holds its whole plane
holds_its_plane : (w : Winding) (h : Plane) (p u : Point) → LiesIn w h → IsInRegion w p → IsInCube p → IsOn w.plane u → IsOn h u
holds_its_plane w h p u lies r in_cube on_u =
    let k = pos (suc (reach cube_walls u + reach w.edges u)) in
    let on = lies (moved k p u) (moved_in_region w p u k r in_cube (omega (arith, ints)) on_u) in
    let e = value_moved h k p u in
    let z = ap (λ n. k *ℤ n) (lies p r) in
    let n = *ℤ_zero k in
    omega (arith, linear)

-- and if it has a normal, its plane holds what it holds
held_by_its_plane : (w : Winding) (h : Plane) (p v : Point) → HasNormal h → LiesIn w h → IsInRegion w p → IsInCube p → IsOn h v → IsOn w.plane v
held_by_its_plane w h p v normal lies r in_cube on_v = by_proportional h w.plane
    (λ multiples.
    let front = ahead_in_front h normal in
    let e = ap (λ (g : Plane). value g (ahead h)) (multiples v) in
    let s = value_scaled (value w.plane v) h (ahead h) in
    let t = value_scaled (value h v) w.plane (ahead h) in
    let z = ap (λ n. n *ℤ value w.plane (ahead h)) on_v in
    let n = zero_*ℤ (value w.plane (ahead h)) in
    let c = *ℤ_comm (value w.plane v) (value h (ahead h)) in
    zero_beside_positive (value h (ahead h)) (value w.plane v) front (omega (arith, linear)))
    (λ u on_u off_u. absurd (off_u (holds_its_plane w h p u lies r in_cube on_u)))

-- a plane that has no point of the polygon in front, and one of its points on it, holds what the polygon's plane holds
module _ (w : Winding) (g : Plane) (p v : Point) (none : HasNoneInFront w g) (in_region : IsInRegion w p) (in_cube : IsInCube p) (on_p : IsOn g p) where
  not_ahead : (u : Point) → IsOn w.plane u → IsNotInFront g u
  not_ahead u on_u =
      let k = pos (suc (reach cube_walls u + reach w.edges u)) in
      let not = none (moved k p u) (moved_in_region w p u k in_region in_cube (omega (arith, ints)) on_u) in
      let e = value_moved g k p u in
      let z = ap (λ n. k *ℤ n) on_p in
      let n = *ℤ_zero k in
      omega (arith, linear)

  along_polygon : IsOn w.plane v → IsOn g v
  along_polygon on_v =
      let back = point_times (neg_ℤ (pos 1)) v in
      let e = value_times w.plane (neg_ℤ (pos 1)) v in
      let f = value_times g (neg_ℤ (pos 1)) v in
      let there = not_ahead v on_v in
      let here = not_ahead back (omega (arith, ints)) in
      omega (arith, ints)

module _ (solid : Solid) (cell : List Plane) (h : Plane) (side : Bool) (w : Winding) (normal : HasNormal h) (part : IsPartOn w cell h) where
  -- a full solid no face of which meets the side contains it, if it spares the side
  pub contains_side : IsFull solid → MeetsNoFace solid (side_of cell h side) → SparesSide solid w h side → ContainsCell solid (side_of cell h side)
  contains_side full meets spares = contains_throughout solid (side_of cell h side) meets q q_in_cube q_in_side inside
    where
      p : Point
      p = (has_a_point w part.convex).0

      r : IsInRegion w p
      r = (has_a_point w part.convex).1

      q : Point
      q = aside cell h side normal solid.outward p (part.in_cube p r) (part.in_cell p r) (part.on p r)

      q_in_cube : IsInCube q
      q_in_cube = aside_in_cube cell h side normal solid.outward p (part.in_cube p r) (part.in_cell p r) (part.on p r)

      q_in_side : IsInCell (side_of cell h side) q
      q_in_side = aside_in_side cell h side normal solid.outward p (part.in_cube p r) (part.in_cell p r) (part.on p r)

      q_in_front : IsInFront (turned side h) q
      q_in_front = aside_in_front cell h side normal solid.outward p (part.in_cube p r) (part.in_cell p r) (part.on p r)

      within_behind : (g : Plane) → Contains solid.outward g → IsBehind g full.within
      within_behind g among = All-contains (λ f. IsBehind f full.within) solid.outward g (behind_all solid.outward full.within full.inside) among

      by_p : (g : Plane) → Contains solid.outward g → IsBehind g p → IsBehind g q
      by_p g among behind = aside_behind cell h side normal solid.outward p (part.in_cube p r) (part.in_cell p r) (part.on p r) g among behind

      opposite_side : (g : Plane) → HasSameSides g (flipped (turned side h)) → IsBehind g q
      opposite_side g same = same_behind g (flipped (turned side h)) q same ((flipped_behind (turned side h) q).1 q_in_front)

      one : (g : Plane) → Contains solid.outward g → IsBehind g q
      one g among = by_lies_on g (turned side h) full.within q (λ on. let b = within_behind g among in absurd (omega (arith, linear))) (λ on. let f = q_in_front in absurd (omega (arith, linear)))
          (λ lies. by_sides g (turned side h) lies (λ same. absurd (spares.none_same g among same)) (opposite_side g))
          (λ v on off. by_sign (value g p)
          (λ below. by_p g among below)
          (λ zero. absurd (off (along_polygon w g p v (spares.none_in_front g among) r (part.in_cube p r) zero (held_by_its_plane w h p v normal part.on r (part.in_cube p r) ((turned_on side h v).0 on)))))
          (λ above. let not = spares.none_in_front g among p r in absurd (omega (arith, linear))))

      inside : IsInside solid q
      inside = inside_of_behind solid.outward q (λ k d there. one (get_or solid.outward k d) (Contains-get_or solid.outward k d there))

  -- and a solid that contains the side spares it
  pub side_spared : ContainsCell solid (side_of cell h side) → SparesSide solid w h side
  side_spared contains = record {
    none_in_front = λ g among p r. by_least (pos 0) (value g p)
        (λ front. absurd (both g (q p r) (aside_behind_of g among p r) (aside_front cell h side normal solid.outward p (part.in_cube p r) (part.in_cell p r) (part.on p r) g among front)))
        (λ not. not);
    none_same = λ g among same.
        let found = has_a_point w part.convex in
        let p = found.0 in
        let r = found.1 in
        both g (q p r) (aside_behind_of g among p r)
        (same_in_front g (turned side h) (q p r) same (aside_in_front cell h side normal solid.outward p (part.in_cube p r) (part.in_cell p r) (part.on p r)));
  }
    where
      q : (p : Point) → IsInRegion w p → Point
      q p r = aside cell h side normal solid.outward p (part.in_cube p r) (part.in_cell p r) (part.on p r)

      aside_behind_of : (g : Plane) → Contains solid.outward g → (p : Point) (r : IsInRegion w p) → IsBehind g (q p r)
      aside_behind_of g among p r =
          let inside = contains.inside (q p r) (aside_in_cube cell h side normal solid.outward p (part.in_cube p r) (part.in_cell p r) (part.on p r)) (aside_in_side cell h side normal solid.outward p (part.in_cube p r) (part.in_cell p r) (part.on p r)) in
          All-contains (λ f. IsBehind f (q p r)) solid.outward g (behind_all solid.outward (q p r) inside) among

      both : (g : Plane) (y : Point) → IsBehind g y → IsInFront g y → ⊥
      both g y behind front = absurd (omega (arith, linear))

  -- one that does not spare it, and no face of which meets it, lies outside it
  pub outside_side : MeetsNoFace solid (side_of cell h side) → (SparesSide solid w h side → ⊥) → LiesOutside solid (side_of cell h side)
  outside_side meets not_spared =
      let found = has_a_point w part.convex in
      let some = both_sides cell h found.0 side normal (part.in_cube found.0 found.1) (part.in_cell found.0 found.1) (part.on found.0 found.1) in
      outside_throughout solid (side_of cell h side) meets some.point some.in_cube some.in_cell
      (λ inside. not_spared (side_spared (contains_throughout solid (side_of cell h side) meets some.point some.in_cube some.in_cell inside)))

-- ---- planes in lowest terms, where the side is the front of a plane

module _ (solid : Solid) (cell : List Plane) (h : Plane) (w : Winding) (reduced : IsReduced h) (all_reduced : All IsReduced solid.outward) (part : IsPartOn w cell h) (meets : MeetsNoFace solid (cell ++ h ∷ [])) where
  -- a full solid contains it where no outward plane is the plane itself or has a point of the polygon in front
  pub contains_front : IsFull solid → ((g : Plane) → Contains solid.outward g → HasNoneInFront w g × (g ≡ h → ⊥)) → ContainsCell solid (cell ++ h ∷ [])
  contains_front full each = contains_side solid cell h true w reduced.normal part full meets (record {
    none_in_front = λ g among. (each g among).0;
    none_same = λ g among same. (each g among).1 (reduced_same_sides g h (All-contains IsReduced solid.outward g all_reduced among) reduced same);
  })

  -- and lies outside it where one is
  pub outside_front : (g : Plane) → Contains solid.outward g → HasSomeInFront w g ⊎ (g ≡ h) → LiesOutside solid (cell ++ h ∷ [])
  outside_front g among ahead_or_same = outside_side solid cell h true w reduced.normal part meets (λ spares. ⊎_elim
      (λ some. let not = spares.none_in_front g among some.0 some.1 in let front = some.2 in absurd (omega (arith, linear)))
      (λ same. spares.none_same g among (subst (λ (f : Plane). HasSameSides g f) same (same_sides_itself g)))
      ahead_or_same)
