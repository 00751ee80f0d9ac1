-- The cell of six axial bounds lies inside the cube, and in the cuboid of their distances.
use Rattle.std.proofs.Common.{◌≡◌, ℤ, pos, neg_ℤ, ◌+ℤ◌, ◌-ℤ◌, ◌*ℤ◌, ◌<ℤ◌, ◌≤ℤ◌, List, [], ◌∷◌, refl, ap, sym, ◌∙◌, arith}
use Rattle.std.specs.List.{AllZip}
use Rattle.std.proofs.Math.IntN.{*ℤ_comm}
use Rattle.std.proofs.lemmas.Int.{ints}
use Rattle.std.proofs.lemmas.List.Elements.{All-cons, All-head, All-tail}
use Rattle.qm_numbers.proofs.IntegerProducts.{linear, neg-*ℤ}
use Rattle.qm_numbers.proofs.Signs.{times_at_most}
use Rattle.qm_space.specs.Bounds.{extent}
use Rattle.qm_space.specs.Point.{Point, IsInCube}
use Rattle.qm_space.specs.Plane.{Plane, value, IsInFront}
use Rattle.qm_space.specs.Cell.{IsInCell}
use Rattle.qm_space.specs.Cube.{mirrored, wall_x, wall_y, wall_z, cube_walls}
use Rattle.qm_space.specs.Determinant.{determinant}
use Rattle.qm_space.specs.Meet.{meet}
use Rattle.qm_space.specs.Cuboid.{IsInCuboid}
use Rattle.qm_space.proofs.Cubes.{x_low, x_high, y_low, y_high, z_low, z_high, cube_is_cell}
use Rattle.qm_space.proofs.ReducedPlanes.{same_plane}
use Rattle.qm_convex.specs.Section.{HasSameNormal, IsAxialBound, AreAxialBounds}
use Rattle.qm_convex.specs.inner.Parallelogram.{AreOpposite, cuboid_between}

-- ---- planes of one normal

-- they differ by their distances alone
pub same_normal_values : (g h : Plane) (x : Point) → HasSameNormal g h → value g x +ℤ (g.d *ℤ x.w) ≡ value h x +ℤ (h.d *ℤ x.w)
unfolding value
same_normal_values g h x same =
    let a = ap (λ (n : ℤ). n *ℤ x.x) same.nx in
    let b = ap (λ (n : ℤ). n *ℤ x.y) same.ny in
    let c = ap (λ (n : ℤ). n *ℤ x.z) same.nz in
    omega (arith, linear)

-- what is in front of the nearer one is in front of the other
pub front_of_farther : (g h : Plane) (x : Point) → HasSameNormal g h → h.d ≤ℤ g.d → pos 0 <ℤ x.w → IsInFront g x → IsInFront h x
front_of_farther g h x same less weight front =
    let e = same_normal_values g h x same in
    let p = times_at_most x.w h.d g.d (omega (arith, linear)) less in
    let c = *ℤ_comm x.w h.d in
    let d = *ℤ_comm x.w g.d in
    omega (arith, linear)

pub same_normal_back : (g h : Plane) → HasSameNormal g h → HasSameNormal h g
same_normal_back g h same = record { nx = sym same.nx; ny = sym same.ny; nz = sym same.nz }

-- with a plane they turn the same way
pub turn_by_normals : (h a b g f : Plane) → HasSameNormal a g → HasSameNormal b f → (meet h a b).w ≡ (meet h g f).w
unfolding meet
turn_by_normals h a b g f s t = λ i. determinant h.nx h.ny h.nz (s.nx i) (s.ny i) (s.nz i) (t.nx i) (t.ny i) (t.nz i)

-- planes with the normals of a wall and of the mirrored one face one another
pub opposite_by_normals : (near far wall : Plane) → HasSameNormal near wall → HasSameNormal far (mirrored wall) → AreOpposite near far
opposite_by_normals near far wall s t =
    same_plane far _ (t.nx ∙ ap neg_ℤ (sym s.nx)) (t.ny ∙ ap neg_ℤ (sym s.ny)) (t.nz ∙ ap neg_ℤ (sym s.nz)) (λ i. far.d)

-- ---- the cell of axial bounds

pub walls_are_axial : AreAxialBounds cube_walls
walls_are_axial = (on_wall wall_x, (on_wall wall_y, (on_wall wall_z, (on_wall (mirrored wall_x), (on_wall (mirrored wall_y), (on_wall (mirrored wall_z), tt))))))
  where
    on_wall : (wall : Plane) → IsAxialBound wall wall
    on_wall wall = record { normal = record { nx = λ i. wall.nx; ny = λ i. wall.ny; nz = λ i. wall.nz }; inside = omega (arith, ints) }

-- it is inside the cube
in_front_of_walls : (bounds walls : List Plane) (x : Point) → AllZip IsAxialBound bounds walls → pos 0 <ℤ x.w → IsInCell bounds x → IsInCell walls x
in_front_of_walls [] [] x are weight inside = inside
in_front_of_walls [] (wall ∷ walls) x are weight inside = absurd are
in_front_of_walls (bound ∷ bounds) [] x are weight inside = absurd are
in_front_of_walls (bound ∷ bounds) (wall ∷ walls) x are weight inside =
    All-cons (λ h. IsInFront h x) wall walls
    (front_of_farther bound wall x are.0.normal are.0.inside weight (All-head (λ h. IsInFront h x) bound bounds inside))
    (in_front_of_walls bounds walls x are.1 weight (All-tail (λ h. IsInFront h x) bound bounds inside))

pub axial_cell_in_cube : (bounds : List Plane) (x : Point) → AreAxialBounds bounds → pos 0 <ℤ x.w → IsInCell bounds x → IsInCube x
axial_cell_in_cube bounds x are weight inside = (cube_is_cell x).1 (in_front_of_walls bounds cube_walls x are weight inside)

-- the value of a bound, by the coordinate across it
axial_value : (a wall : Plane) (p : Point) (c : ℤ) → HasSameNormal a wall → wall.d ≡ neg_ℤ extent → value wall p ≡ c +ℤ (extent *ℤ p.w) → value a p ≡ c -ℤ (a.d *ℤ p.w)
axial_value a wall p c same at is =
    let e = same_normal_values a wall p same in
    let d = ap (λ (n : ℤ). n *ℤ p.w) at in
    let n = neg-*ℤ extent p.w in
    omega (arith, linear)

module _ (a : Plane) (p : Point) where
  x_near : HasSameNormal a wall_x → value a p ≡ p.x -ℤ (a.d *ℤ p.w)
  x_near same = axial_value a wall_x p p.x same refl (x_low p)

  y_near : HasSameNormal a wall_y → value a p ≡ p.y -ℤ (a.d *ℤ p.w)
  y_near same = axial_value a wall_y p p.y same refl (y_low p)

  z_near : HasSameNormal a wall_z → value a p ≡ p.z -ℤ (a.d *ℤ p.w)
  z_near same = axial_value a wall_z p p.z same refl (z_low p)

  x_far : HasSameNormal a (mirrored wall_x) → value a p ≡ neg_ℤ p.x -ℤ (a.d *ℤ p.w)
  x_far same = axial_value a (mirrored wall_x) p (neg_ℤ p.x) same refl (x_high p)

  y_far : HasSameNormal a (mirrored wall_y) → value a p ≡ neg_ℤ p.y -ℤ (a.d *ℤ p.w)
  y_far same = axial_value a (mirrored wall_y) p (neg_ℤ p.y) same refl (y_high p)

  z_far : HasSameNormal a (mirrored wall_z) → value a p ≡ neg_ℤ p.z -ℤ (a.d *ℤ p.w)
  z_far same = axial_value a (mirrored wall_z) p (neg_ℤ p.z) same refl (z_high p)

-- and in the cuboid of the distances
pub axial_cell_in_cuboid : (x y z u v w : Plane) (p : Point) → AreAxialBounds (x ∷ y ∷ z ∷ u ∷ v ∷ w ∷ []) → IsInCell (x ∷ y ∷ z ∷ u ∷ v ∷ w ∷ []) p → IsInCuboid (cuboid_between x y z u v w) p
axial_cell_in_cuboid x y z u v w p are inside = record {
  x = record {
    above = let e = x_near x p are.0.normal in let f = inside 0 wall_x (omega arith) in omega (arith, linear);
    below = let e = x_far u p are.1.1.1.0.normal in let f = inside 3 wall_x (omega arith) in let n = neg-*ℤ u.d p.w in omega (arith, linear);
  };
  y = record {
    above = let e = y_near y p are.1.0.normal in let f = inside 1 wall_x (omega arith) in omega (arith, linear);
    below = let e = y_far v p are.1.1.1.1.0.normal in let f = inside 4 wall_x (omega arith) in let n = neg-*ℤ v.d p.w in omega (arith, linear);
  };
  z = record {
    above = let e = z_near z p are.1.1.0.normal in let f = inside 2 wall_x (omega arith) in omega (arith, linear);
    below = let e = z_far w p are.1.1.1.1.1.0.normal in let f = inside 5 wall_x (omega arith) in let n = neg-*ℤ w.d p.w in omega (arith, linear);
  };
}
