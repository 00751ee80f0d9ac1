-- The pairs of planes of a cell, in the order in which they stand across a plane.
use Rattle.std.proofs.Common.{◌≡◌, ℤ, pos, neg_ℤ, ◌<ℤ◌, ◌≤ℤ◌, ⊎_elim, List, [], ◌∷◌, get_or, refl, sym, subst, arith, int_cmp, Less, Equal, Greater, Ordering, ◌∙◌}
use Rattle.std.specs.List.{All, Contains}
use Rattle.std.proofs.lemmas.Int.{ints}
use Rattle.std.proofs.lemmas.List.Elements.{All-from_recursion}
use Rattle.qm_numbers.proofs.IntegerProducts.{linear}
use Rattle.qm_numbers.proofs.Signs.{by_sign, less_compares, greater_compares, equal_compares}
use Rattle.qm_space.specs.Point.{IsCoordinate}
use Rattle.qm_space.specs.Plane.{Plane, IsInFront}
use Rattle.qm_space.specs.Meet.{meet}
use Rattle.qm_space.specs.Reduced.{HasNormal}
use Rattle.qm_space.specs.Cube.{wall_x, wall_y, wall_z}
use Rattle.qm_convex.specs.Winding.{Winding}
use Rattle.qm_convex.specs.World.{IsInWorld, LiesWithin}
use Rattle.qm_convex.specs.Section.{IsSection, MissesCell, AreAxialBounds}
use Rattle.qm_convex.proofs.Squares.{turn_exchanged, turn_x_y, turn_z_x, turn_y_z}
use Rattle.qm_convex.proofs.Parallelograms.{none_between}
use Rattle.qm_convex.proofs.AxialBounds.{turn_by_normals, opposite_by_normals, axial_cell_in_cube, axial_cell_in_cuboid}
use Rattle.qm_space.proofs.Cubes.{cube_in_closed}
use Rattle.qm_wind.specs.declared.axial_cell.Opposites.{Opposites}
use Rattle.qm_wind.specs.declared.axial_cell.AxialCell.{AxialCell}
use Rattle.qm_wind.specs.declared.across.Across.{Across}
use Rattle.qm_wind.specs.inner.AxialCells.{bounds_of, IsOpen, IsShut, axial_cuboid}
use Rattle.qm_wind.specs.inner.Across.{ArePairs, StandAcross}

-- ---- pairs in other orders

pairs_exchanged : (cell : AxialCell) (a b c : Opposites) → ArePairs cell a b c → ArePairs cell b a c
pairs_exchanged cell a b c are = record {
  inside = λ p. ((λ i. let s = (are.inside p).0 i in (s.1, s.0, s.2)), (λ s. (are.inside p).1 (s.1, s.0, s.2)));
  first = are.second;
  second = are.first;
  third = are.third;
}

pairs_rotated : (cell : AxialCell) (a b c : Opposites) → ArePairs cell a b c → ArePairs cell b c a
pairs_rotated cell a b c are = record {
  inside = λ p. ((λ i. let s = (are.inside p).0 i in (s.1, s.2, s.0)), (λ s. (are.inside p).1 (s.2, s.0, s.1)));
  first = are.second;
  second = are.third;
  third = are.first;
}

-- the planes of the first two pairs, in the order of a parallelogram's edges, are planes of the cell
pub edges_across : (cell : AxialCell) (a b c : Opposites) → ArePairs cell a b c → All (Contains (bounds_of cell)) (a.near ∷ b.near ∷ a.far ∷ b.far ∷ [])
edges_across cell a b c are =
    All-from_recursion (Contains (bounds_of cell)) (a.near ∷ b.near ∷ a.far ∷ b.far ∷ []) (are.first.near, (are.second.near, (are.first.far, (are.second.far, tt))))

-- pairs that stand across a plane, as the sign of the component across the first two says
across_front : (h : Plane) (cell : AxialCell) (a b c : Opposites) (z : ℤ) → ArePairs cell a b c → (meet h a.near b.near).w ≡ z → pos 0 <ℤ z → StandAcross h cell (record { first = a; second = b; third = c })
across_front h cell a b c z are e f = record { are = are; turn = omega (arith, linear) }

across_back : (h : Plane) (cell : AxialCell) (a b c : Opposites) (z : ℤ) → ArePairs cell a b c → (meet h a.near b.near).w ≡ z → z <ℤ pos 0 → StandAcross h cell (record { first = b; second = a; third = c })
across_back h cell a b c z are e f = record { are = pairs_exchanged cell a b c are; turn = let t = turn_exchanged h a.near b.near in omega (arith, linear) }

-- ---- the pairs of an open cell

module _ (h : Plane) (cell : AxialCell) (are : AreAxialBounds (bounds_of cell)) (wide : IsOpen cell) where
  pairs_x_y_z : ArePairs cell cell.x cell.y cell.z
  pairs_x_y_z = record {
    inside = λ p. (
      (λ i. (
        record { near = i 0 wall_x (omega arith); far = i 3 wall_x (omega arith) },
        record { near = i 1 wall_x (omega arith); far = i 4 wall_x (omega arith) },
        record { near = i 2 wall_x (omega arith); far = i 5 wall_x (omega arith) },
      )),
      (λ s. All-from_recursion (λ g. IsInFront g p) (bounds_of cell) (s.0.near, (s.1.near, (s.2.near, (s.0.far, (s.1.far, (s.2.far, tt))))))),
    );
    first = record { near = (0, omega arith, refl); far = (3, omega arith, refl); opposite = opposite_by_normals cell.x.near cell.x.far wall_x are.0.normal are.1.1.1.0.normal; apart = wide.x };
    second = record { near = (1, omega arith, refl); far = (4, omega arith, refl); opposite = opposite_by_normals cell.y.near cell.y.far wall_y are.1.0.normal are.1.1.1.1.0.normal; apart = wide.y };
    third = record { near = (2, omega arith, refl); far = (5, omega arith, refl); opposite = opposite_by_normals cell.z.near cell.z.far wall_z are.1.1.0.normal are.1.1.1.1.1.0.normal; apart = wide.z };
  }

  pairs_y_z_x : ArePairs cell cell.y cell.z cell.x
  pairs_y_z_x = pairs_rotated cell cell.x cell.y cell.z pairs_x_y_z

  pairs_z_x_y : ArePairs cell cell.z cell.x cell.y
  pairs_z_x_y = pairs_rotated cell cell.y cell.z cell.x pairs_y_z_x

  across_x_y : (meet h cell.x.near cell.y.near).w ≡ h.nz
  across_x_y = turn_by_normals h cell.x.near cell.y.near wall_x wall_y are.0.normal are.1.0.normal ∙ turn_x_y h

  across_z_x : (meet h cell.z.near cell.x.near).w ≡ h.ny
  across_z_x = turn_by_normals h cell.z.near cell.x.near wall_z wall_x are.1.1.0.normal are.0.normal ∙ turn_z_x h

  across_y_z : (meet h cell.y.near cell.z.near).w ≡ h.nx
  across_y_z = turn_by_normals h cell.y.near cell.z.near wall_y wall_z are.1.0.normal are.1.1.0.normal ∙ turn_y_z h

  module _ (u : Plane) (e : u ≡ h) (s : Across) where
    pub z_front : (o : Ordering) → o ≡ int_cmp u.nz (pos 0) → o ≡ Greater → s ≡ record { first = cell.x; second = cell.y; third = cell.z } → StandAcross h cell s
    z_front o f g is = subst (StandAcross h cell) (sym is) (across_front h cell cell.x cell.y cell.z h.nz pairs_x_y_z across_x_y (subst (λ k. pos 0 <ℤ k.nz) e (greater_compares u.nz (pos 0) (sym f ∙ g))))

    pub z_back : (o : Ordering) → o ≡ int_cmp u.nz (pos 0) → o ≡ Less → s ≡ record { first = cell.y; second = cell.x; third = cell.z } → StandAcross h cell s
    z_back o f g is = subst (StandAcross h cell) (sym is) (across_back h cell cell.x cell.y cell.z h.nz pairs_x_y_z across_x_y (subst (λ k. k.nz <ℤ pos 0) e (less_compares u.nz (pos 0) (sym f ∙ g))))

    pub y_front : (o : Ordering) → o ≡ int_cmp u.ny (pos 0) → o ≡ Greater → s ≡ record { first = cell.z; second = cell.x; third = cell.y } → StandAcross h cell s
    y_front o f g is = subst (StandAcross h cell) (sym is) (across_front h cell cell.z cell.x cell.y h.ny pairs_z_x_y across_z_x (subst (λ k. pos 0 <ℤ k.ny) e (greater_compares u.ny (pos 0) (sym f ∙ g))))

    pub y_back : (o : Ordering) → o ≡ int_cmp u.ny (pos 0) → o ≡ Less → s ≡ record { first = cell.x; second = cell.z; third = cell.y } → StandAcross h cell s
    y_back o f g is = subst (StandAcross h cell) (sym is) (across_back h cell cell.z cell.x cell.y h.ny pairs_z_x_y across_z_x (subst (λ k. k.ny <ℤ pos 0) e (less_compares u.ny (pos 0) (sym f ∙ g))))

    pub x_back_below : u.nx <ℤ pos 0 → s ≡ record { first = cell.z; second = cell.y; third = cell.x } → StandAcross h cell s
    x_back_below l is = subst (StandAcross h cell) (sym is) (across_back h cell cell.y cell.z cell.x h.nx pairs_y_z_x across_y_z (subst (λ k. k.nx <ℤ pos 0) e l))

    pub x_front_else : (o p : Ordering) → HasNormal u → o ≡ int_cmp u.nz (pos 0) → o ≡ Equal → p ≡ int_cmp u.ny (pos 0) → p ≡ Equal → pos 0 ≤ℤ u.nx → s ≡ record { first = cell.y; second = cell.z; third = cell.x } → StandAcross h cell s
    x_front_else o p normal f g k l m is = subst (StandAcross h cell) (sym is) (across_front h cell cell.y cell.z cell.x h.nx pairs_y_z_x across_y_z
        (subst (λ k. pos 0 <ℤ k.nx) e (by_sign u.nx
        (λ n. absurd (omega (arith, linear)))
        (λ n. absurd (normal n (equal_compares u.ny (pos 0) (sym k ∙ l)) (equal_compares u.nz (pos 0) (sym f ∙ g))))
        (λ n. n))))

-- ---- the cell of a cell

module _ (cell : AxialCell) (are : AreAxialBounds (bounds_of cell)) where
  -- a cell that is shut has no point
  pub shut_misses : (h : Plane) → IsShut cell → MissesCell (bounds_of cell) h
  shut_misses h shut p weight on i = ⊎_elim
      (λ x. none_between cell.x.near cell.x.far (opposite_by_normals cell.x.near cell.x.far wall_x are.0.normal are.1.1.1.0.normal) p x weight (record { near = i 0 wall_x (omega arith); far = i 3 wall_x (omega arith) }))
      (λ rest. ⊎_elim
      (λ y. none_between cell.y.near cell.y.far (opposite_by_normals cell.y.near cell.y.far wall_y are.1.0.normal are.1.1.1.1.0.normal) p y weight (record { near = i 1 wall_x (omega arith); far = i 4 wall_x (omega arith) }))
      (λ z. none_between cell.z.near cell.z.far (opposite_by_normals cell.z.near cell.z.far wall_z are.1.1.0.normal are.1.1.1.1.1.0.normal) p z weight (record { near = i 2 wall_x (omega arith); far = i 5 wall_x (omega arith) }))
      rest)
      shut

  -- a section in it lies in the cube, and in the cuboid of the cell
  pub section_in_world : (w : Winding) (h : Plane) → IsSection (bounds_of cell) h w → IsInWorld w
  section_in_world w h x = record { convex = x.convex; inside = λ p r. cube_in_closed p (axial_cell_in_cube (bounds_of cell) p are r.weight ((x.points p).0 r).1) }

  pub section_in_cuboid : (w : Winding) (h : Plane) → IsSection (bounds_of cell) h w → LiesWithin w (axial_cuboid cell)
  section_in_cuboid w h x p r = axial_cell_in_cuboid cell.x.near cell.y.near cell.z.near cell.x.far cell.y.far cell.z.far p are ((x.points p).0 r).1

  -- the distances of an open one are coordinates
  module _ (wide : IsOpen cell) where
    pub low_x : IsCoordinate cell.x.near.d
    low_x = let n = are.0.inside in let f = are.1.1.1.0.inside in let o = wide.x in record { low = omega (arith, ints); high = omega (arith, ints) }

    pub low_y : IsCoordinate cell.y.near.d
    low_y = let n = are.1.0.inside in let f = are.1.1.1.1.0.inside in let o = wide.y in record { low = omega (arith, ints); high = omega (arith, ints) }

    pub low_z : IsCoordinate cell.z.near.d
    low_z = let n = are.1.1.0.inside in let f = are.1.1.1.1.1.0.inside in let o = wide.z in record { low = omega (arith, ints); high = omega (arith, ints) }

    pub high_x : IsCoordinate (neg_ℤ cell.x.far.d)
    high_x = let n = are.0.inside in let f = are.1.1.1.0.inside in let o = wide.x in record { low = omega (arith, ints); high = omega (arith, ints) }

    pub high_y : IsCoordinate (neg_ℤ cell.y.far.d)
    high_y = let n = are.1.0.inside in let f = are.1.1.1.1.0.inside in let o = wide.y in record { low = omega (arith, ints); high = omega (arith, ints) }

    pub high_z : IsCoordinate (neg_ℤ cell.z.far.d)
    high_z = let n = are.1.1.0.inside in let f = are.1.1.1.1.1.0.inside in let o = wide.z in record { low = omega (arith, ints); high = omega (arith, ints) }

-- ---- six bounds that are read one by one are all there are

pub six_read : (bounds : List Plane) → AreAxialBounds bounds → (x y z u v w : Plane) → x ≡ get_or bounds 0 x → y ≡ get_or bounds 1 y → z ≡ get_or bounds 2 z → u ≡ get_or bounds 3 u → v ≡ get_or bounds 4 v → w ≡ get_or bounds 5 w → x ∷ y ∷ z ∷ u ∷ v ∷ w ∷ [] ≡ bounds
six_read [] are x y z u v w ex ey ez eu ev ew = absurd are
six_read (a ∷ []) are x y z u v w ex ey ez eu ev ew = absurd are.1
six_read (a ∷ b ∷ []) are x y z u v w ex ey ez eu ev ew = absurd are.1.1
six_read (a ∷ b ∷ c ∷ []) are x y z u v w ex ey ez eu ev ew = absurd are.1.1.1
six_read (a ∷ b ∷ c ∷ d ∷ []) are x y z u v w ex ey ez eu ev ew = absurd are.1.1.1.1
six_read (a ∷ b ∷ c ∷ d ∷ e ∷ []) are x y z u v w ex ey ez eu ev ew = absurd are.1.1.1.1.1
six_read (a ∷ b ∷ c ∷ d ∷ e ∷ f ∷ []) are x y z u v w ex ey ez eu ev ew = λ i. ex i ∷ ey i ∷ ez i ∷ eu i ∷ ev i ∷ ew i ∷ []
six_read (a ∷ b ∷ c ∷ d ∷ e ∷ f ∷ g ∷ more) are x y z u v w ex ey ez eu ev ew = absurd are.1.1.1.1.1.1
