-- A cuboid that has all that a solid holds of a cell.
use Rattle.std.proofs.Common.{pos, ◌≤ℤ◌, List, [], ◌∷◌, ◌++◌, Contains, get_or, arith}
use Rattle.std.proofs.lemmas.List.Elements.{All-contains, Contains-get_or}
use Rattle.qm_lists.proofs.Elements.{All-first_part, All-last_part}
use Rattle.qm_numbers.proofs.IntegerProducts.{linear}
use Rattle.qm_numbers.proofs.Signs.{by_least}
use Rattle.qm_space.specs.Point.{Point}
use Rattle.qm_space.specs.Plane.{Plane, value, flipped, IsInFront, IsNotInFront}
use Rattle.qm_space.specs.Cell.{IsInCell}
use Rattle.qm_space.specs.Cuboid.{Cuboid, least_value, greatest_value, IsTightened}
use Rattle.qm_space.proofs.Planes.{value_flipped}
use Rattle.qm_space.proofs.Cuboids.{least_value_bound, greatest_value_bound}
use Rattle.qm_convex.specs.World.{LiesWithin}
use Rattle.qm_numbers.proofs.Signs.{product_not_negative, product_not_positive}
use Rattle.std.proofs.Math.IntN.{*ℤ_comm}
use Rattle.qm_solids.specs.Solid.{Solid}
use Rattle.qm_solids.specs.Holding.{IsFull, Holds}
use Rattle.qm_solids.specs.Candidates.{IsOnFace}
use Rattle.qm_solids.specs.Uniform.{LiesOutside}
use Rattle.qm_solids.proofs.PlanesInCommon.{lies_on_points}
use Rattle.qm_split.specs.declared.piece.Piece.{Piece}
use Rattle.qm_split.specs.declared.contender.Contender.{Contender}
use Rattle.qm_split.specs.Pieces.{solid_of_contender, IsPieceInCell, IsHeldWithin, IsContender}

-- a full solid holds a point that is on a face of it
pub holds_point_on_face : (solid : Solid) (cell : List Plane) (h : Plane) (x : Point) → IsFull solid → IsOnFace solid cell h x → Holds solid x
holds_point_on_face solid cell h x full on_face = record {
  full = full;
  not_in_front = λ k d within. not_ahead (get_or solid.outward k d) (Contains-get_or solid.outward k d within);
}
  where
    not_ahead : (o : Plane) → Contains solid.outward o → IsNotInFront o x
    not_ahead o among = by_least (pos 0) (value o x)
        (λ front. absurd (let behind = on_face.behind_others o among (λ lies. let on = (lies_on_points o h x lies).1 on_face.on in absurd (omega (arith, linear))) in omega (arith, linear)))
        (λ not. not)

-- so the cuboid of a contender has all its pieces
pub pieces_within : (book cell : List Plane) (contender : Contender) → IsContender book cell contender → (p : Piece) → Contains contender.body.value.pieces.items p →
    LiesWithin p.winding.value contender.body.value.cuboid
pieces_within book cell contender contends p among x r =
    let is = All-contains (IsPieceInCell book cell (solid_of_contender contender)) contender.body.value.pieces.items p contends.pieces.sound among in
    let at = (is.points x).0 r in
    contends.within x at.in_cube at.in_cell (holds_point_on_face (solid_of_contender contender) cell p.winding.value.plane x contends.full at)

module _ (c : Cuboid) (solid : Solid) (cell : List Plane) (held : IsHeldWithin c solid cell) (g : Plane) where
  in_cell_of_beyond : (f : Plane) (x : Point) → IsInCell (cell ++ f ∷ []) x → IsInCell cell x
  in_cell_of_beyond f x inside = All-first_part (λ h. IsInFront h x) cell (f ∷ []) inside

  in_front_of_beyond : (f : Plane) (x : Point) → IsInCell (cell ++ f ∷ []) x → IsInFront f x
  in_front_of_beyond f x inside = All-last_part (λ h. IsInFront h x) cell (f ∷ []) inside 0 f (omega arith)

  -- ---- in front of a plane the same cuboid does, and what is left of it there

  pub held_beyond : IsHeldWithin c solid (cell ++ g ∷ [])
  held_beyond x in_cube in_cell = held x in_cube (in_cell_of_beyond g x in_cell)

  pub held_tightened : (t : Cuboid) → IsTightened t c g → IsHeldWithin t solid (cell ++ g ∷ [])
  held_tightened t tight x in_cube in_cell holds =
      let k = in_cube.weight in
      let f = in_front_of_beyond g x in_cell in
      tight x (omega (arith, linear)) (held x in_cube (in_cell_of_beyond g x in_cell) holds) (omega (arith, linear))

  -- ---- where the cuboid lies on one side of a plane, the solid lies outside the other

  pub outside_behind : pos 0 ≤ℤ least_value g c → LiesOutside solid (cell ++ flipped g ∷ [])
  outside_behind h x in_cube in_cell holds =
      let b = least_value_bound g c x (held x in_cube (in_cell_of_beyond (flipped g) x in_cell) holds) in
      let k = in_cube.weight in
      let m = product_not_negative (least_value g c) x.w h (omega (arith, linear)) in
      let f = in_front_of_beyond (flipped g) x in_cell in
      let e = value_flipped g x in
      absurd (omega (arith, linear))

  pub outside_ahead : greatest_value g c ≤ℤ pos 0 → LiesOutside solid (cell ++ g ∷ [])
  outside_ahead h x in_cube in_cell holds =
      let b = greatest_value_bound g c x (held x in_cube (in_cell_of_beyond g x in_cell) holds) in
      let k = in_cube.weight in
      let m = product_not_positive x.w (greatest_value g c) (omega (arith, linear)) h in
      let e = *ℤ_comm x.w (greatest_value g c) in
      let f = in_front_of_beyond g x in_cell in
      absurd (omega (arith, linear))
