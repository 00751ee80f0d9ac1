-- No entity leaks that stands within a shell of solids. A shell is what lies behind some outer planes, or on them, and not
-- strictly behind all of some inner ones. A leaf that is not solid has no point of it, so its cell lies on one side; and what
-- the outside reaches lies outside.
use Rattle.std.proofs.Common.{◌≡◌, ℕ, suc, pos, ◌<ℤ◌, Bool, true, false, List, ◌∷◌, ◌++◌, map, Contains, Some, ⊎_elim, sym, ap, ◌∙◌, subst, arith}
use Rattle.std.specs.Prelude.{slice_get}
use Rattle.std.proofs.lemmas.Int.{ints}
use Rattle.std.proofs.lemmas.List.{map-append}
use Rattle.std.proofs.lemmas.List.Elements.{All-cons, All-append, All-contains}
use Rattle.qm_lists.proofs.Elements.{Contains-at}
use Rattle.qm_lists.proofs.Reached.{least}
use Rattle.qm_numbers.proofs.IntegerProducts.{linear}
use Rattle.qm_contents.specs.declared.contents.Contents.{Contents}
use Rattle.qm_contents.specs.declared.contents.Contents.TheVariants as contents
use Rattle.qm_space.specs.Point.{Point, IsInCube}
use Rattle.qm_space.specs.Plane.{Plane, IsInFront, IsNotBehind}
use Rattle.qm_space.specs.Turned.{turned}
use Rattle.qm_space.specs.Book.{plane_at}
use Rattle.qm_space.specs.Cell.{IsInCell}
use Rattle.qm_space.specs.Cube.{cube_walls}
use Rattle.qm_space.proofs.Cubes.{cube_is_cell, walls_from_closed, cube_in_closed}
use Rattle.qm_space.proofs.CubeFaces.{face_in_closed}
use Rattle.qm_space.proofs.TurnedPlanes.{turned_on}
use Rattle.qm_space.proofs.Openness.{moved, reach, moved_in_cell}
use Rattle.qm_space.proofs.ClosedCells.{IsInClosedCell, cell_is_closed, cell_from_closed, cube_from_cube}
use Rattle.qm_solids.specs.Solid.{Solid}
use Rattle.qm_solids.specs.Holding.{IsInFrontOfNone, Holds}
use Rattle.qm_solids.proofs.Insides.{behind_all, inside_of_behind}
use Rattle.qm_partition.specs.declared.node.Leaf.{Leaf}
use Rattle.qm_partition.specs.declared.step.Step.{Step}
use Rattle.qm_partition.specs.Tree.{Tree}
use Rattle.qm_partition.specs.Ways.{Way, ways, turned_to, cell_of_way, LeadsTo, IsInLeaf, HasPoints}
use Rattle.qm_solid_tree.specs.GivesContents.{GivesContents}
use Rattle.qm_contacts.specs.Meeting.{Meeting}
use Rattle.qm_contacts.specs.Contact.{IsContact, TouchAcross}
use Rattle.qm_contacts.specs.Reached.{is_passable, IsPassable, Begins, FloodsInto, IsReached}
use Rattle.qm_contacts.specs.Leak.{Origin, leaf_of_origin, Leaks}
use Rattle.qm_contacts.proofs.WaysBelow.{tree_meeting_ways}
use Rattle.qm_sealed_rooms.proofs.Borders.{IsBehindEach, MeetsBorder, meets_border}
use Rattle.qm_sealed_rooms.proofs.LedPoints.{led_to}
use Rattle.qm_sealed_rooms.proofs.SolidLeaves.{solid_leaf}

-- a solid of stone that holds a point
pub record IsInStone (solids : List Solid) (x : Point) : Type 0 where
  pub solid : Solid
  pub listed : Contains solids solid
  pub of_stone : solid.contents ≡ contents.Solid
  pub holds : Holds solid x

-- The solids fill what lies between the outer planes and the inner ones. What is behind the inner planes is strictly behind
-- the outer ones, and what is strictly behind these is in the cube.
pub record IsShell (solids : List Solid) (outer inner : List Plane) : Type 0 where
  pub inner_within : (x : Point) → pos 0 <ℤ x.w → IsInFrontOfNone inner x → IsBehindEach outer x
  pub outer_within : (x : Point) → pos 0 <ℤ x.w → IsBehindEach outer x → IsInCube x
  pub filled : (x : Point) → IsInCube x → IsInFrontOfNone outer x → (IsBehindEach inner x → ⊥) → IsInStone solids x

-- behind or on
in_front_of_none : (planes : List Plane) (x : Point) → IsBehindEach planes x → IsInFrontOfNone planes x
in_front_of_none planes x behind place d there = let b = behind place d there in omega (arith, linear, b)

-- a leaf that can be passed is not solid
not_solid : (c : Contents) → is_passable c ≡ true → c ≡ contents.Solid → ⊥
not_solid c passable is = let never : false ≡ true = ap is_passable (sym is) ∙ passable in cc

-- a contact is behind no plane of the ways to both leaves
contact_closed : (planes : List Plane) (m : Meeting) (x : Point) (side : Bool) (below : Way) → IsContact planes m x → IsInCell (cell_of_way planes below) x → IsInClosedCell (cell_of_way planes (m.above ++ record { plane = m.plane; front = side } ∷ below)) x
contact_closed planes m x side below contact inside =
    let step : Step = record { plane = m.plane; front = side } in
    let h = plane_at planes m.plane in
    let on = (turned_on side h x).1 contact.on in
    subst (λ (cell : List Plane). IsInClosedCell cell x) (sym (map-append (turned_to planes) m.above (step ∷ below)))
    (All-append (λ g. IsNotBehind g x) (cell_of_way planes m.above) (turned side h ∷ cell_of_way planes below)
    (cell_is_closed (cell_of_way planes m.above) x contact.above)
    (All-cons (λ g. IsNotBehind g x) (turned side h) (cell_of_way planes below) (omega (arith, linear, on)) (cell_is_closed (cell_of_way planes below) x inside)))

module _ (tree : Tree) (solids : List Solid) (outer inner : List Plane) (gives : GivesContents tree solids) (have : HasPoints tree) (shell : IsShell solids outer inner) where
  -- no point of the leaf is behind the outer planes or on them
  abbrev LiesOutside : Way → Type 0
  LiesOutside way = (y : Point) → IsInLeaf tree.planes way y → IsInFrontOfNone outer y → ⊥

  -- ---- a leaf that is not solid, and has on its border a point that is not strictly behind the outer planes

  module _ (k : ℕ) (way : Way) (found : Leaf) (leads : LeadsTo tree.shape k way found) (open_leaf : found.contents ≡ contents.Solid → ⊥) where
    -- it has no point of the shell
    none_in_stone : (y : Point) → IsInLeaf tree.planes way y → IsInStone solids y → ⊥
    none_in_stone y inside stone = open_leaf (solid_leaf tree solids gives k way found leads stone.solid y stone.listed stone.of_stone stone.holds inside)

    module _ (x : Point) (weight : pos 0 <ℤ x.w) (closed : IsInClosedCell (cell_of_way tree.planes way) x) (in_cube : IsInClosedCell cube_walls x) (beyond : IsBehindEach outer x → ⊥) where
      -- and no point strictly behind the inner planes: else the way from there would meet the shell
      none_within : (y : Point) → IsInLeaf tree.planes way y → IsBehindEach inner y → ⊥
      none_within y inside behind = ⊎_elim (λ none. beyond (shell.inner_within x weight none)) at_border (meets_border inner y x behind)
        where
          at_border : MeetsBorder inner y x → ⊥
          at_border met =
              let e = met.point in
              let wall_y = (cube_is_cell y).0 inside.in_cube in
              let e_cube = (cube_is_cell e).1 (λ place d there. met.keeps _ (wall_y place d there) (in_cube place d there)) in
              let e_leaf : IsInLeaf tree.planes way e = record { in_cube = e_cube; in_cell = λ place d there. met.keeps _ (inside.in_cell place d there) (closed place d there) } in
              none_in_stone e e_leaf (shell.filled e e_cube (in_front_of_none outer e (shell.inner_within e e_cube.weight met.in_front_of_none)) met.not_behind_each)

      -- so it lies outside
      lies_outside : LiesOutside way
      lies_outside y inside none = none_in_stone y inside (shell.filled y inside.in_cube none (none_within y inside))

  -- ---- the border of a leaf that lies outside

  not_within : (k : ℕ) (way : Way) → slice_get (ways tree.shape) k ≡ Some way → LiesOutside way → (x : Point) → pos 0 <ℤ x.w → IsInClosedCell (cell_of_way tree.planes way) x → IsBehindEach outer x → ⊥
  not_within k way way_is outside x weight closed behind =
      let some = have way (Contains-at (ways tree.shape) k way way_is) in
      let v = some.0 in
      let inward = map (turned false) outer in
      let n : ℕ = suc (reach inward v) in
      let z = moved (pos n) x v in
      let z_leaf : IsInLeaf tree.planes way z = record {
        in_cube = cube_from_cube x v (pos n) (omega (arith, ints)) (shell.outer_within x weight behind) some.1.in_cube;
        in_cell = cell_from_closed (cell_of_way tree.planes way) x v (pos n) (omega (arith, ints)) closed some.1.in_cell;
      } in
      outside z z_leaf (in_front_of_none outer z (behind_all outer z (moved_in_cell inward x v (pos n) (omega (arith, ints)) (inside_of_behind outer x behind))))

  -- ---- what is reached

  record IsOutsideLeaf (k : ℕ) : Type 0 where
    way : Way
    way_is : slice_get (ways tree.shape) k ≡ Some way
    outside : LiesOutside way

  -- a leaf that can be passed, with the way to it
  passed : (k : ℕ) (way : Way) → slice_get (ways tree.shape) k ≡ Some way → IsPassable tree k → (x : Point) → pos 0 <ℤ x.w → IsInClosedCell (cell_of_way tree.planes way) x → IsInClosedCell cube_walls x → (IsBehindEach outer x → ⊥) → IsOutsideLeaf k
  passed k way way_is passable x weight closed in_cube beyond = record {
    way = way;
    way_is = way_is;
    outside = lies_outside k way passable.found (record { way_is = way_is; leaf_is = passable.leaf_is }) (not_solid passable.found.contents passable.passable) x weight closed in_cube beyond;
  }

  first : (k : ℕ) → Begins tree k → IsOutsideLeaf k
  first k begins =
      let touches = begins.outside in
      let x = touches.point in
      passed k touches.way touches.way_is begins.passable x touches.on_face.weight
      (cell_is_closed (cell_of_way tree.planes touches.way) x touches.in_cell)
      (walls_from_closed x (face_in_closed touches.wall x touches.on_face))
      (λ behind.
      let front = All-contains (λ h. IsInFront h x) cube_walls touches.wall ((cube_is_cell x).0 (shell.outer_within x touches.on_face.weight behind)) touches.is_wall in
      let on = touches.on_face.on in
      absurd (omega (arith, linear, front, on)))

  -- from one leaf of a meeting to the other
  across : (a b : ℕ) (v w : Way) (x : Point) → slice_get (ways tree.shape) a ≡ Some v → slice_get (ways tree.shape) b ≡ Some w → IsInClosedCell (cell_of_way tree.planes v) x → IsInClosedCell (cell_of_way tree.planes w) x → IsInCube x → IsOutsideLeaf a → IsPassable tree b → IsOutsideLeaf b
  across a b v w x at_a at_b closed_a closed_b in_cube from passable =
      let e : Some from.way ≡ Some v = sym from.way_is ∙ at_a in
      let same : from.way ≡ v = cc in
      passed b w at_b passable x in_cube.weight closed_b (walls_from_closed x (cube_in_closed x in_cube))
      (not_within a v at_a (subst LiesOutside same from.outside) x in_cube.weight closed_a)

  touching : (a b : ℕ) (t : TouchAcross tree a b) → slice_get (ways tree.shape) a ≡ Some (t.meeting.above ++ record { plane = t.meeting.plane; front = true } ∷ t.meeting.front.way) × slice_get (ways tree.shape) b ≡ Some (t.meeting.above ++ record { plane = t.meeting.plane; front = false } ∷ t.meeting.back.way)
  touching a b t =
      let its = tree_meeting_ways tree t.meeting t.listed in
      (ap (slice_get (ways tree.shape)) (sym t.front) ∙ its.to_front, ap (slice_get (ways tree.shape)) (sym t.back) ∙ its.to_back)

  next : (a b : ℕ) → IsOutsideLeaf a → FloodsInto tree a b → IsOutsideLeaf b
  next a b from floods = ⊎_elim
      (λ t.
      let its = touching a b t in
      across a b _ _ t.point its.0 its.1 (front_closed a b t) (back_closed a b t) t.contact.in_cube from floods.passable)
      (λ t.
      let its = touching b a t in
      across a b _ _ t.point its.1 its.0 (back_closed b a t) (front_closed b a t) t.contact.in_cube from floods.passable)
      floods.touch
    where
      front_closed : (a b : ℕ) (t : TouchAcross tree a b) → IsInClosedCell (cell_of_way tree.planes (t.meeting.above ++ record { plane = t.meeting.plane; front = true } ∷ t.meeting.front.way)) t.point
      front_closed a b t = contact_closed tree.planes t.meeting t.point true t.meeting.front.way t.contact t.contact.in_front

      back_closed : (a b : ℕ) (t : TouchAcross tree a b) → IsInClosedCell (cell_of_way tree.planes (t.meeting.above ++ record { plane = t.meeting.plane; front = false } ∷ t.meeting.back.way)) t.point
      back_closed a b t = contact_closed tree.planes t.meeting t.point false t.meeting.back.way t.contact t.contact.behind

  reached_outside : (k : ℕ) → IsReached tree k → IsOutsideLeaf k
  reached_outside k reached = least (Begins tree) (FloodsInto tree) IsOutsideLeaf first next k reached

  -- an entity that stands strictly behind the outer planes does not leak
  pub none_leaks : (origin : Origin) → pos 0 <ℤ origin.point.w → IsBehindEach outer origin.point → Leaks tree origin → ⊥
  none_leaks origin weight behind leaks =
      let k = leaf_of_origin tree origin in
      let led = led_to tree.planes tree.shape origin.point in
      let out = reached_outside k leaks.reached in
      let e : Some out.way ≡ Some led.way = sym out.way_is ∙ led.way_is in
      let same : out.way ≡ led.way = cc in
      not_within k led.way led.way_is (subst LiesOutside same out.outside) origin.point weight led.closed behind
