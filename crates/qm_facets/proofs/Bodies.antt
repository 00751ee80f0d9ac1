-- What a plane leaves of a body: all of it or nothing, or what it leaves of the facets, with its section.
use Rattle.std.proofs.Common.{◌+◌, Bool, true, false, ℤ, pos, ◌*ℤ◌, List, [], ◌∷◌, ◌++◌, All, Some, Contains, map, get_or, unsigned_abs, refl, ap, sym, ◌∙◌, subst, arith, ⊎_elim}
use Rattle.std.specs.List.{AllZip}
use Rattle.std.proofs.lemmas.Int.{ints}
use Rattle.std.proofs.lemmas.List.Elements.{All-nil, All-cons, All-push, All-pop, All-append, All-contains, All-weaker}
use Rattle.qm_lists.proofs.Elements.{All-first_part, Contains-nil, Contains-first, Contains-later, Contains-cons_cases}
use Rattle.qm_numbers.proofs.IntegerProducts.{linear, *ℤ_zero}
use Rattle.qm_numbers.proofs.Signs.{by_sign}
use Rattle.qm_space.specs.Point.{Point, IsInCube}
use Rattle.qm_space.specs.Plane.{Plane, value, flipped, IsOn, IsInFront, IsNotInFront}
use Rattle.qm_space.specs.Turned.{turned}
use Rattle.qm_space.specs.Reduced.{HasNormal}
use Rattle.qm_space.specs.Cell.{IsInCell, HasPoint}
use Rattle.qm_space.specs.Cube.{cube_walls}
use Rattle.qm_space.proofs.Planes.{value_flipped, flipped_in_front}
use Rattle.qm_space.proofs.ReducedPlanes.{flipped_twice}
use Rattle.qm_space.proofs.TurnedPlanes.{turned_has_normal}
use Rattle.qm_space.proofs.Cubes.{cube_is_cell}
use Rattle.qm_space.proofs.Openness.{moved, value_moved, reach, moved_in_front, moved_in_cell, ahead, ahead_in_front}
use Rattle.qm_space.proofs.ClosedCells.{IsInClosedCell, cell_from_closed}
use Rattle.qm_convex.specs.Winding.{Winding}
use Rattle.qm_convex.specs.Cut.{IsPartWithin, HasNoneWithin}
use Rattle.qm_convex.specs.World.{IsCubeFace}
use Rattle.qm_convex.specs.Section.{IsSection, MissesCell}
use Rattle.qm_convex.specs.inner.Facets.{IsOnFacet, Facet, IsFacet, AreFacetsOn, none, facet, hidden, AreCut, inward_of, facing_in}
use Rattle.qm_convex.proofs.Among.{first_among, edges_among, edges_within}
use Rattle.qm_convex.proofs.ImpliedPlanes.{facets_from_cell, cell_from_facets}
use Rattle.qm_convex.proofs.Facets.{facets_of_side, crosses_cell}
use Rattle.qm_convex.proofs.CubeFacets.{cube_facets}
use Rattle.qm_facets.specs.Body.{IsBody, with_plane, HasFacetInFront, HasNoFacetInFront}
use Rattle.qm_facets.proofs.InFront.{same_on, body_not_in_front}

-- ---- the facets of a cell, one by one

pub one_of_facets : (cell planes : List Plane) (facets : List Facet) (found : Facet) → AreFacetsOn cell planes facets → Contains facets found → IsFacet cell found
one_of_facets cell planes facets found none listed = absurd (Contains-nil found listed)
one_of_facets cell planes facets found (facet {found = first} {planes = rest} {facets = others} is more) listed = ⊎_elim
    (λ same. subst (IsFacet cell) same is)
    (λ later. one_of_facets cell rest others found more later)
    (Contains-cons_cases first found others listed)
one_of_facets cell planes facets found (hidden {planes = rest} never more) listed = one_of_facets cell rest facets found more listed

-- their planes are among those of the cell
walls_among : (cell planes : List Plane) (facets : List Facet) → AreFacetsOn cell planes facets → All (Contains planes) (map inward_of facets)
walls_among cell planes facets none = All-nil (Contains [])
walls_among cell planes facets (facet {found = found} {planes = rest} {facets = others} is more) =
    All-cons (Contains (found.inward ∷ rest)) found.inward (map inward_of others) (Contains-first found.inward rest)
    (All-weaker (Contains rest) (Contains (found.inward ∷ rest)) (λ h has. Contains-later found.inward h rest has) (map inward_of others) (walls_among cell rest others more))
walls_among cell planes facets (hidden {h = q} {planes = rest} never more) =
    All-weaker (Contains rest) (Contains (q ∷ rest)) (λ h has. Contains-later q h rest has) (map inward_of facets) (walls_among cell rest facets more)

-- no plane of the cell has a point of a facet behind it
closed_on_facet : (cell : List Plane) (q : Plane) (x : Point) → IsOnFacet cell q x → IsInClosedCell cell x
closed_on_facet cell q x is = λ place d there. ⊎_elim
    (λ same. let on = same_on (get_or cell place d) q x same is.on in omega (arith, linear, on))
    (λ front. omega (arith, linear, front))
    (is.inside place d there)

-- ---- one body

module _ (cell : List Plane) (facets : List Facet) (body : IsBody cell facets) where
  abbrev own : List Plane
  own = cube_walls ++ body.planes

  walled : (y : Point) → IsInCell own y → IsInCube y
  walled y inside = ((body.points y).0 inside).0

  -- a point of it
  abbrev some_point : Point
  some_point = body.has_point.point

  pub some_inside : IsInCell own some_point
  some_inside = (body.points some_point).1 (body.has_point.in_cube, body.has_point.in_cell)

  -- no facet has a point in front of a plane: then it has none itself
  pub none_in_front : (h : Plane) (x : Point) → HasNoFacetInFront h facets → IsInCube x → IsInCell cell x → IsNotInFront h x
  none_in_front h x not_ahead in_cube in_cell = body_not_in_front own facets h x walled body.are_facets not_ahead ((body.points x).1 (in_cube, in_cell))

  -- some facet has one: then it has one itself
  pub some_in_front : (h : Plane) → HasFacetInFront h facets → HasPoint (with_plane cell h)
  some_in_front h front =
      let is = one_of_facets own own facets front.found body.are_facets front.listed in
      let p = front.some.0 in
      let v = some_point in
      let k = pos (unsigned_abs (value h v) + 1) in
      let closed = closed_on_facet own front.found.inward p ((is.points p).0 front.some.1) in
      let there = (body.points (moved k p v)).0 (cell_from_closed own p v k (omega (arith, ints)) closed some_inside) in
      record {
        point = moved k p v;
        in_cube = there.0;
        in_cell = All-push (λ g. IsInFront g (moved k p v)) cell h there.1 (moved_in_front h p v k (unsigned_abs (value h v)) (omega arith) (omega (arith, ints)) front.some.2);
      }

  -- no point is behind a plane: then each is in front of it
  module _ (h : Plane) (normal : HasNormal h) (not_behind : HasNoFacetInFront (flipped h) facets) where
    not_on : (x : Point) → IsInCube x → IsInCell cell x → IsOn h x → ⊥
    not_on x in_cube in_cell on =
        let g = flipped h in
        let v = ahead g in
        let k = pos (reach own v + 1) in
        let there = (body.points (moved k x v)).0 (moved_in_cell own x v k (omega (arith, ints)) ((body.points x).1 (in_cube, in_cell))) in
        let n = none_in_front g (moved k x v) not_behind there.0 there.1 in
        let e = value_moved g k x v in
        let f = value_flipped h x in
        let z = ap (λ (a : ℤ). k *ℤ a) {x = value g x} {y = pos 0} (omega (arith, linear)) ∙ *ℤ_zero k in
        let front = ahead_in_front g (turned_has_normal false h normal) in
        absurd (omega (arith, linear, n, e, z, front))

    each_in_front : (x : Point) → IsInCube x → IsInCell cell x → IsInFront h x
    each_in_front x in_cube in_cell = by_sign (value h x)
        (λ behind. let n = none_in_front (flipped h) x not_behind in_cube in_cell in let e = value_flipped h x in absurd (omega (arith, linear)))
        (λ on. absurd (not_on x in_cube in_cell on))
        (λ front. front)

    -- so the plane leaves all of it in front
    pub whole_in_front : IsBody (with_plane cell h) facets
    whole_in_front = record {
      planes = body.planes;
      are_facets = body.are_facets;
      points = λ x. (
        (λ inside. let both = (body.points x).0 inside in (both.0, All-push (λ g. IsInFront g x) cell h both.1 (each_in_front x both.0 both.1))),
        (λ both. (body.points x).1 (both.0, (All-pop (λ g. IsInFront g x) (with_plane cell h) cell (Some h) refl both.1).0)),
      );
      has_point = record {
        point = some_point;
        in_cube = body.has_point.in_cube;
        in_cell = All-push (λ g. IsInFront g some_point) cell h body.has_point.in_cell (each_in_front some_point body.has_point.in_cube body.has_point.in_cell);
      };
    }

  -- and all of it behind where no facet has a point in front
  pub whole_behind : (h : Plane) → HasNormal h → HasNoFacetInFront h facets → IsBody (with_plane cell (flipped h)) facets
  whole_behind h normal not_ahead =
      whole_in_front (flipped h) (turned_has_normal false h normal) (subst (λ (g : Plane). HasNoFacetInFront g facets) (sym (flipped_twice h)) not_ahead)

  -- then nothing of it is in front
  pub nothing_in_front : (h : Plane) → HasNoFacetInFront h facets → HasPoint (with_plane cell h) → ⊥
  nothing_in_front h not_ahead some =
      let both = All-pop (λ g. IsInFront g some.point) (with_plane cell h) cell (Some h) refl some.in_cell in
      let n = none_in_front h some.point not_ahead some.in_cube both.0 in
      let f = both.1 in
      absurd (omega (arith, linear, n, f))

  -- ---- a plane that parts it

  module _ (h : Plane) (front : HasFacetInFront h facets) (behind : HasFacetInFront (flipped h) facets) where
    in_front_point : HasPoint (with_plane cell h)
    in_front_point = some_in_front h front

    behind_point : HasPoint (with_plane cell (flipped h))
    behind_point = some_in_front (flipped h) behind

    own_part : (g : Plane) (some : HasPoint (with_plane cell g)) → IsInCell own some.point × IsInFront g some.point
    own_part g some =
        let both = All-pop (λ k. IsInFront k some.point) (with_plane cell g) cell (Some g) refl some.in_cell in
        ((body.points some.point).1 (some.in_cube, both.0), both.1)

    -- the plane has a point of the body
    crossing : (x : Point) × IsOn h x × IsInCell own x
    crossing =
        let p = own_part h in_front_point in
        let q = own_part (flipped h) behind_point in
        crosses_cell own h in_front_point.point behind_point.point p.0 p.1 q.0 ((flipped_in_front h behind_point.point).0 q.1)

    -- bounds, each a wall of the cube or the plane of a facet
    module _ (bounds : List Plane) (among : All (Contains (cube_walls ++ map inward_of facets)) bounds) where
      in_bounds : (x : Point) → IsInCell own x → IsInCell bounds x
      in_bounds x inside =
          let ahead = All-append (λ g. IsInFront g x) cube_walls (map inward_of facets) (All-first_part (λ g. IsInFront g x) cube_walls body.planes inside) (facets_from_cell own own facets x body.are_facets inside) in
          All-weaker (Contains (cube_walls ++ map inward_of facets)) (λ g. IsInFront g x) (λ g has. All-contains (λ k. IsInFront k x) (cube_walls ++ map inward_of facets) g ahead has) bounds among

      own_bounds : All (Contains own) bounds
      own_bounds =
          let all = All-append (Contains own) cube_walls (map inward_of facets) (first_among cube_walls body.planes) (walls_among own own facets body.are_facets) in
          All-weaker (Contains (cube_walls ++ map inward_of facets)) (Contains own) (λ g has. All-contains (Contains own) (cube_walls ++ map inward_of facets) g all has) bounds among

      pub meets_bounds : MissesCell bounds h → ⊥
      meets_bounds misses = misses crossing.0 (walled crossing.0 crossing.2).weight crossing.1 (in_bounds crossing.0 crossing.2)

      pub meets_walls : (whole : Winding) → IsSection bounds h whole → HasNoneWithin whole (map inward_of facets) → ⊥
      meets_walls whole part never =
          never crossing.0 ((part.points crossing.0).1 (crossing.1, in_bounds crossing.0 crossing.2)) (facets_from_cell own own facets crossing.0 body.are_facets crossing.2)

      -- what the facets' planes leave of the plane's part between the bounds is its section
      pub section_by_walls : (whole section : Winding) → IsSection bounds h whole → IsPartWithin section whole (map inward_of facets) → IsSection own h section
      section_by_walls whole section between part = record {
        convex = part.convex;
        plane = part.plane ∙ between.plane;
        points = λ x. (
          (λ r.
              let q = (part.points x).0 r in
              (((between.points x).0 q.0).0, cell_from_facets own facets some_point x body.are_facets body.has_point.in_cube.weight some_inside r.weight q.1)),
          (λ q. (part.points x).1 ((between.points x).1 (q.0, in_bounds x q.1), facets_from_cell own own facets x body.are_facets q.1)),
        );
        edges = edges_within section whole (map inward_of facets) own part (walls_among own own facets body.are_facets) (edges_among whole bounds own own_bounds between.edges);
      }

    half_point : (side : Bool) → HasPoint (with_plane cell (turned side h))
    half_point true = in_front_point
    half_point false = behind_point

    -- so what the plane leaves of the facets on a side, and the section, are the facets of the half there
    pub half_body : (side : Bool) (section : Winding) (rest : List Facet) → IsSection own h section → AreCut (turned side h) facets rest →
        IsBody (with_plane cell (turned side h)) (rest ++ record { inward = turned side h; winding = section } ∷ [])
    half_body side section rest is cut = record {
      planes = body.planes ++ turned side h ∷ [];
      are_facets = facets_of_side own h side section is facets rest body.are_facets cut;
      points = λ x. (
        (λ inside.
            let both = All-pop (λ g. IsInFront g x) (own ++ turned side h ∷ []) own (Some (turned side h)) refl inside in
            let its = (body.points x).0 both.0 in
            (its.0, All-push (λ g. IsInFront g x) cell (turned side h) its.1 both.1)),
        (λ its.
            let both = All-pop (λ g. IsInFront g x) (with_plane cell (turned side h)) cell (Some (turned side h)) refl its.1 in
            All-push (λ g. IsInFront g x) own (turned side h) ((body.points x).1 (its.0, both.0)) both.1),
      );
      has_point = half_point side;
    }

-- ---- the whole cube

abbrev origin : Point
origin = record { x = pos 0; y = pos 0; z = pos 0; w = pos 1 }

origin_in_cube : IsInCube origin
origin_in_cube = record {
  weight = omega (arith, ints);
  x = record { above = omega (arith, ints); below = omega (arith, ints) };
  y = record { above = omega (arith, ints); below = omega (arith, ints) };
  z = record { above = omega (arith, ints); below = omega (arith, ints) };
}

pub cube_body : (faces : List Winding) → AllZip IsCubeFace faces cube_walls → IsBody [] (map facing_in faces)
cube_body faces are = record {
  planes = [];
  are_facets = cube_facets faces are;
  points = λ x. ((λ inside. ((cube_is_cell x).1 inside, All-nil (λ g. IsInFront g x))), (λ both. (cube_is_cell x).0 both.0));
  has_point = record { point = origin; in_cube = origin_in_cube; in_cell = All-nil (λ g. IsInFront g origin) };
}
