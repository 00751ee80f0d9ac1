use Rattle.std.proofs.Common.{◌≡◌, List, ◌++◌, map, sym, ◌∙◌, subst, All, Contains}
use Rattle.std.specs.List.{AllZip}
use Rattle.std.proofs.lemmas.Option.{MatchOption-at_some, MatchOption-at_none}
use Rattle.qm_space.specs.Plane.{Plane}
use Rattle.qm_space.specs.Cube.{cube_walls}
use Rattle.qm_convex.specs.Cut.{IsPartWithin, HasNoneWithin}
use Rattle.qm_convex.specs.Section.{AreAxialBounds, IsSection, MissesCell}
use Rattle.qm_convex.specs.inner.Facets.{inward_of}
use Rattle.qm_facets.proofs.Bodies.{meets_bounds, meets_walls, section_by_walls}
use Rattle.qm_half_spaces.specs.inner.AxialPlanes.{IsBoundAmong}
use Rattle.qm_half_spaces.proofs.AxialCells.{are_axial, are_among}
use Rattle.qm_half_spaces.proofs.body.section_of.Goals as goal
use Rattle.qm_half_spaces.proofs.body.section_of.Goals.{After-deref-2, In-Some, After-deref-in-Some}

bounds_are : (c : After-deref-2) → AllZip (IsBoundAmong (map inward_of c.args.facets.now)) c.in_ok-bounds.bounds.items cube_walls
bounds_are c = subst (λ (planes : List Plane). AllZip (IsBoundAmong planes) c.in_ok-bounds.bounds.items cube_walls) (c.deref.ensures.value ∙ c.in_ok-walls.ensures) c.in_ok-bounds.ensures

among : (c : After-deref-2) → All (Contains (cube_walls ++ map inward_of c.args.facets.now)) c.deref-2.result.now
among c =
    subst (λ (bounds : List Plane). All (Contains (cube_walls ++ map inward_of c.args.facets.now)) bounds) (sym c.deref-2.ensures.value)
    (are_among (map inward_of c.args.facets.now) c.in_ok-bounds.bounds.items cube_walls (bounds_are c))

whole_is : (c : In-Some) → IsSection c.deref-2.result.now c.args.plane.now c.in-Some.whole
whole_is c = MatchOption-at_some (MissesCell c.deref-2.result.now c.args.plane.now) (λ w. IsSection c.deref-2.result.now c.args.plane.now w) c.in-Some.whole c.in-Some.is c.in_ok-whole.ensures

walls_are : (c : After-deref-in-Some) → c.deref-in-Some.result.now ≡ map inward_of c.args.facets.now
walls_are c = c.deref-in-Some.ensures.value ∙ c.in_ok-walls.ensures

pub between-requires : goal.between-requires
between-requires c =
    subst AreAxialBounds (sym c.deref-2.ensures.value)
    (are_axial (map inward_of c.args.facets.now) c.in_ok-bounds.bounds.items cube_walls (bounds_are (goal.at.between-requires c).After-deref-2))

pub unreachable-requires-in-None : goal.unreachable-requires-in-None
unreachable-requires-in-None c =
    meets_bounds c.requires.body.0 c.args.facets.now c.requires.body.1 c.args.plane.now c.requires.parted.front c.requires.parted.behind c.deref-2.result.now (among (goal.at.unreachable-requires-in-None c).After-deref-2)
    (MatchOption-at_none (MissesCell c.deref-2.result.now c.args.plane.now) (λ w. IsSection c.deref-2.result.now c.args.plane.now w) c.in-None.is c.in_ok-whole.ensures)

pub unreachable-requires : goal.unreachable-requires
unreachable-requires c =
    let whole = c.in-Some.whole in
    meets_walls c.requires.body.0 c.args.facets.now c.requires.body.1 c.args.plane.now c.requires.parted.front c.requires.parted.behind c.deref-2.result.now (among (goal.at.unreachable-requires c).After-deref-2)
    whole (whole_is (goal.at.unreachable-requires c).In-Some)
    (subst (λ (walls : List Plane). HasNoneWithin whole walls) (walls_are (goal.at.unreachable-requires c).After-deref-in-Some)
    (MatchOption-at_none (HasNoneWithin whole c.deref-in-Some.result.now) (λ w. IsPartWithin w whole c.deref-in-Some.result.now) c.in-None-2.is c.in_ok-section-in-Some.ensures))

pub returns : goal.returns
returns c = λ cell body.
    let whole = c.in-Some.whole in
    section_by_walls cell c.args.facets.now body c.args.plane.now c.requires.parted.front c.requires.parted.behind c.deref-2.result.now (among (goal.at.returns c).After-deref-2)
    whole c.in-Some-2.section (whole_is (goal.at.returns c).In-Some)
    (subst (λ (walls : List Plane). IsPartWithin c.in-Some-2.section whole walls) (walls_are (goal.at.returns c).After-deref-in-Some)
    (MatchOption-at_some (HasNoneWithin whole c.deref-in-Some.result.now) (λ w. IsPartWithin w whole c.deref-in-Some.result.now) c.in-Some-2.section c.in-Some-2.is c.in_ok-section-in-Some.ensures))
