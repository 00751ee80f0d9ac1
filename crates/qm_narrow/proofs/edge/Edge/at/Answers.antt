use Rattle.std.proofs.Common.{ℕ, ◌<◌, subst, ◌∙◌, ap}
use Rattle.qm_numbers.specs.Rounding.{IsNearest}
use Rattle.qm_space.specs.Coordinates.{AreCoordinatesBy}
use Rattle.qm_convex.specs.Winding.{corner_at, next_place}
use Rattle.qm_space.proofs.CoordinateSizes.{thousandths_of_coordinates}
use Rattle.qm_narrow.proofs.edge.Edge.at.Goals as goal

pub returns-clause-of_winding : goal.returns-clause-of_winding
returns-clause-of_winding c = record {
  convex = c.len-count.ensures.in_world.convex;
  place_in = c.requires;
  first = c.spot-first.ensures;
  from_is = c.spot-first.ensures.nearest;
  to_is = subst (λ (n : ℕ). AreCoordinatesBy IsNearest (corner_at c.args.edges.now n) c.spot.result.now.nearest) (c.next_place-next.ensures.value ∙ ap (λ (n : ℕ). next_place n c.args.i) c.len-count.ensures.count) c.spot.ensures.nearest;
  beside = record {
    place = c.next_place-after.result;
    place_in = subst (λ (n : ℕ). c.next_place-after.result < n) c.len-count.ensures.count c.next_place-after.ensures.in_range;
    near = c.spot-2.ensures;
  };
}

pub between-requires-clause-from_in_cube : goal.between-requires-clause-from_in_cube
between-requires-clause-from_in_cube c = thousandths_of_coordinates _ c.spot-first.ensures.nearest_in

pub between-requires-clause-to_in_cube : goal.between-requires-clause-to_in_cube
between-requires-clause-to_in_cube c = thousandths_of_coordinates _ c.spot.ensures.nearest_in
