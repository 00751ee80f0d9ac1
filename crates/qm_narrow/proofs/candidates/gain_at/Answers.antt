use Rattle.std.proofs.Common.{ℕ, ◌<◌, subst}
use Rattle.qm_space.specs.Point.{whole_point}
use Rattle.qm_convex.specs.Winding.{corner_at}
use Rattle.qm_separators.proofs.WholePointLaws.{whole_by_coordinates}
use Rattle.qm_separators.proofs.FoundMixes.{are_candidates, gains_at}
use Rattle.qm_numbers.specs.Rounding.{IsNearest, IsRoundedDown, IsRoundedUp}
use Rattle.qm_narrow.proofs.Pairs.{told_by}
use Rattle.qm_narrow.proofs.NothingFound.{gains_nothing}
use Rattle.qm_narrow.proofs.candidates.gain_at.Goals as goal

pub outlook-look-requires-clause-own : goal.outlook-look-requires-clause-own
outlook-look-requires-clause-own c = (corner_at c.args.pair.now.others.now c.args.k, c.spot-own.ensures)

pub outlook-look-requires-clause-before : goal.outlook-look-requires-clause-before
outlook-look-requires-clause-before c = (corner_at c.args.pair.now.others.now c.place_before.result, c.spot-before.ensures)

pub outlook-look-requires-clause-after : goal.outlook-look-requires-clause-after
outlook-look-requires-clause-after c = (corner_at c.args.pair.now.others.now c.next_place.result, c.spot-after.ensures)

pub outlook-look-requires-clause-beside : goal.outlook-look-requires-clause-beside
outlook-look-requires-clause-beside c = (corner_at c.args.pair.now.edges.now c.requires.of_edges.beside.place, c.requires.of_edges.beside.near)

pub gain_mixed-requires-clause-points : goal.gain_mixed-requires-clause-points
gain_mixed-requires-clause-points c = record {
  below_in = c.spot-own.ensures.below_in;
  above_in = c.spot-own.ensures.above_in;
  from_in = c.requires.edge.from_in;
  to_in = c.requires.edge.to_in;
  each = are_candidates c.args.pair.now.source.now c.args.pair.now.pass.now c.args.pair.now.edges.now c.args.pair.now.others.now c.args.i c.args.k c.requires.of_edges.place_in c.requires.corner_in_range c.requires.of_edges.convex c.len-count.ensures.in_world.convex
      (whole_point c.args.edge.now.from) (whole_point c.args.edge.now.to) (whole_point c.spot-own.result.now.below) (whole_point c.spot-own.result.now.above)
      (whole_by_coordinates IsNearest _ _ c.requires.of_edges.from_is) (whole_by_coordinates IsNearest _ _ c.requires.of_edges.to_is)
      (whole_by_coordinates IsRoundedDown _ _ c.spot-own.ensures.below) (whole_by_coordinates IsRoundedUp _ _ c.spot-own.ensures.above)
      c.requires.pair.both;
  told = (told_by c.args.pair.now.source.now c.args.pair.now.pass.now c.args.pair.now.edges.now c.args.pair.now.others.now c.args.k c.args.edge.now c.spot-own.result.now c.args.pair.now.of_pass c.requires.pair.both c.requires.pair.owner c.outlook-look.result c.exchanged-outlook.result
      (c.len-count.ensures.in_world.convex.weight c.args.k c.requires.corner_in_range) c.spot-own.ensures
      (λ n through. c.outlook-look.ensures c.args.pair.now.edges.now c.args.pair.now.others.now c.args.i c.args.k n c.requires.of_edges c.len-count.ensures.in_world.convex c.requires.corner_in_range c.spot-own.ensures
      (record { place = c.place_before.result; place_in = subst (λ (m : ℕ). c.place_before.result < m) c.len-count.ensures.count c.place_before.ensures; near = c.spot-before.ensures })
      (record { place = c.next_place.result; place_in = subst (λ (m : ℕ). c.next_place.result < m) c.len-count.ensures.count c.next_place.ensures.in_range; near = c.spot-after.ensures })
      through)
      c.exchanged-outlook.ensures.ahead c.exchanged-outlook.ensures.back);
}

pub returns : goal.returns
returns c =
    gains_at c.args.pair.now.source.now c.args.pair.now.pass.now c.args.pair.now.edges.now c.args.pair.now.others.now c.args.i c.args.k c.requires.of_edges.place_in c.requires.corner_in_range c.requires.of_edges.convex c.len-count.ensures.in_world.convex
    (whole_point c.args.edge.now.from) (whole_point c.args.edge.now.to) (whole_point c.spot-own.result.now.below) (whole_point c.spot-own.result.now.above)
    (whole_by_coordinates IsNearest _ _ c.requires.of_edges.from_is) (whole_by_coordinates IsNearest _ _ c.requires.of_edges.to_is)
    (whole_by_coordinates IsRoundedDown _ _ c.spot-own.ensures.below) (whole_by_coordinates IsRoundedUp _ _ c.spot-own.ensures.above)
    c.args.planes.now.items c.gain_mixed.new.planes.items c.in_ok-gain_mixed.ensures

pub returns-then-is_none : goal.returns-then-is_none
returns-then-is_none c =
    gains_at c.args.pair.now.source.now c.args.pair.now.pass.now c.args.pair.now.edges.now c.args.pair.now.others.now c.args.i c.args.k c.requires.of_edges.place_in c.requires.corner_in_range c.requires.of_edges.convex c.len-count.ensures.in_world.convex
    (whole_point c.args.edge.now.from) (whole_point c.args.edge.now.to) (whole_point c.spot-own.result.now.below) (whole_point c.spot-own.result.now.above)
    (whole_by_coordinates IsNearest _ _ c.requires.of_edges.from_is) (whole_by_coordinates IsNearest _ _ c.requires.of_edges.to_is)
    (whole_by_coordinates IsRoundedDown _ _ c.spot-own.ensures.below) (whole_by_coordinates IsRoundedUp _ _ c.spot-own.ensures.above)
    c.args.planes.now.items c.args.planes.now.items
    (gains_nothing c.args.pair.now.source.now c.args.pair.now.pass.now (whole_point c.spot-own.result.now.below) (whole_point c.spot-own.result.now.above) (whole_point c.args.edge.now.from) (whole_point c.args.edge.now.to) c.exchanged-outlook.result
    (told_by c.args.pair.now.source.now c.args.pair.now.pass.now c.args.pair.now.edges.now c.args.pair.now.others.now c.args.k c.args.edge.now c.spot-own.result.now c.args.pair.now.of_pass c.requires.pair.both c.requires.pair.owner c.outlook-look.result c.exchanged-outlook.result
    (c.len-count.ensures.in_world.convex.weight c.args.k c.requires.corner_in_range) c.spot-own.ensures
    (λ n through. c.outlook-look.ensures c.args.pair.now.edges.now c.args.pair.now.others.now c.args.i c.args.k n c.requires.of_edges c.len-count.ensures.in_world.convex c.requires.corner_in_range c.spot-own.ensures
    (record { place = c.place_before.result; place_in = subst (λ (m : ℕ). c.place_before.result < m) c.len-count.ensures.count c.place_before.ensures; near = c.spot-before.ensures })
    (record { place = c.next_place.result; place_in = subst (λ (m : ℕ). c.next_place.result < m) c.len-count.ensures.count c.next_place.ensures.in_range; near = c.spot-after.ensures })
    through)
    c.exchanged-outlook.ensures.ahead c.exchanged-outlook.ensures.back)
    c.args.planes.now.items c.requires.found (c.is_none.ensures.ahead c.if-is_none.true) (c.is_none.ensures.back c.if-is_none.true))
