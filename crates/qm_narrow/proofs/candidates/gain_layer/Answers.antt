use Rattle.std.proofs.Common.{refl, sym, subst, pos, ap, rules}
use Rattle.qm_space.specs.Point.{Point, whole_point}
use Rattle.qm_separators.specs.Gains.{Gains}
use Rattle.qm_separators.specs.inner.Found.{SeparatesByMix}
use Rattle.qm_separators.proofs.FoundMixes.{gains_y, gains_y_alike}
use Rattle.qm_narrow.proofs.Coordinates.{same_coordinate}
use Rattle.qm_narrow.proofs.ListedNormals.{found_by_mix}
use Rattle.qm_narrow.proofs.MixedCandidates.{with_above, with_below, mixes_y_high, mixes_y_low}
use Rattle.qm_narrow.proofs.candidates.gain_layer.Goals as goal

pub gain_row-requires-clause-points : goal.gain_row-requires-clause-points
gain_row-requires-clause-points c =
    with_above c.requires.points _ refl refl refl refl c.with_z_of-high.ensures.in_cube c.with_z_of-high.ensures.exact
    (mixes_y_high (whole_point c.args.points.now.below) (whole_point c.args.points.now.above))

pub gain_row-requires-then-below-above-clause-points : goal.gain_row-requires-then-below-above-clause-points
gain_row-requires-then-below-above-clause-points c =
    with_below c.requires.points _ refl refl refl refl c.with_z_of-low.ensures.in_cube c.with_z_of-low.ensures.exact
    (mixes_y_low (whole_point c.args.points.now.below) (whole_point c.args.points.now.above))

pub returns-in_ok-gain_row-2 : goal.returns-in_ok-gain_row-2
returns-in_ok-gain_row-2 c =
    gains_y c.args.pair.now.source.now c.args.pair.now.pass.now (whole_point c.args.points.now.below) (whole_point c.args.points.now.above) (whole_point c.args.points.now.from) (whole_point c.args.points.now.to) c.requires.flat
    c.args.planes.now.items c.gain_row.new.planes.items c.gain_row-then-below-above.new.planes.items
    (subst (λ (q : Point). Gains (SeparatesByMix c.args.pair.now.source.now c.args.pair.now.pass.now (whole_point c.args.points.now.below) q (whole_point c.args.points.now.from) (whole_point c.args.points.now.to)) c.args.planes.now.items c.gain_row.new.planes.items) c.with_z_of-high.ensures.exact c.in_ok-gain_row.ensures)
    (subst (λ (q : Point). Gains (SeparatesByMix c.args.pair.now.source.now c.args.pair.now.pass.now q (whole_point c.args.points.now.above) (whole_point c.args.points.now.from) (whole_point c.args.points.now.to)) c.gain_row.new.planes.items c.gain_row-then-below-above.new.planes.items) c.with_z_of-low.ensures.exact c.in_ok-gain_row-2.ensures)

pub returns-else-below-above : goal.returns-else-below-above
returns-else-below-above c =
    gains_y_alike c.args.pair.now.source.now c.args.pair.now.pass.now (whole_point c.args.points.now.below) (whole_point c.args.points.now.above) (whole_point c.args.points.now.from) (whole_point c.args.points.now.to)
    c.requires.flat (same_coordinate _ _ (c.requires.points.below_in 1 (pos 0) (search rules)) (c.requires.points.above_in 1 (pos 0) (search rules)) c.if-below-above.false)
    c.args.planes.now.items c.gain_row.new.planes.items
    (subst (λ (q : Point). Gains (SeparatesByMix c.args.pair.now.source.now c.args.pair.now.pass.now (whole_point c.args.points.now.below) q (whole_point c.args.points.now.from) (whole_point c.args.points.now.to)) c.args.planes.now.items c.gain_row.new.planes.items) c.with_z_of-high.ensures.exact c.in_ok-gain_row.ensures)

pub gain_row-requires-clause-flat : goal.gain_row-requires-clause-flat
gain_row-requires-clause-flat c = ap (λ (p : Point). p.x) (sym c.with_z_of-high.ensures.exact)

pub gain_row-requires-clause-straight : goal.gain_row-requires-clause-straight
gain_row-requires-clause-straight c = ap (λ (p : Point). p.y) (sym c.with_z_of-high.ensures.exact)

pub gain_row-requires-then-below-above-clause-flat : goal.gain_row-requires-then-below-above-clause-flat
gain_row-requires-then-below-above-clause-flat c = ap (λ (p : Point). p.x) c.with_z_of-low.ensures.exact

pub gain_row-requires-then-below-above-clause-straight : goal.gain_row-requires-then-below-above-clause-straight
gain_row-requires-then-below-above-clause-straight c = ap (λ (p : Point). p.y) c.with_z_of-low.ensures.exact

pub gain_row-requires-then-below-above-clause-found : goal.gain_row-requires-then-below-above-clause-found
gain_row-requires-then-below-above-clause-found c =
    found_by_mix c.args.pair.now.source.now c.args.pair.now.pass.now c.args.planes.now.items c.gain_row.new.planes.items (whole_point c.args.points.now.below) (whole_point c.with_z_of-high.result) (whole_point c.args.points.now.from) (whole_point c.args.points.now.to) c.in_ok-gain_row.ensures c.requires.found
