use Rattle.std.proofs.Common.{refl, pos, rules, inl, inr}
use Rattle.qm_space.specs.Point.{whole_point}
use Rattle.qm_separators.proofs.FoundMixes.{gains_z, gains_z_alike, candidate_below, candidate_above}
use Rattle.qm_narrow.proofs.Coordinates.{same_coordinate}
use Rattle.qm_narrow.proofs.ListedNormals.{found_by}
use Rattle.qm_narrow.proofs.candidates.gain_row.Goals as goal

pub gain_through-requires-clause-candidate : goal.gain_through-requires-clause-candidate
gain_through-requires-clause-candidate c = candidate_below c.args.pair.now.source.now c.args.pair.now.pass.now (whole_point c.args.points.now.below) (whole_point c.args.points.now.above) (whole_point c.args.points.now.from) (whole_point c.args.points.now.to) c.requires.points.each refl

pub gain_through-requires-then-below-above-clause-candidate : goal.gain_through-requires-then-below-above-clause-candidate
gain_through-requires-then-below-above-clause-candidate c = candidate_above c.args.pair.now.source.now c.args.pair.now.pass.now (whole_point c.args.points.now.below) (whole_point c.args.points.now.above) (whole_point c.args.points.now.from) (whole_point c.args.points.now.to) c.requires.points.each refl

pub returns-in_ok-gain_through-2 : goal.returns-in_ok-gain_through-2
returns-in_ok-gain_through-2 c =
    gains_z c.args.pair.now.source.now c.args.pair.now.pass.now (whole_point c.args.points.now.below) (whole_point c.args.points.now.above) (whole_point c.args.points.now.from) (whole_point c.args.points.now.to) c.requires.flat c.requires.straight refl refl
    c.args.planes.now.items c.gain_through.new.planes.items c.gain_through-then-below-above.new.planes.items c.in_ok-gain_through.ensures c.in_ok-gain_through-2.ensures

pub returns-else-below-above : goal.returns-else-below-above
returns-else-below-above c =
    gains_z_alike c.args.pair.now.source.now c.args.pair.now.pass.now (whole_point c.args.points.now.below) (whole_point c.args.points.now.above) (whole_point c.args.points.now.from) (whole_point c.args.points.now.to) c.requires.flat c.requires.straight refl refl
    (same_coordinate _ _ (c.requires.points.below_in 2 (pos 0) (search rules)) (c.requires.points.above_in 2 (pos 0) (search rules)) c.if-below-above.false)
    c.args.planes.now.items c.gain_through.new.planes.items c.in_ok-gain_through.ensures

pub gain_through-requires-then-below-above-clause-found : goal.gain_through-requires-then-below-above-clause-found
gain_through-requires-then-below-above-clause-found c =
    found_by c.args.pair.now.source.now c.args.pair.now.pass.now c.args.planes.now.items c.gain_through.new.planes.items (whole_point c.args.points.now.below) (whole_point c.args.points.now.from) (whole_point c.args.points.now.to) c.in_ok-gain_through.ensures c.requires.found

pub gain_through-requires-clause-told : goal.gain_through-requires-clause-told
gain_through-requires-clause-told c = c.requires.points.told (whole_point c.args.points.now.below) (record { x = inl refl; y = inl refl; z = inl refl; weight = refl })

pub gain_through-requires-then-below-above-clause-told : goal.gain_through-requires-then-below-above-clause-told
gain_through-requires-then-below-above-clause-told c = c.requires.points.told (whole_point c.args.points.now.above) (record { x = inr refl; y = inr refl; z = inr refl; weight = refl })
