use Rattle.qm_lines.proofs.Crossings.{in_front_there, in_front_at_spot}
use Rattle.qm_lines.proofs.crossing.Crossing.is_within.Goals as goal

pub returns-in-None : goal.returns-in-None
returns-in-None c =
    (λ so. in_front_there c.args.self c.args.line.now c.spot.result c.spot.ensures c.args.planes.now (c.is_within.ensures.0 so), λ all. c.is_within.ensures.1 (in_front_at_spot c.args.self c.args.line.now c.spot.result c.spot.ensures c.args.planes.now all))

pub returns-in-Some : goal.returns-in-Some
returns-in-Some c =
    (λ so. in_front_there c.args.self c.args.line.now c.in-Some.spot c.in-Some.ensures c.args.planes.now (c.is_within-in-Some.ensures.0 so), λ all. c.is_within-in-Some.ensures.1 (in_front_at_spot c.args.self c.args.line.now c.in-Some.spot c.in-Some.ensures c.args.planes.now all))
