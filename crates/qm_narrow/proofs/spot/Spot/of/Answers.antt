use Rattle.std.proofs.Common.{rules}
use Rattle.qm_narrow.proofs.WholeCorners.{whole_spot}
use Rattle.qm_narrow.proofs.spot.Spot.of.Goals as goal

pub returns-in-Some : goal.returns-in-Some
returns-in-Some c = whole_spot c.args.corner.now c.in-Some.at c.fine_at.result c.requires.in_cube (search rules) c.in-Some.ensures (c.fine_at.ensures c.args.corner.now c.in-Some.ensures)
