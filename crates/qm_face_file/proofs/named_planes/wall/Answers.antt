use Rattle.std.proofs.Common.{◌^◌, pos, arith, w32, lit≤}
use Rattle.std.proofs.lemmas.Int.{to_z-of_z}
use Rattle.qm_numbers.proofs.Bits.{negated_64}
use Rattle.qm_face_file.proofs.named_planes.wall.Goals as goal

pub invariant_of-result : goal.invariant_of-result
invariant_of-result c = rw (to_z-of_z w32 c.args.nx c.ranges.nx, to_z-of_z w32 c.args.ny c.ranges.ny, to_z-of_z w32 c.args.nz c.ranges.nz, c.from.ensures, negated_64 (pos c.args.bound) (2 ^ 32) (let e = c.ranges.bound.fits in omega (arith, e)) (lit≤ tt)) c.requires
