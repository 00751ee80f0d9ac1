use Rattle.std.proofs.Common.{◌%◌, arith}
use Rattle.std.proofs.Math.Nat.{one-le-pow}
use Rattle.qm_gen.proofs.Walls.{digit_weight}
use Rattle.qm_gen.proofs.room_list.doorway_place.Goals as goal

pub pow-requires : goal.pow-requires
pow-requires c = digit_weight (c.args.room % 32) (omega arith)

pub nonzero_div-result : goal.nonzero_div-result
nonzero_div-result c = let some = one-le-pow (c.args.room % 32) 4 (omega arith) in omega (arith, some, c.pow.ensures)
