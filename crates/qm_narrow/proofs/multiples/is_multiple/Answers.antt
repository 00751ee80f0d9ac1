use Rattle.std.proofs.Common.{refl}
use Rattle.qm_narrow.proofs.KeptNormals.{equal_kept}
use Rattle.qm_narrow.proofs.multiples.is_multiple.Goals as goal

pub returns-clause-xy : goal.returns-clause-xy
returns-clause-xy c = λ _. equal_kept c.args.normal.now.x c.args.other.now.y c.args.normal.now.y c.args.other.now.x c.requires.normal_small.x_small c.requires.other_small.y_small c.requires.normal_small.y_small c.requires.other_small.x_small (c.if-not-are_equal.ensures refl)

pub returns-clause-yz : goal.returns-clause-yz
returns-clause-yz c = λ _. equal_kept c.args.normal.now.y c.args.other.now.z c.args.normal.now.z c.args.other.now.y c.requires.normal_small.y_small c.requires.other_small.z_small c.requires.normal_small.z_small c.requires.other_small.y_small (c.if-not-are_equal-2.ensures refl)

pub returns-clause-zx : goal.returns-clause-zx
returns-clause-zx c = λ is. equal_kept c.args.normal.now.z c.args.other.now.x c.args.normal.now.x c.args.other.now.z c.requires.normal_small.z_small c.requires.other_small.x_small c.requires.normal_small.x_small c.requires.other_small.z_small (c.are_equal-2.ensures is)
