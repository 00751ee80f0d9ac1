use Rattle.std.proofs.Common.{◌^◌, lit≤}
use Rattle.qm_geom.specs.Vectors.{cross_vector}
use Rattle.qm_numbers.proofs.Kept.{crossed_answered, small_kept}
use Rattle.qm_geom.proofs.Vectors.{same_vector, small_vector}
use Rattle.qm_geom.proofs.vector.Vector.cross.Goals as goal

pub crossed-requires : goal.crossed-requires
crossed-requires c = record {
  first_small = small_kept c.args.self.now.y (2 ^ 26) (lit≤ tt) c.requires.self_small.y_small;
  second_small = small_kept c.args.other.now.z (2 ^ 26) (lit≤ tt) c.requires.other_small.z_small;
  third_small = small_kept c.args.self.now.z (2 ^ 26) (lit≤ tt) c.requires.self_small.z_small;
  fourth_small = small_kept c.args.other.now.y (2 ^ 26) (lit≤ tt) c.requires.other_small.y_small;
}

pub crossed-requires-2 : goal.crossed-requires-2
crossed-requires-2 c = record {
  first_small = small_kept c.args.self.now.z (2 ^ 26) (lit≤ tt) c.requires.self_small.z_small;
  second_small = small_kept c.args.other.now.x (2 ^ 26) (lit≤ tt) c.requires.other_small.x_small;
  third_small = small_kept c.args.self.now.x (2 ^ 26) (lit≤ tt) c.requires.self_small.x_small;
  fourth_small = small_kept c.args.other.now.z (2 ^ 26) (lit≤ tt) c.requires.other_small.z_small;
}

pub crossed-requires-3 : goal.crossed-requires-3
crossed-requires-3 c = record {
  first_small = small_kept c.args.self.now.x (2 ^ 26) (lit≤ tt) c.requires.self_small.x_small;
  second_small = small_kept c.args.other.now.y (2 ^ 26) (lit≤ tt) c.requires.other_small.y_small;
  third_small = small_kept c.args.self.now.y (2 ^ 26) (lit≤ tt) c.requires.self_small.y_small;
  fourth_small = small_kept c.args.other.now.x (2 ^ 26) (lit≤ tt) c.requires.other_small.x_small;
}

pub returns-clause-exact : goal.returns-clause-exact
unfolding cross_vector
returns-clause-exact c =
    let s = c.requires.self_small in let o = c.requires.other_small in
    same_vector _ _ _ _ _ _
    (crossed_answered c.crossed.result c.args.self.now.y c.args.other.now.z c.args.self.now.z c.args.other.now.y s.y_small o.z_small s.z_small o.y_small c.crossed.ensures.exact)
    (crossed_answered c.crossed-2.result c.args.self.now.z c.args.other.now.x c.args.self.now.x c.args.other.now.z s.z_small o.x_small s.x_small o.z_small c.crossed-2.ensures.exact)
    (crossed_answered c.crossed-3.result c.args.self.now.x c.args.other.now.y c.args.self.now.y c.args.other.now.x s.x_small o.y_small s.y_small o.x_small c.crossed-3.ensures.exact)

pub returns-clause-size : goal.returns-clause-size
returns-clause-size c = small_vector c.crossed.result c.crossed-2.result c.crossed-3.result (2 ^ 53) (lit≤ tt) c.crossed.ensures.size c.crossed-2.ensures.size c.crossed-3.ensures.size
