use Rattle.std.proofs.Common.{rules, ◌^◌, pos, lit≤}
use Rattle.qm_geom.specs.Vectors.{vector_between}
use Rattle.qm_space.proofs.CoordinateSizes.{thousandths_kept}
use Rattle.qm_geom.proofs.Vectors.{difference_answered, same_vector, small_vector}
use Rattle.qm_geom.proofs.vector.Vector.between.Goals as goal

pub difference-requires : goal.difference-requires
difference-requires c = record {
  from_in_cube = thousandths_kept _ (c.requires.from_in_cube 0 (pos 0) (search rules));
  to_in_cube = thousandths_kept _ (c.requires.to_in_cube 0 (pos 0) (search rules));
}

pub difference-requires-2 : goal.difference-requires-2
difference-requires-2 c = record {
  from_in_cube = thousandths_kept _ (c.requires.from_in_cube 1 (pos 0) (search rules));
  to_in_cube = thousandths_kept _ (c.requires.to_in_cube 1 (pos 0) (search rules));
}

pub difference-requires-3 : goal.difference-requires-3
difference-requires-3 c = record {
  from_in_cube = thousandths_kept _ (c.requires.from_in_cube 2 (pos 0) (search rules));
  to_in_cube = thousandths_kept _ (c.requires.to_in_cube 2 (pos 0) (search rules));
}

pub returns-clause-exact : goal.returns-clause-exact
unfolding vector_between
returns-clause-exact c =
    same_vector _ _ _ _ _ _
    (difference_answered c.difference.result _ _ (c.requires.from_in_cube 0 (pos 0) (search rules)) (c.requires.to_in_cube 0 (pos 0) (search rules)) c.difference.ensures.exact)
    (difference_answered c.difference-2.result _ _ (c.requires.from_in_cube 1 (pos 0) (search rules)) (c.requires.to_in_cube 1 (pos 0) (search rules)) c.difference-2.ensures.exact)
    (difference_answered c.difference-3.result _ _ (c.requires.from_in_cube 2 (pos 0) (search rules)) (c.requires.to_in_cube 2 (pos 0) (search rules)) c.difference-3.ensures.exact)

pub returns-clause-size : goal.returns-clause-size
returns-clause-size c =
    small_vector c.difference.result c.difference-2.result c.difference-3.result (2 ^ 26) (lit≤ tt) c.difference.ensures.size c.difference-2.ensures.size c.difference-3.ensures.size
