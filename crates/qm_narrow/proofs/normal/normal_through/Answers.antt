use Rattle.std.proofs.Common.{◌∙◌, ap}
use Rattle.qm_space.specs.Point.{whole_point}
use Rattle.qm_space.specs.ThreePoints.{outward_plane}
use Rattle.qm_space.proofs.CoordinateSizes.{whole_point_is_whole, thousandths_of_coordinates}
use Rattle.qm_geom.specs.Vectors.{vector_between, cross_vector, direction_of}
use Rattle.qm_narrow.proofs.KeptNormals.{through_small}
use Rattle.qm_narrow.proofs.normal.normal_through.Goals as goal

pub between-first-requires : goal.between-first-requires
between-first-requires c = record { from_in_cube = thousandths_of_coordinates _ c.requires.from_in_cube; to_in_cube = thousandths_of_coordinates _ c.requires.at_in_cube }

pub between-second-requires : goal.between-second-requires
between-second-requires c = record { from_in_cube = thousandths_of_coordinates _ c.requires.from_in_cube; to_in_cube = thousandths_of_coordinates _ c.requires.to_in_cube }

pub returns-clause-exact : goal.returns-clause-exact
unfolding outward_plane vector_between cross_vector
returns-clause-exact c = ap direction_of (c.cross.ensures.exact ∙ (λ i. cross_vector (c.between-first.ensures.exact i) (c.between-second.ensures.exact i)))

pub returns-clause-size : goal.returns-clause-size
returns-clause-size c =
    through_small c.cross.result (whole_point c.args.at) (whole_point c.args.from) (whole_point c.args.to)
    (whole_point_is_whole _ c.requires.at_in_cube) (whole_point_is_whole _ c.requires.from_in_cube) (whole_point_is_whole _ c.requires.to_in_cube)
    (returns-clause-exact c)
