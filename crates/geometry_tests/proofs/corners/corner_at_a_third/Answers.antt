use Rattle.std.proofs.Common.{◌≡◌, ◌*◌, ◌≤◌, ◌<ℤ◌, ◌*ℤ◌, ◌+ℤ◌, ◌-ℤ◌, ℤ, pos, Option, Some, None, IfSome, subst, arith, unsigned_abs}
use Rattle.std.proofs.lemmas.Int.{ints}
use Rattle.qm_space.specs.Point.{Point}
use Rattle.qm_space.specs.Plane.{Plane, value, IsOn}
use Rattle.qm_space.specs.Coordinates.{HasSmallCoordinates}
use Rattle.qm_geom.specs.Corners.{MeetOnlyIn}
use Rattle.geometry_tests.proofs.corners.corner_at_a_third.Goals as goal

abbrev one_third : Plane
one_third = record { nx = pos 3; ny = pos 0; nz = pos 0; d = pos 1 }

abbrev no_y : Plane
no_y = record { nx = pos 0; ny = pos 1; nz = pos 0; d = pos 0 }

abbrev no_z : Plane
no_z = record { nx = pos 0; ny = pos 0; nz = pos 1; d = pos 0 }

small : (p : Point) → MeetOnlyIn one_third no_y no_z p → HasSmallCoordinates p
unfolding value
small p meet =
    let weight = meet.weight in let x = meet.first in let y = meet.second in let z = meet.third in
    record { x_small = omega (arith, ints); y_small = omega (arith, ints); z_small = omega (arith, ints) }

if_some : (o : Option Point) → IfSome o (MeetOnlyIn one_third no_y no_z) → IfSome o HasSmallCoordinates
if_some None none = tt
if_some (Some p) meet = small p meet

pub returns : goal.returns
returns c =
    if_some c.of.result
    (subst (λ (h : Plane). IfSome c.of.result (MeetOnlyIn one_third no_y h)) c.level.ensures
    (subst (λ (h : Plane). IfSome c.of.result (MeetOnlyIn one_third h c.level.result)) c.across.ensures
    (subst (λ (h : Plane). IfSome c.of.result (MeetOnlyIn h c.across.result c.level.result)) c.third.ensures c.of.ensures.only)))
