use Rattle.std.proofs.Common.{sym, subst}
use Rattle.qm_space.specs.Reduced.{IsReduced}
use Rattle.qm_blocking.proofs.MovedPlanes.{moved_is_reduced, along_small}
use Rattle.qm_brush.proofs.MovedFaces.{moved_fields}
use Rattle.qm_brush.proofs.moving.moved_ahead.Goals as goal

pub moved_distance-requires-clause-small : goal.moved_distance-requires-clause-small
moved_distance-requires-clause-small c =
    along_small c.args.cuboid.now c.args.plane.now (subst IsReduced c.plane.view_is c.plane.invariant) c.requires.moving.short

pub returns : goal.returns
returns c =
    let small = along_small c.args.cuboid.now c.args.plane.now (subst IsReduced c.plane.view_is c.plane.invariant) c.requires.moving.short in
    moved_fields c.args.cuboid.now _ c.args.plane.now c.moved_distance.result c.plane.view_is c.plane.invariant small c.requires.near c.moved_distance.ensures

pub invariant_of-result : goal.invariant_of-result
invariant_of-result c =
    subst IsReduced (sym (returns c)) (moved_is_reduced c.args.cuboid.now c.args.plane.now c.requires.moving (subst IsReduced c.plane.view_is c.plane.invariant) c.requires.near)
