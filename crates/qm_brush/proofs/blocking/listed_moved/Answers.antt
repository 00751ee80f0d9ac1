use Rattle.std.proofs.Common.{arith}
use Rattle.qm_brush.proofs.EnteredFaces.{on_error}
use Rattle.qm_brush.proofs.MovedBrushes.{none_moved, next_moved, all_moved, length-moved, part_moved}
use Rattle.qm_brush.proofs.ValidBrushes.{valid_brush_at}
use Rattle.qm_brush.proofs.blocking.listed_moved.Goals as goal

pub loop-brush-init : goal.loop-brush-init
loop-brush-init c = rw c.new-list.ensures (none_moved c.args.cuboid.now c.args.brushes.now c.args.book.now c.len.ensures.planes)

pub add_if_obstacle-requires-clause-valid : goal.add_if_obstacle-requires-clause-valid
add_if_obstacle-requires-clause-valid c =
    (valid_brush_at c.args.brushes.now c.requires.valid c.loop-brush.brush-index c.brush-item.result c.loop-brush-test.true c.brush-item.is).faces

pub add_if_obstacle-requires-clause-room : goal.add_if_obstacle-requires-clause-room
add_if_obstacle-requires-clause-room c =
    let few = (valid_brush_at c.args.brushes.now c.requires.valid c.loop-brush.brush-index c.brush-item.result c.loop-brush-test.true c.brush-item.is).few in
    let n = length-moved c.args.cuboid.now c.args.brushes.now c.loop-brush.brush-index c.loop-brush.list c.args.book.now c.loop-brush.book c.loop-brush.invariant in
    let all = c.requires.valid.few in
    let room = c.requires.room in
    omega (arith, few, n, all, room)

pub loop-brush-preserved : goal.loop-brush-preserved
loop-brush-preserved c =
    next_moved c.args.cuboid.now c.args.brushes.now c.loop-brush.brush-index c.loop-brush.list c.args.book.now c.loop-brush.book c.loop-brush.invariant
    c.brush-item.result c.add_if_obstacle.new.list c.add_if_obstacle.new.book c.loop-brush-test.true c.brush-item.is c.in_ok-add_if_obstacle.ensures.ok

pub returns-in_err-add_if_obstacle-clause-prefix : goal.returns-in_err-add_if_obstacle-clause-prefix
returns-in_err-add_if_obstacle-clause-prefix c =
    on_error c.from_residual.result
    (part_moved c.args.cuboid.now c.args.brushes.now c.loop-brush.brush-index c.loop-brush.list c.args.book.now c.loop-brush.book c.loop-brush.invariant
    c.brush-item.result c.add_if_obstacle.new.book c.loop-brush-test.true c.brush-item.is c.in_err-add_if_obstacle.ensures.err)

pub returns-clause-ok : goal.returns-clause-ok
returns-clause-ok c = all_moved c.args.cuboid.now c.args.brushes.now c.loop-brush.brush-index c.loop-brush.list c.args.book.now c.loop-brush.book c.loop-brush.invariant c.loop-brush-test.false
