use Rattle.std.proofs.Common.{length, arith}
use Rattle.qm_faces.proofs.RowsOfOwners.{rows_begin, rows_more, rows_end}
use Rattle.qm_faces.proofs.rows.owner_rows.Goals as goal

pub loop-brush-init : goal.loop-brush-init
loop-brush-init c = rows_begin (length c.args.planes.now) c.args.list.now c.in_ok-rows.rows.items c.in_ok-rows.ensures.count c.in_ok-rows.ensures.empty

pub loop-brush-preserved : goal.loop-brush-preserved
loop-brush-preserved c = rows_more (length c.args.planes.now) c.args.list.now c.loop-brush.brush c.loop-brush.rows.items c.add_brush.new.rows.items (omega arith) c.loop-brush.invariant c.in_ok-add_brush.ensures

pub returns : goal.returns
returns c = rows_end (length c.args.planes.now) c.args.list.now c.loop-brush.brush c.loop-brush.rows.items (omega arith) c.loop-brush.invariant
