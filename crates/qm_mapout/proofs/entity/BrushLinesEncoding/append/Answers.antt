use Rattle.qm_mapout.proofs.Parts.{brush_put}
use Rattle.qm_mapout.proofs.entity.BrushLinesEncoding.append.Goals as goal

pub returns : goal.returns
returns c =
    rw (brush_put c.args.brush.now c.args.out.now.items c.put_open_brace.new.out.items c.append_all.new.out.items c.in_ok-put_open_brace.ensures (rw (← c.as_slice.ensures) c.in_ok-append_all.ensures.ok)) c.put_close_brace.ensures
