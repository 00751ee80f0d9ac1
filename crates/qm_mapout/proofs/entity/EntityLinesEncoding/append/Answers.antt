use Rattle.qm_mapout.proofs.Parts.{entity_put}
use Rattle.qm_mapout.proofs.entity.EntityLinesEncoding.append.Goals as goal

pub returns : goal.returns
returns c =
    rw (entity_put c.args.entity.now c.args.out.now.items c.put_open_brace.new.out.items c.append_all.new.out.items c.append_all-2.new.out.items c.in_ok-put_open_brace.ensures (rw (← c.as_slice.ensures) c.in_ok-append_all.ensures.ok) (rw (← c.as_slice-2.ensures) c.in_ok-append_all-2.ensures.ok)) c.put_close_brace.ensures
