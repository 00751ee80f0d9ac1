use Rattle.qm_brush.proofs.MovedBrushes.{full_answer}
use Rattle.qm_brush.proofs.blocking.is_brush_full.Goals as goal

pub returns : goal.returns
returns c =
    let entered = rw (c.as_slice.ensures, c.new-faces.ensures.items, c.new-book.ensures) at c.in_ok-enter_faces.ensures.ok in
    full_answer c.args.brush.now c.enter_faces.new.into.items c.enter_faces.new.book c.is_full.result c.requires.valid entered (rw (c.deref.ensures.value, c.planes.ensures.value) at c.is_full.ensures)
