use Rattle.std.proofs.Common.{true, refl, rules, arith}
use Rattle.qm_contents.specs.declared.contents.Contents.TheVariants.{Solid}
use Rattle.qm_blocking.specs.MovedSolids.{moved_side}
use Rattle.qm_brush.specs.declared.entry.Entry.{Entry}
use Rattle.qm_brush.proofs.EnteredFaces.{on_error, whole_entered}
use Rattle.qm_brush.proofs.AddedBrushes.{longer_within, one_more_within}
use Rattle.qm_brush.proofs.MovedBrushes.{moved_added}
use Rattle.qm_brush.proofs.brush_list.BrushList.add_moved.Goals as goal

pub enter_moved_faces-requires-clause-valid : goal.enter_moved_faces-requires-clause-valid
enter_moved_faces-requires-clause-valid c = rw c.as_slice.ensures c.requires.valid

pub enter_moved_faces-requires-clause-room : goal.enter_moved_faces-requires-clause-room
enter_moved_faces-requires-clause-room c = rw c.as_slice.ensures c.requires.room

pub invariant_of-self : goal.invariant_of-self
invariant_of-self c =
    longer_within c.self.inside.faces.items c.enter_moved_faces.new.into.items c.enter_moved_faces.ensures.longer.0 c.self.inside.entries.items c.enter_moved_faces.ensures.longer.1 c.self.invariant

pub invariant_of-self-in_err-push : goal.invariant_of-self-in_err-push
invariant_of-self-in_err-push c =
    rw c.in_err-push.ensures.items
    (longer_within c.self.inside.faces.items c.enter_moved_faces.new.into.items c.enter_moved_faces.ensures.longer.0 c.self.inside.entries.items c.enter_moved_faces.ensures.longer.1 c.self.invariant)

pub invariant_of-self-2 : goal.invariant_of-self-2
invariant_of-self-2 c =
    let entry : Entry = record { contents = Solid; full = true; start = c.len-start.result; end = c.len-end.result } in
    let entered = rw c.as_slice.ensures at c.in_ok-enter_moved_faces.ensures.ok in
    rw c.in_ok-push.ensures.items
    (one_more_within (moved_side c.args.cuboid.now) c.args.brush.now.faces c.self.inside.faces.items c.enter_moved_faces.new.into.items c.self.inside.entries.items entry c.args.book.now c.enter_moved_faces.new.book
    entered (search rules) (search rules) (let room = c.requires.room in omega (arith, room)) c.self.invariant)

pub returns-in_err-enter_moved_faces-clause-err : goal.returns-in_err-enter_moved_faces-clause-err
returns-in_err-enter_moved_faces-clause-err c = on_error c.from_residual.result (rw c.as_slice.ensures at c.in_err-enter_moved_faces.ensures.err)

pub returns-in_err-push-clause-err : goal.returns-in_err-push-clause-err
returns-in_err-push-clause-err c =
    on_error c.from_residual-in_err-push.result
    (whole_entered (moved_side c.args.cuboid.now) c.args.brush.now.faces c.self.inside.faces.items c.enter_moved_faces.new.into.items c.args.book.now c.enter_moved_faces.new.book (rw c.as_slice.ensures at c.in_ok-enter_moved_faces.ensures.ok))

pub returns-clause-ok : goal.returns-clause-ok
returns-clause-ok c =
    let entry : Entry = record { contents = Solid; full = true; start = c.len-start.result; end = c.len-end.result } in
    let entered = rw c.as_slice.ensures at c.in_ok-enter_moved_faces.ensures.ok in
    rw (← c.self.view_is, c.in_ok-push.ensures.items)
    (moved_added c.args.cuboid.now c.args.brush.now c.self.inside.faces.items c.enter_moved_faces.new.into.items c.self.inside.entries.items entry c.args.book.now c.enter_moved_faces.new.book
    entered (search rules) (search rules) refl refl c.requires.moving.has_origin c.requires.full c.requires.valid c.self.invariant c.len.ensures.planes)
