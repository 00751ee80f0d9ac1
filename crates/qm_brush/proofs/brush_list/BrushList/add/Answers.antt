use Rattle.std.proofs.Common.{false, rules, arith}
use Rattle.qm_mapfile.specs.Face.{face_plane}
use Rattle.qm_brush.specs.declared.entry.Entry.{Entry}
use Rattle.qm_brush.proofs.EnteredFaces.{on_error, whole_entered}
use Rattle.qm_brush.proofs.AddedBrushes.{longer_within, one_more_within, its_numbered, brush_added}
use Rattle.qm_brush.proofs.brush_list.BrushList.add.Goals as goal

pub enter_faces-requires-clause-valid : goal.enter_faces-requires-clause-valid
enter_faces-requires-clause-valid c = rw c.as_slice.ensures c.requires.valid

pub enter_faces-requires-clause-room : goal.enter_faces-requires-clause-room
enter_faces-requires-clause-room c = rw c.as_slice.ensures c.requires.room

pub is_full-requires-clause-numbered : goal.is_full-requires-clause-numbered
is_full-requires-clause-numbered c =
    let entry : Entry = record { contents = c.args.contents; full = false; start = c.len-start.result; end = c.len-end.result } in
    let entered = rw c.as_slice.ensures at c.in_ok-enter_faces.ensures.ok in
    rw (c.deref.ensures.value, c.planes.ensures.value)
    (its_numbered face_plane c.args.brush.now.faces c.self.inside.faces.items c.enter_faces.new.into.items c.self.inside.entries.items entry c.args.book.now c.enter_faces.new.book
    entered (search rules) (search rules))

pub is_full-requires-clause-book : goal.is_full-requires-clause-book
is_full-requires-clause-book c = rw c.planes.ensures.value c.planes.ensures.planes

pub invariant_of-self : goal.invariant_of-self
invariant_of-self c =
    longer_within c.self.inside.faces.items c.enter_faces.new.into.items c.enter_faces.ensures.longer.0 c.self.inside.entries.items c.enter_faces.ensures.longer.1 c.self.invariant

pub invariant_of-self-in_err-full : goal.invariant_of-self-in_err-full
invariant_of-self-in_err-full c =
    longer_within c.self.inside.faces.items c.enter_faces.new.into.items c.enter_faces.ensures.longer.0 c.self.inside.entries.items c.enter_faces.ensures.longer.1 c.self.invariant

pub invariant_of-self-in_err-push : goal.invariant_of-self-in_err-push
invariant_of-self-in_err-push c =
    rw c.in_err-push.ensures.items
    (longer_within c.self.inside.faces.items c.enter_faces.new.into.items c.enter_faces.ensures.longer.0 c.self.inside.entries.items c.enter_faces.ensures.longer.1 c.self.invariant)

pub invariant_of-self-2 : goal.invariant_of-self-2
invariant_of-self-2 c =
    let entry : Entry = record { contents = c.args.contents; full = c.in_ok-full.full; start = c.len-start.result; end = c.len-end.result } in
    let entered = rw c.as_slice.ensures at c.in_ok-enter_faces.ensures.ok in
    rw c.in_ok-push.ensures.items
    (one_more_within face_plane c.args.brush.now.faces c.self.inside.faces.items c.enter_faces.new.into.items c.self.inside.entries.items entry c.args.book.now c.enter_faces.new.book
    entered (search rules) (search rules) (let room = c.requires.room in omega (arith, room)) c.self.invariant)

pub returns-in_err-enter_faces-clause-err : goal.returns-in_err-enter_faces-clause-err
returns-in_err-enter_faces-clause-err c = on_error c.from_residual.result (rw c.as_slice.ensures at c.in_err-enter_faces.ensures.err)

pub returns-in_err-full-clause-err : goal.returns-in_err-full-clause-err
returns-in_err-full-clause-err c =
    on_error c.from_residual-in_err-full.result
    (whole_entered face_plane c.args.brush.now.faces c.self.inside.faces.items c.enter_faces.new.into.items c.args.book.now c.enter_faces.new.book (rw c.as_slice.ensures at c.in_ok-enter_faces.ensures.ok))

pub returns-in_err-push-clause-err : goal.returns-in_err-push-clause-err
returns-in_err-push-clause-err c =
    on_error c.from_residual-in_err-push.result
    (whole_entered face_plane c.args.brush.now.faces c.self.inside.faces.items c.enter_faces.new.into.items c.args.book.now c.enter_faces.new.book (rw c.as_slice.ensures at c.in_ok-enter_faces.ensures.ok))

pub returns-clause-ok : goal.returns-clause-ok
returns-clause-ok c =
    let entry : Entry = record { contents = c.args.contents; full = c.in_ok-full.full; start = c.len-start.result; end = c.len-end.result } in
    let entered = rw c.as_slice.ensures at c.in_ok-enter_faces.ensures.ok in
    let full = rw (c.deref.ensures.value, c.planes.ensures.value) at c.in_ok-full.ensures in
    rw (← c.self.view_is, c.in_ok-push.ensures.items)
    (brush_added c.args.brush.now c.self.inside.faces.items c.enter_faces.new.into.items c.self.inside.entries.items entry c.args.book.now c.enter_faces.new.book
    entered (search rules) (search rules) c.requires.valid c.self.invariant c.planes.ensures.planes full)
