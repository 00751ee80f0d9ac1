use Rattle.std.proofs.Common.{sym, ◌∙◌, subst, arith}
use Rattle.qm_space.specs.Plane.{Plane}
use Rattle.qm_grammar.specs.Valid.{IsValidFace}
use Rattle.qm_blocking.specs.MovedSolids.{moved_side, moved_plane_of_face}
use Rattle.qm_brush.specs.inner.Entered.{AreFirstEntered}
use Rattle.std.specs.Prelude.{List, map}
use Rattle.qm_brush.proofs.EnteredFaces.{on_error, none_entered, next_entered, all_entered, length-entered_faces, first_entered}
use Rattle.qm_brush.proofs.moving.enter_moved_faces.Goals as goal

pub loop-face-init : goal.loop-face-init
loop-face-init c = none_entered (moved_side c.args.cuboid.now) c.args.faces.now c.args.into.now.items c.args.book.now

pub enter_moved_face-requires-clause-room : goal.enter_moved_face-requires-clause-room
enter_moved_face-requires-clause-room c =
    let n = length-entered_faces (moved_side c.args.cuboid.now) c.args.faces.now c.loop-face.face-index c.args.into.now.items c.loop-face.into.items c.args.book.now c.loop-face.book c.loop-face.invariant c.loop-face.auto.face-index-end in
    let room = c.requires.room in
    let within = c.loop-face-test.true in
    omega (arith, n, room, within)

pub loop-face-preserved : goal.loop-face-preserved
loop-face-preserved c =
    next_entered (moved_side c.args.cuboid.now) c.args.faces.now c.loop-face.face-index c.args.into.now.items c.loop-face.into.items c.args.book.now c.loop-face.book c.loop-face.invariant
    c.face-item.result c.enter_moved_face.new.into.items c.enter_moved_face.new.book c.loop-face-test.true c.face-item.is c.in_ok-enter_moved_face.ensures.ok

pub returns-in_err-enter_moved_face-clause-err : goal.returns-in_err-enter_moved_face-clause-err
returns-in_err-enter_moved_face-clause-err c =
    on_error c.from_residual.result
    (subst (λ (book : List Plane). AreFirstEntered c.args.book.now (map (moved_plane_of_face c.args.cuboid.now) c.args.faces.now) book) (sym c.in_err-enter_moved_face.ensures.same_book)
    (first_entered (moved_side c.args.cuboid.now) c.args.faces.now c.loop-face.face-index c.args.into.now.items c.loop-face.into.items c.args.book.now c.loop-face.book c.loop-face.invariant))

pub returns-clause-ok : goal.returns-clause-ok
returns-clause-ok c =
    all_entered (moved_side c.args.cuboid.now) c.args.faces.now c.loop-face.face-index c.args.into.now.items c.loop-face.into.items c.args.book.now c.loop-face.book c.loop-face.invariant c.loop-face-test.false

pub returns-clause-longer : goal.returns-clause-longer
returns-clause-longer c = (c.loop-face.invariant.its, c.loop-face.invariant.added)

pub returns-in_err-enter_moved_face-clause-longer : goal.returns-in_err-enter_moved_face-clause-longer
returns-in_err-enter_moved_face-clause-longer c = (c.loop-face.invariant.its, c.in_err-enter_moved_face.ensures.same_faces ∙ c.loop-face.invariant.added)

pub enter_moved_face-requires-clause-coordinates : goal.enter_moved_face-requires-clause-coordinates
enter_moved_face-requires-clause-coordinates c =
    (subst IsValidFace (sym c.face-item.is) (c.requires.valid c.loop-face.face-index c.face-item.result c.loop-face-test.true)).coordinates

pub enter_moved_face-requires-clause-plane : goal.enter_moved_face-requires-clause-plane
enter_moved_face-requires-clause-plane c =
    (subst IsValidFace (sym c.face-item.is) (c.requires.valid c.loop-face.face-index c.face-item.result c.loop-face-test.true)).plane
