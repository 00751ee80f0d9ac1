use Rattle.std.proofs.Common.{List, [], ◌+◌, ◌∷◌, ◌++◌, false, take, get_or, Contains, sym, subst}
use Rattle.std.proofs.lemmas.Bool.{MatchBool-at_true, MatchBool-at_false}
use Rattle.std.proofs.lemmas.List.{get_or_default, take_all}
use Rattle.qm_solids.specs.declared.face.FaceRef.{FaceRef}
use Rattle.qm_lists.proofs.Elements.{Contains-from_take}
use Rattle.qm_lists.proofs.Places.{take-read}
use Rattle.qm_split.specs.inner.FacePieces.{IsFacePiece, HasNoFacePoint}
use Rattle.qm_split.proofs.FacesInCube.{point_of_fewer}
use Rattle.qm_split.proofs.in_cube.keep_behind_all.Goals as goal

pub loop-face-preserved : goal.loop-face-preserved
loop-face-preserved c = λ begins.
    let face = get_or c.args.faces.now c.loop-face.face-index (record { plane = 0; out_is_front = false }) in
    let read = get_or_default c.args.faces.now c.loop-face.face-index (record { plane = 0; out_is_front = false }) face c.loop-face-test.true in
    let done = take c.loop-face.face-index c.args.faces.now in
    subst (λ (fs : List FaceRef). IsFacePiece c.args.book.now c.args.number fs c.cut_behind.new.winding)
    (sym (take-read c.args.faces.now c.loop-face.face-index face c.loop-face-test.true read))
    (MatchBool-at_true (IsFacePiece c.args.book.now c.args.number (done ++ face ∷ []) c.cut_behind.new.winding)
    (HasNoFacePoint c.args.book.now c.args.number (done ++ face ∷ [])) c.if-not-branch.false (c.in_ok-cut_behind.ensures done (c.loop-face.invariant begins)))

pub returns-then-not-branch : goal.returns-then-not-branch
returns-then-not-branch c = λ begins x at.
    let face = get_or c.args.faces.now c.loop-face.face-index (record { plane = 0; out_is_front = false }) in
    let read = get_or_default c.args.faces.now c.loop-face.face-index (record { plane = 0; out_is_front = false }) face c.loop-face-test.true in
    let done = take c.loop-face.face-index c.args.faces.now in
    MatchBool-at_false (IsFacePiece c.args.book.now c.args.number (done ++ face ∷ []) c.cut_behind.new.winding)
    (HasNoFacePoint c.args.book.now c.args.number (done ++ face ∷ [])) c.if-not-branch.true (c.in_ok-cut_behind.ensures done (c.loop-face.invariant begins)) x
    (point_of_fewer c.args.book.now c.args.number c.args.faces.now (done ++ face ∷ []) x
    (λ f listed. Contains-from_take (c.loop-face.face-index + 1) c.args.faces.now f
    (subst (λ (fs : List FaceRef). Contains fs f) (sym (take-read c.args.faces.now c.loop-face.face-index face c.loop-face-test.true read)) listed)) at)

pub returns : goal.returns
returns c = λ begins.
    subst (λ (fs : List FaceRef). IsFacePiece c.args.book.now c.args.number fs c.loop-face.left) (take_all c.loop-face.face-index c.args.faces.now c.loop-face-test.false) (c.loop-face.invariant begins)
