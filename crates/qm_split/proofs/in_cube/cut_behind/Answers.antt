use Rattle.std.proofs.Common.{Bool, List, not, ap, sym, ◌∙◌, ◌++◌, ◌∷◌, []}
use Rattle.std.specs.Bool.{MatchBool}
use Rattle.std.proofs.lemmas.Result.{IfOk-weaker}
use Rattle.qm_space.specs.Turned.{turned}
use Rattle.qm_space.specs.Plane.{Plane}
use Rattle.qm_space.proofs.Books.{plane_at_from}
use Rattle.qm_wind.specs.Clipped.{is_front, IsCutDown}
use Rattle.qm_solids.specs.declared.face.FaceRef.{FaceRef}
use Rattle.qm_split.specs.inner.FacePieces.{IsFacePiece, HasNoFacePoint}
use Rattle.qm_split.proofs.FacesInCube.{face_same, face_cut}
use Rattle.qm_split.proofs.in_cube.cut_behind.Goals as goal

pub returns-then-face-number : goal.returns-then-face-number
returns-then-face-number c = λ done is. face_same c.args.book.now c.args.number done c.args.face.now c.args.winding.now is c.if-face-number.true

pub returns : goal.returns
returns c =
    let inner = turned (is_front c.inner_side.result) c.plane.result in
    let old = c.args.winding.now in
    let new = c.cut.new.self in
    IfOk-weaker c.cut.result (λ left. IsCutDown left new old inner)
    (λ left. (done : List FaceRef) → IsFacePiece c.args.book.now c.args.number done old → MatchBool left (IsFacePiece c.args.book.now c.args.number (done ++ c.args.face.now ∷ []) new) (HasNoFacePoint c.args.book.now c.args.number (done ++ c.args.face.now ∷ [])))
    (λ left kept done is. face_cut c.args.book.now c.args.number done c.args.face.now old is c.if-face-number.false inner
    (ap (λ (side : Bool). turned side c.plane.result) c.inner_side.ensures
    ∙ ap (λ (h : Plane). turned (not c.args.face.now.out_is_front) h) (sym (plane_at_from c.args.book.now c.args.face.now.plane c.plane.result c.plane.ensures.value)))
    left new kept)
    c.cut.ensures.ok
