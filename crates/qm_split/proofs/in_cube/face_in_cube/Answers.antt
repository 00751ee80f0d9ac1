use Rattle.std.proofs.Common.{Option, [], sym, subst}
use Rattle.std.specs.Option.{MatchOption}
use Rattle.std.proofs.lemmas.Result.{IfOk-weaker}
use Rattle.qm_space.specs.Plane.{Plane}
use Rattle.qm_space.proofs.Books.{plane_at_from}
use Rattle.qm_convex.specs.Winding.{Winding}
use Rattle.qm_convex.specs.World.{MissesCube, IsWorldPart}
use Rattle.qm_split.specs.inner.FacePieces.{IsFacePiece, HasNoFacePoint}
use Rattle.qm_split.proofs.FacesInCube.{face_begins, no_face_point_outside}
use Rattle.qm_split.proofs.in_cube.face_in_cube.Goals as goal

pub returns-in-Some : goal.returns-in-Some
returns-in-Some c =
    IfOk-weaker c.keep_behind_all.result (λ part. IsFacePiece c.args.book.now c.args.number [] c.in-Some.whole → MatchOption part (HasNoFacePoint c.args.book.now c.args.number c.args.faces.now) (IsFacePiece c.args.book.now c.args.number c.args.faces.now))
    (λ part. MatchOption part (HasNoFacePoint c.args.book.now c.args.number c.args.faces.now) (IsFacePiece c.args.book.now c.args.number c.args.faces.now))
    (λ part kept. kept (face_begins c.args.book.now c.args.number c.in-Some.whole
    (subst (λ (h : Plane). IsWorldPart c.in-Some.whole h) (sym (plane_at_from c.args.book.now c.args.number c.plane.result c.plane.ensures.value))
    (subst (λ (o : Option Winding). MatchOption o (MissesCube c.plane.result) (λ w. IsWorldPart w c.plane.result)) c.in-Some.is c.in_ok-whole.ensures))))
    c.keep_behind_all.ensures

pub returns-in-None : goal.returns-in-None
returns-in-None c =
    no_face_point_outside c.args.book.now c.args.number c.args.faces.now
    (subst MissesCube (sym (plane_at_from c.args.book.now c.args.number c.plane.result c.plane.ensures.value))
    (subst (λ (o : Option Winding). MatchOption o (MissesCube c.plane.result) (λ w. IsWorldPart w c.plane.result)) c.in-None.is c.in_ok-whole.ensures))
