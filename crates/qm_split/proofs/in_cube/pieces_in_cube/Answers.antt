use Rattle.std.proofs.Common.{List, [], ◌∷◌, ◌++◌, false, take, get_or, sym, subst}
use Rattle.std.proofs.lemmas.List.{get_or_default, take_all}
use Rattle.qm_solids.specs.declared.face.FaceRef.{FaceRef}
use Rattle.qm_split.specs.declared.piece.Piece.{Piece}
use Rattle.qm_split.specs.inner.FacePieces.{HasFacePieces}
use Rattle.qm_lists.proofs.Places.{take-read}
use Rattle.qm_split.proofs.FacesInCube.{face_pieces_begin, face_pieces_more, pieces_in_cube}
use Rattle.qm_split.proofs.in_cube.pieces_in_cube.Goals as goal

pub loop-face-init : goal.loop-face-init
loop-face-init c = subst (λ (ps : List Piece). HasFacePieces c.args.book.now c.args.faces.now [] ps) (sym c.new-pieces.ensures.items) (face_pieces_begin c.args.book.now c.args.faces.now)

pub loop-face-preserved : goal.loop-face-preserved
loop-face-preserved c =
    let face = get_or c.args.faces.now c.loop-face.face-index (record { plane = 0; out_is_front = false }) in
    subst (λ (fs : List FaceRef). HasFacePieces c.args.book.now c.args.faces.now fs c.push_some.new.pieces.items)
    (sym (take-read c.args.faces.now c.loop-face.face-index face c.loop-face-test.true (get_or_default c.args.faces.now c.loop-face.face-index _ face c.loop-face-test.true)))
    (subst (λ (ps : List Piece). HasFacePieces c.args.book.now c.args.faces.now (take c.loop-face.face-index c.args.faces.now ++ face ∷ []) ps) (sym c.in_ok-push_some.ensures)
    (face_pieces_more c.args.book.now c.args.faces.now (take c.loop-face.face-index c.args.faces.now) face c.loop-face.pieces.items c.loop-face.invariant c.in_ok-winding.winding c.in_ok-numbered.field-0 c.in_ok-winding.ensures c.in_ok-numbered.ensures))

pub returns : goal.returns
returns c = λ contents full.
    pieces_in_cube c.args.book.now c.args.faces.now contents c.len-planes.ensures.planes c.requires.numbered c.loop-face.pieces.items
    (subst (λ (fs : List FaceRef). HasFacePieces c.args.book.now c.args.faces.now fs c.loop-face.pieces.items) (take_all c.loop-face.face-index c.args.faces.now c.loop-face-test.false) c.loop-face.invariant)
