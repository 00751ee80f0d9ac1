use Rattle.std.proofs.Common.{List, [], ◌∷◌, ◌++◌, take, get_or, false, sym, ap, ◌∙◌}
use Rattle.std.proofs.lemmas.List.{map-append, get_or_default, take_all}
use Rattle.qm_space.specs.Plane.{Plane}
use Rattle.qm_solids.specs.Outward.{outward_of, outward_planes}
use Rattle.qm_lists.proofs.Places.{take-read}
use Rattle.qm_split.proofs.in_cube.outward_planes.Goals as goal

pub loop-face-preserved : goal.loop-face-preserved
loop-face-preserved c =
    let face = get_or c.args.faces.now c.loop-face.face-index (record { plane = 0; out_is_front = false }) in
    let read = get_or_default c.args.faces.now c.loop-face.face-index (record { plane = 0; out_is_front = false }) face c.loop-face-test.true in
    c.in_ok-push.ensures.items
    ∙ ap (λ (os : List Plane). os ++ c.outward_of.result ∷ []) c.loop-face.invariant
    ∙ ap (λ (o : Plane). outward_planes c.args.book.now (take c.loop-face.face-index c.args.faces.now) ++ o ∷ []) c.outward_of.ensures
    ∙ sym (map-append (outward_of c.args.book.now) (take c.loop-face.face-index c.args.faces.now) (face ∷ []))
    ∙ ap (outward_planes c.args.book.now) (sym (take-read c.args.faces.now c.loop-face.face-index face c.loop-face-test.true read))

pub returns : goal.returns
returns c = c.loop-face.invariant ∙ ap (outward_planes c.args.book.now) (take_all c.loop-face.face-index c.args.faces.now c.loop-face-test.false)
