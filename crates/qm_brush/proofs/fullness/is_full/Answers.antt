use Rattle.qm_brush.proofs.FacesOfBook.{full_at, flat_at, missing_more, middle_tells}
use Rattle.qm_brush.proofs.fullness.is_full.Goals as goal

pub returns-in-Opposed : goal.returns-in-Opposed
returns-in-Opposed c =
    flat_at c.args.planes.now c.args.faces.now c.requires.book c.requires.numbered c.in_ok-part_of_face.field-0 c.loop-face.face-index _ c.loop-face-test.true
    c.in-Opposed.is c.in_ok-part_of_face.ensures

pub returns-in-Present : goal.returns-in-Present
returns-in-Present c =
    full_at c.args.planes.now c.args.faces.now c.requires.book c.requires.numbered c.in_ok-part_of_face.field-0 c.loop-face.face-index _ c.loop-face-test.true
    c.in-Present.is c.in_ok-part_of_face.ensures

pub loop-face-preserved : goal.loop-face-preserved
loop-face-preserved c =
    missing_more c.args.planes.now c.args.faces.now c.requires.book c.requires.numbered c.in_ok-part_of_face.field-0 c.loop-face.face-index _ c.loop-face-test.true
    c.in-Missing.is c.in_ok-part_of_face.ensures c.loop-face.invariant

pub returns : goal.returns
returns c =
    middle_tells c.args.planes.now c.args.faces.now c.requires.book c.requires.numbered c.loop-face.face-index c.is_inside.result c.loop-face-test.false
    c.loop-face.invariant c.is_inside.ensures
