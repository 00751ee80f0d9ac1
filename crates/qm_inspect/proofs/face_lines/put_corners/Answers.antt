use Rattle.std.proofs.Common.{[], get_or, refl, sym, append-nil, string_bytes}
use Rattle.qm_answers.proofs.SpacedCorners.{all_corners, next_corner}
use Rattle.qm_inspect.proofs.face_lines.put_corners.Goals as goal

pub loop-corner-init : goal.loop-corner-init
loop-corner-init c = sym (append-nil (string_bytes c.args.text.now))

pub loop-corner-preserved : goal.loop-corner-preserved
loop-corner-preserved c =
    next_corner c.args.planes.now c.args.bound (string_bytes c.args.text.now) (string_bytes c.loop-corner.text) (string_bytes c.put_corner.new.text) c.args.corners.now c.loop-corner.corner-index
    (get_or c.args.corners.now c.loop-corner.corner-index []) [] c.loop-corner-test.true refl c.loop-corner.invariant c.in_ok-put_corner.ensures

pub returns : goal.returns
returns c =
    all_corners c.args.planes.now c.args.bound (string_bytes c.args.text.now) (string_bytes c.loop-corner.text) c.args.corners.now c.loop-corner.corner-index c.loop-corner.invariant c.loop-corner-test.false
