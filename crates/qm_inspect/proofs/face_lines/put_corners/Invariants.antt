use Rattle.std.proofs.Common.{◌≡◌, ◌++◌, take, string_bytes}
use Rattle.qm_answers.specs.CornerText.{spaced_corners}
use Rattle.qm_inspect.proofs.face_lines.put_corners.Given as goal

-- the first corners are there
abbrev pub invariant-loop-corner : goal.invariant-loop-corner
invariant-loop-corner l = string_bytes l.text ≡ string_bytes l.fn.text ++ spaced_corners l.planes l.bound (take l.corner-index l.corners)
