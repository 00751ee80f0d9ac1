use Rattle.std.proofs.Common.{◌≡◌, map, take}
use Rattle.qm_rooms.specs.Boxes.{stone_face}
use Rattle.qm_gen.proofs.stone.box_brush.Given as goal

abbrev pub invariant-loop-points : goal.invariant-loop-points
invariant-loop-points l = l.faces.items ≡ map stone_face (take l.points-index l.points-items)
