use Rattle.std.proofs.Common.{◌≡◌, map, take}
use Rattle.qm_rooms.specs.Boxes.{box_brush}
use Rattle.qm_gen.proofs.stone.box_brushes.Given as goal

abbrev pub invariant-loop-stone : goal.invariant-loop-stone
invariant-loop-stone l = l.brushes.items ≡ map box_brush (take l.stone-index l.boxes)
