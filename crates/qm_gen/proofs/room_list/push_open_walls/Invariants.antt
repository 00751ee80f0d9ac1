use Rattle.std.proofs.Common.{◌≡◌, ◌++◌}
use Rattle.qm_rooms.specs.Rooms.{open_walls}
use Rattle.qm_gen.proofs.room_list.push_open_walls.Given as goal

abbrev pub invariant-loop-room : goal.invariant-loop-room
invariant-loop-room l = l.boxes.items ≡ l.initial.boxes.items ++ open_walls l.room l.number
