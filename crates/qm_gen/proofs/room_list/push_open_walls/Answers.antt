use Rattle.qm_gen.proofs.Walls.{walls_more}
use Rattle.qm_gen.proofs.room_list.push_open_walls.Goals as goal

pub loop-room-preserved : goal.loop-room-preserved
loop-room-preserved c =
    walls_more c.args.number c.loop-room.room _ _ _ _ c.loop-room.invariant c.doorway_place.ensures.place c.in_ok-push_open_wall.ensures
