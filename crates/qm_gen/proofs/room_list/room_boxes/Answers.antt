use Rattle.std.proofs.Common.{◌∙◌}
use Rattle.qm_gen.proofs.Walls.{walls_all}
use Rattle.qm_gen.proofs.room_list.room_boxes.Goals as goal

pub returns : goal.returns
returns c =
    walls_all c.args.rooms c.args.number _ _ _ _ (c.in_ok-boxes.ensures.items ∙ c.hull_boxes.ensures) c.in_ok-push_open_walls.ensures c.wall_part.ensures c.in_ok-push.ensures.items
