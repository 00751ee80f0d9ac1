use Rattle.std.proofs.Common.{rules, FitsSigned, w16}
use Rattle.std.proofs.lemmas.Int.{to_z-of_z}
use Rattle.qm_gen.proofs.Walls.{wall_added}
use Rattle.qm_gen.proofs.room_list.push_open_wall.Goals as goal

pub returns : goal.returns
returns c =
    let s : FitsSigned w16 c.doorway_south-south.result = search rules in
    let n : FitsSigned w16 c.doorway_south-north.result = search rules in
    let first = simp to_z-of_z at c.wall_part.ensures in
    let second = simp to_z-of_z at c.wall_part-2.ensures in
    let third = simp to_z-of_z at c.wall_part-3.ensures in
    wall_added _ _ _ _ c.args.room c.args.place _ _ _ _ _
    c.doorway_south-south.ensures c.doorway_south-north.ensures first second third
    c.in_ok-push_unless.ensures c.in_ok-push_unless-2.ensures c.in_ok-push.ensures.items
