-- Worked rows: some maps of rooms.
use Rattle.std.proofs.Common.{◌≡◌, ℕ, pos, neg_ℤ, List, [], ◌∷◌, length, refl}
use Rattle.qm_rooms.specs.Rooms.{hull_boxes, wall_part, doorway_place, open_wall, room_boxes}

-- two rooms whose doorway stands at the first place, beside the wall to the south
two_rooms : room_boxes 2 0 ≡
    record { west = neg_ℤ (pos 3600); south = neg_ℤ (pos 80); bottom = neg_ℤ (pos 16); east = neg_ℤ (pos 3360); north = pos 80; top = pos 0 }
    ∷ record { west = neg_ℤ (pos 3600); south = neg_ℤ (pos 80); bottom = pos 96; east = neg_ℤ (pos 3360); north = pos 80; top = pos 112 }
    ∷ record { west = neg_ℤ (pos 3600); south = neg_ℤ (pos 80); bottom = pos 0; east = neg_ℤ (pos 3360); north = neg_ℤ (pos 64); top = pos 96 }
    ∷ record { west = neg_ℤ (pos 3600); south = pos 64; bottom = pos 0; east = neg_ℤ (pos 3360); north = pos 80; top = pos 96 }
    ∷ record { west = neg_ℤ (pos 3600); south = neg_ℤ (pos 64); bottom = pos 0; east = neg_ℤ (pos 3584); north = pos 64; top = pos 96 }
    ∷ record { west = neg_ℤ (pos 3488); south = neg_ℤ (pos 32); bottom = pos 0; east = neg_ℤ (pos 3472); north = pos 64; top = pos 96 }
    ∷ record { west = neg_ℤ (pos 3488); south = neg_ℤ (pos 64); bottom = pos 64; east = neg_ℤ (pos 3472); north = neg_ℤ (pos 32); top = pos 96 }
    ∷ record { west = neg_ℤ (pos 3376); south = neg_ℤ (pos 64); bottom = pos 0; east = neg_ℤ (pos 3360); north = pos 64; top = pos 96 }
    ∷ []
unfolding room_boxes hull_boxes wall_part doorway_place open_wall
two_rooms = refl

-- a doorway with wall on both sides, and one beside the wall to the north
middle_doorway : open_wall 0 1 ≡
    record { west = neg_ℤ (pos 3488); south = neg_ℤ (pos 64); bottom = pos 0; east = neg_ℤ (pos 3472); north = neg_ℤ (pos 32); top = pos 96 }
    ∷ record { west = neg_ℤ (pos 3488); south = pos 0; bottom = pos 0; east = neg_ℤ (pos 3472); north = pos 64; top = pos 96 }
    ∷ record { west = neg_ℤ (pos 3488); south = neg_ℤ (pos 32); bottom = pos 64; east = neg_ℤ (pos 3472); north = pos 0; top = pos 96 }
    ∷ []
unfolding wall_part open_wall
middle_doorway = refl

northern_doorway : open_wall 0 3 ≡
    record { west = neg_ℤ (pos 3488); south = neg_ℤ (pos 64); bottom = pos 0; east = neg_ℤ (pos 3472); north = pos 32; top = pos 96 }
    ∷ record { west = neg_ℤ (pos 3488); south = pos 32; bottom = pos 64; east = neg_ℤ (pos 3472); north = pos 64; top = pos 96 }
    ∷ []
unfolding wall_part open_wall
northern_doorway = refl

-- the number 7 has the digits 3 and 1; they begin again after 32 rooms
places : List ℕ
places = doorway_place 7 0 ∷ doorway_place 7 1 ∷ doorway_place 7 2 ∷ doorway_place 7 32 ∷ doorway_place 7 33 ∷ []

places_row : places ≡ 3 ∷ 1 ∷ 0 ∷ 3 ∷ 1 ∷ []
unfolding places doorway_place
places_row = refl

-- six boxes make one room, and 21 make eight rooms with two of their doorways elsewhere
counts : List ℕ
counts = length (room_boxes 1 0) ∷ length (room_boxes 8 7) ∷ []

counts_row : counts ≡ 6 ∷ 21 ∷ []
unfolding counts room_boxes hull_boxes wall_part doorway_place open_wall
counts_row = refl
