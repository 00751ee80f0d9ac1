use Rattle.std.specs.Prelude.{ℕ, zero, suc, ◌+◌, ◌-◌, ◌*◌, ◌/◌, ◌%◌, ◌^◌, ◌==◌, ◌≤◌, ℤ, pos, neg_ℤ, ◌+ℤ◌, ◌-ℤ◌, List, [], ◌∷◌, ◌++◌, codes, if◌then◌else◌}
use Rattle.std.specs.Prelude.{map as mapped}
use Rattle.qm_mapfile.specs.declared.entity.Entity.{Entity}
use Rattle.qm_mapfile.specs.declared.entity.MapFile.{MapFile}
use Rattle.qm_mapfile.specs.declared.entity.Pair.{Pair}
use Rattle.qm_rooms.specs.Boxes.{StoneBox, box_brush}

-- A map of rooms in a row from west to east, between one floor, one ceiling, one wall to the south, one to the north and one
-- to the west. Each room is 96 units long and has a wall of 16 units to the east, with a doorway into the next room whose
-- place follows from the number; the last room's wall has no doorway.

-- from one room to 64; 64 end at x = 3584, well inside the world
abbrev pub IsRoomCount : ℕ → Type 0
IsRoomCount rooms = (1 ≤ rooms) × (rooms ≤ 64)

-- where the last room's wall ends in the east
abbrev pub east_end : ℕ → ℤ
east_end rooms = pos (112 * rooms) -ℤ pos 3584

-- the floor, the ceiling, and the walls to the south, north and west
unfoldable pub hull_boxes : ℕ → List StoneBox
hull_boxes rooms =
    record { west = neg_ℤ (pos 3600); south = neg_ℤ (pos 80); bottom = neg_ℤ (pos 16); east = east_end rooms; north = pos 80; top = pos 0 }
    ∷ record { west = neg_ℤ (pos 3600); south = neg_ℤ (pos 80); bottom = pos 96; east = east_end rooms; north = pos 80; top = pos 112 }
    ∷ record { west = neg_ℤ (pos 3600); south = neg_ℤ (pos 80); bottom = pos 0; east = east_end rooms; north = neg_ℤ (pos 64); top = pos 96 }
    ∷ record { west = neg_ℤ (pos 3600); south = pos 64; bottom = pos 0; east = east_end rooms; north = pos 80; top = pos 96 }
    ∷ record { west = neg_ℤ (pos 3600); south = neg_ℤ (pos 64); bottom = pos 0; east = neg_ℤ (pos 3584); north = pos 64; top = pos 96 }
    ∷ []

-- where the wall of a room begins in the west; it ends 16 units farther to the east
abbrev pub wall_west : ℕ → ℤ
wall_west room = pos (112 * room) -ℤ pos 3488

-- a part of a room's wall, up to the ceiling
unfoldable pub wall_part : ℕ → (south north bottom : ℤ) → StoneBox
wall_part room south north bottom =
    record { west = wall_west room; south = south; bottom = bottom; east = wall_west room +ℤ pos 16; north = north; top = pos 96 }

-- which of the four places the doorway of a room has: two binary digits of the number, which begin again after 32 rooms
unfoldable pub doorway_place : (number room : ℕ) → ℕ
doorway_place number room = (number / 4 ^ (room % 32)) % 4

-- where the doorway at a place begins in the south; it ends 32 units farther to the north, and 64 above the floor
abbrev pub doorway_south : ℕ → ℤ
doorway_south place = pos (32 * place) -ℤ pos 64

-- a wall with a doorway at a place: what stands to the south of it and to the north, where there is room, and above it
unfoldable pub open_wall : (room place : ℕ) → List StoneBox
open_wall room place =
    let south = doorway_south place in
    let north = doorway_south (place + 1) in
    ((if place == 0 then [] else wall_part room (neg_ℤ (pos 64)) south (pos 0) ∷ [])
    ++ (if place == 3 then [] else wall_part room north (pos 64) (pos 0) ∷ []))
    ++ wall_part room south north (pos 64) ∷ []

-- a wall without a doorway
abbrev pub closed_wall : ℕ → StoneBox
closed_wall room = wall_part room (neg_ℤ (pos 64)) (pos 64) (pos 0)

-- the walls of the first rooms, each with its doorway
abbrev pub open_walls : (rooms number : ℕ) → List StoneBox
open_walls zero number = []
open_walls (suc room) number = open_walls room number ++ open_wall room (doorway_place number room)

unfoldable pub room_boxes : (rooms number : ℕ) → List StoneBox
room_boxes rooms number = (hull_boxes rooms ++ open_walls (rooms - 1) number) ++ closed_wall (rooms - 1) ∷ []

abbrev pub pair_of : List ℕ → List ℕ → Pair
pair_of key value = record { key = key; value = value }

-- the world of these boxes
unfoldable pub boxed_world : List StoneBox → Entity
boxed_world boxes = record { pairs = pair_of (codes "classname") (codes "worldspawn") ∷ []; brushes = mapped box_brush boxes }

-- the start of a player, in the middle of the first room
unfoldable pub player_start : Entity
player_start = record {
  pairs = pair_of (codes "classname") (codes "info_player_start") ∷ pair_of (codes "origin") (codes "-3536 0 24") ∷ [];
  brushes = [];
}

unfoldable pub rooms_map : (rooms number : ℕ) → MapFile
rooms_map rooms number = record { entities = boxed_world (room_boxes rooms number) ∷ player_start ∷ [] }
