-- A map of rooms is valid.
use Rattle.std.specs.Prelude.{map as mapped}
use Rattle.std.proofs.Common.{◌≡◌, ℕ, zero, suc, ◌+◌, ◌-◌, ◌*◌, ◌<◌, ◌≤◌, ◌==◌, Bool, true, false, ◌&&◌, not, inr, ⊎_elim, None, ℤ, pos, neg_ℤ, ◌*ℤ◌, List, [], ◌∷◌, ◌++◌, All, codes, length, sum_by, if◌then◌else◌, refl, sym, ap, ◌∙◌, length-append, arith}
use Rattle.std.proofs.lemmas.Bool.{and_parts, eq-eqb}
use Rattle.std.proofs.lemmas.Int.{ints}
use Rattle.std.proofs.lemmas.List.Elements.{All-nil, All-cons, All-append, All-map, All-weaker, All-from_recursion}
use Rattle.std.proofs.lemmas.List.Sums.{sum_by-cons}
use Rattle.qm_lists.proofs.Elements.{Contains-nil, Contains-cons_cases}
use Rattle.qm_space.specs.Point.{IsCoordinate, IsThousandths, AreThousandths}
use Rattle.qm_mapfile.specs.declared.entity.Brush.{Brush}
use Rattle.qm_mapfile.specs.Face.{GivePlane}
use Rattle.qm_grammar.specs.Symbol.{mark_of_byte}
use Rattle.qm_grammar.specs.Origin.{origin_key, HasGoodOrigin}
use Rattle.qm_grammar.specs.Valid.{HasNoQuote, IsNameText, IsValidFace, IsValidBrush, IsValidPair, IsValidEntity, face_count, IsValidMap}
use Rattle.qm_grammar.proofs.OriginTexts.{origin_spelled}
use Rattle.qm_rooms.specs.Boxes.{StoneBox, triple, unit, points_west, points_east, points_south, points_north, points_bottom, points_top, face_points, plain_mapping, stone_face, box_brush}
use Rattle.qm_rooms.specs.Rooms.{east_end, hull_boxes, wall_part, doorway_place, doorway_south, open_wall, closed_wall, open_walls, room_boxes, pair_of, boxed_world, player_start, rooms_map}
use Rattle.qm_sealed_rooms.proofs.BoxPlanes.{side_gives, west_side, east_side, south_side, north_side, bottom_side, top_side}
use Rattle.qm_sealed_rooms.proofs.RoomOrigins.{start_point, start_read}

-- ---- texts

abbrev lacks_quote : List ℕ → Bool
lacks_quote [] = true
lacks_quote (byte ∷ bytes) = not (byte == 34) && lacks_quote bytes

no_quote : (bytes : List ℕ) → lacks_quote bytes ≡ true → HasNoQuote bytes
no_quote [] lacks has = Contains-nil 34 has
no_quote (byte ∷ bytes) lacks has =
    let both = and_parts (not (byte == 34)) (lacks_quote bytes) lacks in
    ⊎_elim
    (λ same. absurd (let e = eq-eqb byte 34 same in let never : false ≡ true = ap not (sym e) ∙ both.0 in cc))
    (λ later. no_quote bytes both.1 later)
    (Contains-cons_cases byte 34 bytes has)

digit_name : (digit : ℕ) → 47 < digit → digit < 58 → mark_of_byte digit ≡ None → IsNameText (digit ∷ [])
digit_name digit low high no_mark = record {
  opens = λ e. absurd (omega (arith, e));
  no_blank = All-cons (λ byte. 32 < byte) digit [] (omega arith) (All-nil (λ byte. 32 < byte));
  no_mark = no_mark;
}

-- ---- faces

of_three : {X : Type 0} (P : X → Type 0) (a b c : X) → P a → P b → P c → All P (a ∷ b ∷ c ∷ [])
of_three P a b c is_a is_b is_c = All-cons P a (b ∷ c ∷ []) is_a (All-cons P b (c ∷ []) is_b (All-cons P c [] is_c (All-nil P)))

coordinates : (x y z : ℤ) → IsThousandths x → IsThousandths y → IsThousandths z → AreThousandths (triple x y z)
coordinates x y z is_x is_y is_z = of_three IsThousandths x y z is_x is_y is_z

valid_mapping_words : All IsNameText (codes "0" ∷ codes "0" ∷ codes "0" ∷ codes "1" ∷ codes "1" ∷ [])
unfolding mark_of_byte
valid_mapping_words =
    let nought = digit_name 48 (omega arith) (omega arith) refl in
    let unit = digit_name 49 (omega arith) (omega arith) refl in
    All-from_recursion IsNameText (codes "0" ∷ codes "0" ∷ codes "0" ∷ codes "1" ∷ codes "1" ∷ []) (nought, (nought, (nought, (unit, (unit, tt)))))

valid_face : (a b c : List ℤ) → length a ≡ 3 → length b ≡ 3 → length c ≡ 3 → AreThousandths a → AreThousandths b → AreThousandths c → GivePlane (triple a b c) → IsValidFace (stone_face (triple a b c))
unfolding stone_face plain_mapping
valid_face a b c three_a three_b three_c in_a in_b in_c plane = record {
  three = refl;
  triples = of_three (λ (point : List ℤ). length point ≡ 3) a b c three_a three_b three_c;
  coordinates = of_three AreThousandths a b c in_a in_b in_c;
  plane = plane;
  texture = inr (no_quote (codes "stone") refl);
  count_of_words = refl;
  words = valid_mapping_words;
}

-- all its coordinates lie in the closed cube
record HasCoordinates (box : StoneBox) : Type 0 where
  west : IsCoordinate box.west
  east : IsCoordinate box.east
  south : IsCoordinate box.south
  north : IsCoordinate box.north
  bottom : IsCoordinate box.bottom
  top : IsCoordinate box.top

nought_in : IsCoordinate (pos 0)
nought_in = record { low = omega (arith, ints); high = omega (arith, ints) }

no_thousandths : IsThousandths (pos 0)
no_thousandths = record { low = omega (arith, ints); high = omega (arith, ints) }

unit_in : IsThousandths unit
unit_in = record { low = omega (arith, ints); high = omega (arith, ints) }

-- a coordinate of the closed cube in thousandths
times_unit : (c : ℤ) → IsCoordinate c → IsThousandths (unit *ℤ c)
times_unit c is = let low = is.low in let high = is.high in record { low = omega (arith, ints); high = omega (arith, ints) }

-- a side of a box by its three points
module _ (c : ℤ) (is : IsCoordinate c) where
  its : IsThousandths (unit *ℤ c)
  its = times_unit c is

  west_face : IsValidFace (stone_face (points_west c))
  west_face = valid_face (triple (unit *ℤ c) (pos 0) (pos 0)) (triple (unit *ℤ c) unit (pos 0)) (triple (unit *ℤ c) (pos 0) unit) refl refl refl
      (coordinates (unit *ℤ c) (pos 0) (pos 0) its no_thousandths no_thousandths) (coordinates (unit *ℤ c) unit (pos 0) its unit_in no_thousandths) (coordinates (unit *ℤ c) (pos 0) unit its no_thousandths unit_in) (side_gives _ _ _ (west_side c))

  east_face : IsValidFace (stone_face (points_east c))
  east_face = valid_face (triple (unit *ℤ c) (pos 0) (pos 0)) (triple (unit *ℤ c) (pos 0) unit) (triple (unit *ℤ c) unit (pos 0)) refl refl refl
      (coordinates (unit *ℤ c) (pos 0) (pos 0) its no_thousandths no_thousandths) (coordinates (unit *ℤ c) (pos 0) unit its no_thousandths unit_in) (coordinates (unit *ℤ c) unit (pos 0) its unit_in no_thousandths) (side_gives _ _ _ (east_side c))

  south_face : IsValidFace (stone_face (points_south c))
  south_face = valid_face (triple (pos 0) (unit *ℤ c) (pos 0)) (triple (pos 0) (unit *ℤ c) unit) (triple unit (unit *ℤ c) (pos 0)) refl refl refl
      (coordinates (pos 0) (unit *ℤ c) (pos 0) no_thousandths its no_thousandths) (coordinates (pos 0) (unit *ℤ c) unit no_thousandths its unit_in) (coordinates unit (unit *ℤ c) (pos 0) unit_in its no_thousandths) (side_gives _ _ _ (south_side c))

  north_face : IsValidFace (stone_face (points_north c))
  north_face = valid_face (triple (pos 0) (unit *ℤ c) (pos 0)) (triple unit (unit *ℤ c) (pos 0)) (triple (pos 0) (unit *ℤ c) unit) refl refl refl
      (coordinates (pos 0) (unit *ℤ c) (pos 0) no_thousandths its no_thousandths) (coordinates unit (unit *ℤ c) (pos 0) unit_in its no_thousandths) (coordinates (pos 0) (unit *ℤ c) unit no_thousandths its unit_in) (side_gives _ _ _ (north_side c))

  bottom_face : IsValidFace (stone_face (points_bottom c))
  bottom_face = valid_face (triple (pos 0) (pos 0) (unit *ℤ c)) (triple unit (pos 0) (unit *ℤ c)) (triple (pos 0) unit (unit *ℤ c)) refl refl refl
      (coordinates (pos 0) (pos 0) (unit *ℤ c) no_thousandths no_thousandths its) (coordinates unit (pos 0) (unit *ℤ c) unit_in no_thousandths its) (coordinates (pos 0) unit (unit *ℤ c) no_thousandths unit_in its) (side_gives _ _ _ (bottom_side c))

  top_face : IsValidFace (stone_face (points_top c))
  top_face = valid_face (triple (pos 0) (pos 0) (unit *ℤ c)) (triple (pos 0) unit (unit *ℤ c)) (triple unit (pos 0) (unit *ℤ c)) refl refl refl
      (coordinates (pos 0) (pos 0) (unit *ℤ c) no_thousandths no_thousandths its) (coordinates (pos 0) unit (unit *ℤ c) no_thousandths unit_in its) (coordinates unit (pos 0) (unit *ℤ c) unit_in no_thousandths its) (side_gives _ _ _ (top_side c))

valid_brush : (box : StoneBox) → HasCoordinates box → IsValidBrush (box_brush box)
unfolding box_brush face_points
valid_brush box is = record {
  some = λ none. absurd cc;
  faces = All-from_recursion IsValidFace (mapped stone_face (face_points box))
      (west_face box.west is.west, (east_face box.east is.east, (south_face box.south is.south, (north_face box.north is.north, (bottom_face box.bottom is.bottom, (top_face box.top is.top, tt))))));
}

-- ---- boxes

module _ (rooms : ℕ) (some : 1 ≤ rooms) (few : rooms ≤ 64) where
  hull_in : All HasCoordinates (hull_boxes rooms)
  unfolding hull_boxes
  hull_in =
      let number : (n : ℕ) → n ≤ 4096 → IsCoordinate (pos n) = λ n small. record { low = omega (arith, ints); high = omega (arith, ints) } in
      let below : (n : ℕ) → n ≤ 4096 → IsCoordinate (neg_ℤ (pos n)) = λ n small. record { low = omega (arith, ints); high = omega (arith, ints) } in
      let end : IsCoordinate (east_end rooms) = record { low = omega (arith, ints); high = omega (arith, ints) } in
      let west = below 3600 (omega arith) in
      let south = below 80 (omega arith) in
      let north = number 80 (omega arith) in
      let floor = number 0 (omega arith) in
      let ceiling = number 96 (omega arith) in
      All-from_recursion HasCoordinates (hull_boxes rooms) (
        record { west = west; east = end; south = south; north = north; bottom = below 16 (omega arith); top = floor },
        (
          record { west = west; east = end; south = south; north = north; bottom = ceiling; top = number 112 (omega arith) },
          (
            record { west = west; east = end; south = south; north = below 64 (omega arith); bottom = floor; top = ceiling },
            (
              record { west = west; east = end; south = number 64 (omega arith); north = north; bottom = floor; top = ceiling },
              (
                record { west = west; east = below 3584 (omega arith); south = below 64 (omega arith); north = number 64 (omega arith); bottom = floor; top = ceiling },
                tt,
              ),
            ),
          ),
        ),
      )

wall_in : (room : ℕ) (south north bottom : ℤ) → room < 64 → IsCoordinate south → IsCoordinate north → IsCoordinate bottom → HasCoordinates (wall_part room south north bottom)
unfolding wall_part
wall_in room south north bottom few is_south is_north is_bottom = record {
  west = record { low = omega (arith, ints); high = omega (arith, ints) };
  east = record { low = omega (arith, ints); high = omega (arith, ints) };
  south = is_south;
  north = is_north;
  bottom = is_bottom;
  top = record { low = omega (arith, ints); high = omega (arith, ints) };
}

unless : (P : StoneBox → Type 0) (absent : Bool) (box : StoneBox) → P box → All P (if absent then [] else box ∷ [])
unless P true box is = All-nil P
unless P false box is = All-cons P box [] is (All-nil P)

unless_count : (absent : Bool) (box : StoneBox) → length (if absent then [] else box ∷ []) ≤ 1
unless_count true box = omega arith
unless_count false box = omega arith

doorway_in : (place : ℕ) → place ≤ 4 → IsCoordinate (doorway_south place)
doorway_in place few = record { low = omega (arith, ints); high = omega (arith, ints) }

place_below : (number room : ℕ) → doorway_place number room < 4
unfolding doorway_place
place_below number room = omega arith

open_wall_in : (room place : ℕ) → room < 64 → place < 4 → All HasCoordinates (open_wall room place)
unfolding open_wall
open_wall_in room place few one_of_four =
    let south = doorway_south place in
    let north = doorway_south (place + 1) in
    let is_south = doorway_in place (omega arith) in
    let is_north = doorway_in (place + 1) (omega arith) in
    let to_south = wall_part room (neg_ℤ (pos 64)) south (pos 0) in
    let to_north = wall_part room north (pos 64) (pos 0) in
    let over = wall_part room south north (pos 64) in
    let wide : IsCoordinate (pos 64) = record { low = omega (arith, ints); high = omega (arith, ints) } in
    let narrow : IsCoordinate (neg_ℤ (pos 64)) = record { low = omega (arith, ints); high = omega (arith, ints) } in
    All-append HasCoordinates ((if place == 0 then [] else to_south ∷ []) ++ (if place == 3 then [] else to_north ∷ [])) (over ∷ [])
    (All-append HasCoordinates (if place == 0 then [] else to_south ∷ []) (if place == 3 then [] else to_north ∷ [])
    (unless HasCoordinates (place == 0) to_south (wall_in room (neg_ℤ (pos 64)) south (pos 0) few narrow is_south nought_in))
    (unless HasCoordinates (place == 3) to_north (wall_in room north (pos 64) (pos 0) few is_north wide nought_in)))
    (All-cons HasCoordinates over [] (wall_in room south north (pos 64) few is_south is_north wide) (All-nil HasCoordinates))

open_wall_count : (room place : ℕ) → length (open_wall room place) ≤ 3
unfolding open_wall
open_wall_count room place =
    let south = doorway_south place in
    let north = doorway_south (place + 1) in
    let to_south = wall_part room (neg_ℤ (pos 64)) south (pos 0) in
    let to_north = wall_part room north (pos 64) (pos 0) in
    let over = wall_part room south north (pos 64) in
    let first = (if place == 0 then [] else to_south ∷ []) in
    let second = (if place == 3 then [] else to_north ∷ []) in
    omega (arith, length-append (first ++ second) (over ∷ []), length-append first second, unless_count (place == 0) to_south, unless_count (place == 3) to_north)

open_walls_in : (rooms number : ℕ) → rooms ≤ 64 → All HasCoordinates (open_walls rooms number)
open_walls_in zero number few = All-nil HasCoordinates
open_walls_in (suc room) number few =
    All-append HasCoordinates (open_walls room number) (open_wall room (doorway_place number room))
    (open_walls_in room number (omega arith))
    (open_wall_in room (doorway_place number room) (omega arith) (place_below number room))

open_walls_count : (rooms number : ℕ) → length (open_walls rooms number) ≤ 3 * rooms
open_walls_count zero number = omega arith
open_walls_count (suc room) number =
    let before = open_walls_count room number in
    let here = open_wall_count room (doorway_place number room) in
    omega (arith, length-append (open_walls room number) (open_wall room (doorway_place number room)))

module _ (rooms number : ℕ) (some : 1 ≤ rooms) (few : rooms ≤ 64) where
  boxes_in : All HasCoordinates (room_boxes rooms number)
  unfolding room_boxes
  boxes_in =
      let wide : IsCoordinate (pos 64) = record { low = omega (arith, ints); high = omega (arith, ints) } in
      let narrow : IsCoordinate (neg_ℤ (pos 64)) = record { low = omega (arith, ints); high = omega (arith, ints) } in
      All-append HasCoordinates (hull_boxes rooms ++ open_walls (rooms - 1) number) (closed_wall (rooms - 1) ∷ [])
      (All-append HasCoordinates (hull_boxes rooms) (open_walls (rooms - 1) number) (hull_in rooms some few) (open_walls_in (rooms - 1) number (omega arith)))
      (All-cons HasCoordinates (closed_wall (rooms - 1)) [] (wall_in (rooms - 1) (neg_ℤ (pos 64)) (pos 64) (pos 0) (omega arith) narrow wide nought_in) (All-nil HasCoordinates))

  boxes_count : length (room_boxes rooms number) ≤ 200
  unfolding room_boxes hull_boxes
  boxes_count =
      let walls = open_walls_count (rooms - 1) number in
      omega (arith, length-append (hull_boxes rooms ++ open_walls (rooms - 1) number) (closed_wall (rooms - 1) ∷ []), length-append (hull_boxes rooms) (open_walls (rooms - 1) number))

-- ---- the map

faces_counted : (boxes : List StoneBox) → sum_by (λ (brush : Brush). length brush.faces) (mapped box_brush boxes) ≡ 6 * length boxes
unfolding box_brush face_points
faces_counted [] = refl
faces_counted (box ∷ boxes) =
    let rest = faces_counted boxes in
    omega (arith, sum_by-cons (λ (brush : Brush). length brush.faces) (box_brush box) (mapped box_brush boxes))

start_good : HasGoodOrigin player_start.pairs
unfolding player_start origin_key
start_good = (start_point, origin_spelled (codes "-3536 0 24") start_point start_read)

pub rooms_valid : (rooms number : ℕ) → 1 ≤ rooms → rooms ≤ 64 → IsValidMap (rooms_map rooms number)
unfolding IsValidMap rooms_map boxed_world player_start
rooms_valid rooms number some few =
    let boxes = room_boxes rooms number in
    let world = boxed_world boxes in
    let count = boxes_count rooms number some few in
    let faces = faces_counted boxes in
    let total = sum_by-cons face_count world (player_start ∷ []) in
    let last = sum_by-cons face_count player_start [] in
    let valid_pair : (key value : List ℕ) → lacks_quote key ≡ true → lacks_quote value ≡ true → IsValidPair (pair_of key value) =
    λ key value no_key no_value. record { key = no_quote key no_key; value = no_quote value no_value } in (
      λ none. absurd cc,
      All-from_recursion IsValidEntity (world ∷ player_start ∷ []) (
        record {
          pairs = All-from_recursion IsValidPair world.pairs (valid_pair (codes "classname") (codes "worldspawn") refl refl, tt);
          brushes = All-map IsValidBrush box_brush boxes (All-weaker HasCoordinates (λ box. IsValidBrush (box_brush box)) valid_brush boxes (boxes_in rooms number some few));
        },
        (
          record {
            pairs = All-from_recursion IsValidPair player_start.pairs (valid_pair (codes "classname") (codes "info_player_start") refl refl, (valid_pair (codes "origin") (codes "-3536 0 24") refl refl, tt));
            brushes = All-nil IsValidBrush;
          },
          tt,
        ),
      ),
      All-cons (λ entity. HasGoodOrigin entity.pairs) player_start [] start_good (All-nil (λ entity. HasGoodOrigin entity.pairs)),
      omega arith,
    )
