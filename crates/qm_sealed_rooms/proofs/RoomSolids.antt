-- The solids of a map of rooms: one for each of its boxes.
use Rattle.std.specs.Prelude.{map as mapped}
use Rattle.std.proofs.Common.{◌≡◌, ℕ, ◌-◌, List, [], ◌∷◌, ◌++◌, Contains, refl, sym, subst}
use Rattle.std.proofs.lemmas.List.Elements.{Contains-append_left, Contains-push}
use Rattle.qm_lists.proofs.Elements.{Contains-map}
use Rattle.qm_space.specs.Point.{Point}
use Rattle.qm_solids.specs.Solid.{Solid}
use Rattle.qm_drawn.specs.Solids.{drawn_solids}
use Rattle.qm_rooms.specs.Boxes.{StoneBox}
use Rattle.qm_rooms.specs.Rooms.{hull_boxes, open_walls, closed_wall, room_boxes, boxed_world, rooms_map}
use Rattle.qm_sealed_rooms.proofs.Shells.{IsInStone}
use Rattle.qm_sealed_rooms.proofs.BoxSolids.{IsWithin, IsProperBox, box_solid, solids_of_boxes, box_holds}

pub solids_of_rooms : (rooms number : ℕ) → drawn_solids (rooms_map rooms number) ≡ mapped box_solid (room_boxes rooms number)
unfolding rooms_map boxed_world
solids_of_rooms rooms number = solids_of_boxes (room_boxes rooms number)

-- a point of one of the boxes is in stone
pub in_box : (rooms number : ℕ) (box : StoneBox) (p : Point) → Contains (room_boxes rooms number) box → IsProperBox box → IsWithin box p → IsInStone (drawn_solids (rooms_map rooms number)) p
in_box rooms number box p listed proper within = record {
  solid = box_solid box;
  listed = subst (λ (solids : List Solid). Contains solids (box_solid box)) (sym (solids_of_rooms rooms number)) (Contains-map box_solid (room_boxes rooms number) box listed);
  of_stone = refl;
  holds = box_holds box p proper within;
}

-- ---- the boxes of each map of rooms

pub hull_listed : (rooms number : ℕ) (box : StoneBox) → Contains (hull_boxes rooms) box → Contains (room_boxes rooms number) box
unfolding room_boxes
hull_listed rooms number box listed =
    let walls = open_walls (rooms - 1) number in
    Contains-append_left (hull_boxes rooms ++ walls) (closed_wall (rooms - 1) ∷ []) box (Contains-append_left (hull_boxes rooms) walls box listed)

pub last_listed : (rooms number : ℕ) → Contains (room_boxes rooms number) (closed_wall (rooms - 1))
unfolding room_boxes
last_listed rooms number = Contains-push (hull_boxes rooms ++ open_walls (rooms - 1) number) (closed_wall (rooms - 1))
