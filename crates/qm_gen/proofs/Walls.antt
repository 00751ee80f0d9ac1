-- Walls that are added one after another are the walls of the rooms.
use Rattle.std.proofs.Common.{◌≡◌, ◌<◌, ◌≤◌, ℕ, ◌+◌, ◌-◌, ◌^◌, ◌==◌, ℤ, pos, neg_ℤ, List, [], ◌∷◌, ◌++◌, if◌then◌else◌, sym, ap, ◌∙◌, lit<, arith, add-one}
use Rattle.std.proofs.lemmas.List.{append_assoc}
use Rattle.std.proofs.Math.Nat.{pow-le-pow_right}
use Rattle.qm_rooms.specs.Boxes.{StoneBox}
use Rattle.qm_rooms.specs.Rooms.{hull_boxes, wall_part, doorway_place, doorway_south, open_wall, closed_wall, open_walls, room_boxes}

-- the powers of 4 that part the digits of a number
pub digit_weight : (k : ℕ) → k < 32 → 4 ^ k < 2 ^ 64
digit_weight k small =
    let most : 4 ^ k ≤ 4 ^ 31 = pow-le-pow_right {n = 4} (omega arith) {i = k} {j = 31} (omega arith) in
    let last : 4 ^ 31 < 2 ^ 64 = lit< tt in
    omega (arith, most, last)

-- a wall, of the parts that were added to the boxes
pub wall_added : (old one two three : List StoneBox) (room place : ℕ) (south north : ℤ) (to_south to_north over : StoneBox) →
    south ≡ doorway_south place → north ≡ doorway_south (place + 1) →
    to_south ≡ wall_part room (neg_ℤ (pos 64)) south (pos 0) → to_north ≡ wall_part room north (pos 64) (pos 0) → over ≡ wall_part room south north (pos 64) →
    one ≡ old ++ (if place == 0 then [] else to_south ∷ []) → two ≡ one ++ (if place == 3 then [] else to_north ∷ []) → three ≡ two ++ over ∷ [] →
    three ≡ old ++ open_wall room place
unfolding open_wall
wall_added old one two three room place south north to_south to_north over at_south at_north is_south is_north is_over first second third =
    let begins = doorway_south place in
    let ends = doorway_south (place + 1) in
    let a = wall_part room (neg_ℤ (pos 64)) begins (pos 0) in
    let b = wall_part room ends (pos 64) (pos 0) in
    let c = wall_part room begins ends (pos 64) in
    let as_south = (if place == 0 then [] else a ∷ []) in
    let as_north = (if place == 3 then [] else b ∷ []) in
    let is_a : to_south ≡ a = is_south ∙ ap (λ (s : ℤ). wall_part room (neg_ℤ (pos 64)) s (pos 0)) at_south in
    let is_b : to_north ≡ b = is_north ∙ ap (λ (n : ℤ). wall_part room n (pos 64) (pos 0)) at_north in
    let is_c : over ≡ c = is_over ∙ ap (λ (s : ℤ). wall_part room s north (pos 64)) at_south ∙ ap (λ (n : ℤ). wall_part room begins n (pos 64)) at_north in
    third
    ∙ ap (λ (boxes : List StoneBox). boxes ++ over ∷ []) (second ∙ ap (λ (boxes : List StoneBox). boxes ++ (if place == 3 then [] else to_north ∷ [])) first)
    ∙ ap (λ (s : StoneBox). ((old ++ (if place == 0 then [] else s ∷ [])) ++ (if place == 3 then [] else to_north ∷ [])) ++ over ∷ []) is_a
    ∙ ap (λ (n : StoneBox). ((old ++ as_south) ++ (if place == 3 then [] else n ∷ [])) ++ over ∷ []) is_b
    ∙ ap (λ (o : StoneBox). ((old ++ as_south) ++ as_north) ++ o ∷ []) is_c
    ∙ ap (λ (boxes : List StoneBox). boxes ++ c ∷ []) (append_assoc old as_south as_north)
    ∙ append_assoc old (as_south ++ as_north) (c ∷ [])

-- one room more
pub walls_more : (number room place : ℕ) (old now new : List StoneBox) → now ≡ old ++ open_walls room number → place ≡ doorway_place number room → new ≡ now ++ open_wall room place → new ≡ old ++ open_walls (room + 1) number
walls_more number room place old now new before at after =
    after
    ∙ ap (λ (boxes : List StoneBox). boxes ++ open_wall room place) before
    ∙ ap (λ (p : ℕ). (old ++ open_walls room number) ++ open_wall room p) at
    ∙ append_assoc old (open_walls room number) (open_wall room (doorway_place number room))
    ∙ ap (λ (n : ℕ). old ++ open_walls n number) (sym (add-one room))

-- the walls of all rooms but the last, and that one
pub walls_all : (rooms number : ℕ) (hull walls all : List StoneBox) (wall : StoneBox) → hull ≡ hull_boxes rooms → walls ≡ hull ++ open_walls (rooms - 1) number → wall ≡ closed_wall (rooms - 1) → all ≡ walls ++ wall ∷ [] → all ≡ room_boxes rooms number
unfolding room_boxes
walls_all rooms number hull walls all wall is_hull are is after =
    after
    ∙ ap (λ (b : List StoneBox). b ++ wall ∷ []) (are ∙ ap (λ (h : List StoneBox). h ++ open_walls (rooms - 1) number) is_hull)
    ∙ ap (λ (w : StoneBox). (hull_boxes rooms ++ open_walls (rooms - 1) number) ++ w ∷ []) is
