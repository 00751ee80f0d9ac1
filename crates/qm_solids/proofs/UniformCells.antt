-- A cell that no face of a solid meets is all inside the solid or all outside it.
use Rattle.std.proofs.Common.{suc, ◌+◌, ◌≤◌, ℤ, pos, neg_ℤ, ◌*ℤ◌, List, [], ◌∷◌, ◌++◌, All, Contains, get_or, unsigned_abs, ap, arith}
use Rattle.std.proofs.lemmas.Int.{ints}
use Rattle.std.proofs.lemmas.List.Elements.{All-nil, All-cons, All-head, All-tail, All-append, All-contains, Contains-get_or, Contains-append_right}
use Rattle.std.proofs.Math.IntN.{*ℤ_comm}
use Rattle.qm_lists.proofs.Elements.{All-first_part, All-last_part}
use Rattle.qm_space.specs.Point.{Point, point_times, IsInCube}
use Rattle.qm_space.specs.Plane.{Plane, value, IsBehind, IsOn, IsInFront, IsNotInFront, IsNotBehind}
use Rattle.qm_space.specs.Cell.{IsInCell}
use Rattle.qm_space.specs.Cube.{cube_walls}
use Rattle.qm_numbers.proofs.IntegerProducts.{linear, *ℤ_zero, neg-*ℤ}
use Rattle.qm_numbers.proofs.Signs.{by_sign, by_least, product_positive, positive_times_negative, product_not_positive, product_not_negative}
use Rattle.qm_space.proofs.Planes.{value_times}
use Rattle.qm_space.proofs.Cubes.{cube_is_cell}
use Rattle.qm_space.proofs.Crossings.{through, value_through}
use Rattle.qm_space.proofs.Openness.{moved, value_moved, reach, each_within_reach, moved_behind, moved_in_cell, moved_in_cube}
use Rattle.qm_solids.specs.Solid.{Solid}
use Rattle.qm_solids.specs.Holding.{IsInside}
use Rattle.qm_solids.specs.Cells.{ContainsCell}
use Rattle.qm_solids.specs.Candidates.{IsSamePlane}
use Rattle.qm_solids.specs.Uniform.{MeetsNoFace, LiesOutside}
use Rattle.qm_solids.proofs.Insides.{behind_all, inside_of_behind}
use Rattle.qm_solids.proofs.PlanesInCommon.{lies_on_itself, lies_on_points, by_lies_on}

-- ---- a cell, and planes that have one of its points strictly behind them

-- strictly behind the plane, unless it lies on the face's
abbrev IsBehindUnlessOn : Plane → Point → Plane → Type 0
IsBehindUnlessOn face x other = (IsSamePlane other face → ⊥) → IsBehind other x

-- a point of the cell on the face, and strictly behind the planes that lie on others
record IsMet (planes cell : List Plane) (face : Plane) (x : Point) : Type 0 where
  in_cell : IsInCell cell x
  on : IsOn face x
  others : All (IsBehindUnlessOn face x) planes

abbrev AreMissed : List Plane → List Plane → Type 0
AreMissed planes cell = (face : Plane) (x : Point) → Contains planes face → IsMet planes cell face x → ⊥

behind_is_off : (h : Plane) (p : Point) → IsBehind h p → IsOn h p → ⊥
behind_is_off h p behind on = absurd (omega (arith, linear))

-- a plane that is behind p and has q in front is crossed between them
module _ (cell : List Plane) (g : Plane) (rest : List Plane) (p q : Point) (p_in : IsInCell cell p) (q_in : IsInCell cell q) (p_behind : IsBehind g p) (q_front : IsInFront g q) where
  between_in_cell : IsInCell cell (through g q p)
  between_in_cell k h within =
      let e = value_through (get_or cell k h) g q p in
      let a = product_positive (value g q) (value (get_or cell k h) p) q_front (p_in k h within) in
      let b = positive_times_negative (value (get_or cell k h) q) (value g p) (q_in k h within) p_behind in
      let c = *ℤ_comm (value (get_or cell k h) q) (value g p) in
      omega (arith, linear)

  between_on : IsOn g (through g q p)
  between_on =
      let e = value_through g g q p in
      let c = *ℤ_comm (value g q) (value g p) in
      omega (arith, linear)

  between_behind : (h : Plane) → IsBehind h p → IsNotInFront h q → IsBehind h (through g q p)
  between_behind h behind not =
      let e = value_through h g q p in
      let a = positive_times_negative (value g q) (value h p) q_front behind in
      let b = product_not_positive (neg_ℤ (value g p)) (value h q) (omega (arith, linear)) not in
      let n = neg-*ℤ (value g p) (value h q) in
      omega (arith, linear)

  crossed : All (λ h. IsBehind h p) rest → All (λ h. IsNotInFront h q) rest → AreMissed (g ∷ rest) cell → ⊥
  crossed rest_behind rest_not missed = missed g (through g q p) (Contains-get_or (g ∷ rest) 0 g (omega arith)) (record {
    in_cell = between_in_cell;
    on = between_on;
    others = All-cons (IsBehindUnlessOn g (through g q p)) g rest (λ apart. absurd (apart (lies_on_itself g)))
        (λ k h within apart. between_behind (get_or rest k h) (rest_behind k h within) (rest_not k h within));
  })

-- without its first plane the list is missed too
module _ (cell : List Plane) (g : Plane) (rest : List Plane) (p : Point) (p_in : IsInCell cell p) (g_behind : IsBehind g p) (rest_behind : All (λ h. IsBehind h p) rest) (missed : AreMissed (g ∷ rest) cell) (face : Plane) (x : Point) (among : Contains rest face) (met : IsMet rest cell face x) where
  face_behind : IsBehind face p
  face_behind = All-contains (λ h. IsBehind h p) rest face rest_behind among

  with_first : IsBehindUnlessOn face x g → ⊥
  with_first first = missed face x (Contains-append_right (g ∷ []) rest face among) (record {
    in_cell = met.in_cell;
    on = met.on;
    others = All-cons (IsBehindUnlessOn face x) g rest first met.others;
  })

  -- a step along the face leads to the front of the first plane
  along_face : (v : Point) → IsOn face v → IsInFront g v → IsNotBehind g x → ⊥
  along_face v on_v front_v not_behind = crossed cell g rest p q p_in q_in g_behind q_front rest_behind rest_not missed
    where
      many : ℤ
      many = pos (suc (reach cell v + reach rest v))

      q : Point
      q = moved many x v

      q_in : IsInCell cell q
      q_in = moved_in_cell cell x v many (omega (arith, ints)) met.in_cell

      q_front : IsInFront g q
      q_front =
          let e = value_moved g many x v in
          let a = product_not_negative many (value g x) (omega (arith, ints)) not_behind in
          omega (arith, linear)

      q_on : IsOn face q
      q_on =
          let e = value_moved face many x v in
          let a = ap (λ z. many *ℤ z) met.on in
          let b = *ℤ_zero many in
          omega (arith, linear)

      one : (h : Plane) → unsigned_abs (value h v) ≤ reach rest v → IsBehind h p → IsBehindUnlessOn face x h → IsNotInFront h q
      one h within behind unless = by_lies_on h face p p (behind_is_off h p behind) (behind_is_off face p face_behind)
          (λ lies. let on = (lies_on_points h face q lies).1 q_on in omega (arith, linear))
          (λ w on_w off_w.
          let b = moved_behind h x v many (reach rest v) within (omega (arith, ints)) (unless (λ lies. off_w ((lies_on_points h face w lies).1 on_w))) in
          omega (arith, linear))

      rest_not : All (λ h. IsNotInFront h q) rest
      rest_not =
          let within = each_within_reach rest v in
          λ k h there. one (get_or rest k h) (within k h there) (rest_behind k h there) (met.others k h there)

  backwards : (v : Point) → IsOn face v → IsBehind g v → IsNotBehind g x → ⊥
  backwards v on_v behind_v not_behind =
      let w = point_times (neg_ℤ (pos 1)) v in
      let e = value_times face (neg_ℤ (pos 1)) v in
      let f = value_times g (neg_ℤ (pos 1)) v in
      along_face w (omega (arith, ints)) (omega (arith, ints)) not_behind

  not_met : ⊥
  not_met = by_lies_on g face p p (behind_is_off g p g_behind) (behind_is_off face p face_behind)
      (λ lies. with_first (λ apart. absurd (apart lies)))
      (λ v on_v off_v. by_least (value g x) (pos 0)
      (λ behind. with_first (λ apart. behind))
      (λ not_behind. by_sign (value g v)
      (λ below. backwards v on_v below not_behind)
      (λ zero. off_v zero)
      (λ above. along_face v on_v above not_behind)))

-- a cell that misses all the planes is strictly behind them, if one of its points is
behind_throughout : (cell planes : List Plane) (p : Point) → IsInCell cell p → All (λ h. IsBehind h p) planes → AreMissed planes cell → (x : Point) → IsInCell cell x → All (λ h. IsBehind h x) planes
behind_throughout cell [] p p_in behind missed x x_in = All-nil (λ h. IsBehind h x)
behind_throughout cell (g ∷ rest) p p_in behind missed x x_in =
    let first = All-head (λ h. IsBehind h p) g rest behind in
    let others = All-tail (λ h. IsBehind h p) g rest behind in
    let inner = behind_throughout cell rest p p_in others (not_met cell g rest p p_in first others missed) x x_in in
    All-cons (λ h. IsBehind h x) g rest
    (by_sign (value g x)
    (λ below. below)
    (λ on. absurd (missed g x (Contains-get_or (g ∷ rest) 0 g (omega arith)) (record {
      in_cell = x_in;
      on = on;
      others = All-cons (IsBehindUnlessOn g x) g rest (λ apart. absurd (apart (lies_on_itself g))) (λ k h within apart. inner k h within);
    })))
    (λ above. absurd (crossed cell g rest p x p_in x_in first above others (λ k h within. let b = inner k h within in omega (arith, linear)) missed)))
    inner

-- ---- solids

in_both : (cell : List Plane) (x : Point) → IsInCube x → IsInCell cell x → IsInCell (cube_walls ++ cell) x
in_both cell x in_cube in_cell = All-append (λ h. IsInFront h x) cube_walls cell ((cube_is_cell x).0 in_cube) in_cell

missed_by : (solid : Solid) (cell : List Plane) → MeetsNoFace solid cell → AreMissed solid.outward (cube_walls ++ cell)
missed_by solid cell meets face x among met = meets face x among (record {
  in_cube = (cube_is_cell x).1 (All-first_part (λ h. IsInFront h x) cube_walls cell met.in_cell);
  in_cell = All-last_part (λ h. IsInFront h x) cube_walls cell met.in_cell;
  on = met.on;
  behind_others = λ other listed. All-contains (IsBehindUnlessOn face x) solid.outward other met.others listed;
})

-- where no face meets the cell and one of its points is inside the solid, all are
pub inside_throughout : (solid : Solid) (cell : List Plane) → MeetsNoFace solid cell → (p : Point) → IsInCube p → IsInCell cell p → IsInside solid p → (x : Point) → IsInCube x → IsInCell cell x → IsInside solid x
inside_throughout solid cell meets p p_in_cube p_in_cell inside x in_cube in_cell =
    inside_of_behind solid.outward x
    (behind_throughout (cube_walls ++ cell) solid.outward p (in_both cell p p_in_cube p_in_cell) (behind_all solid.outward p inside) (missed_by solid cell meets) x (in_both cell x in_cube in_cell))

pub contains_throughout : (solid : Solid) (cell : List Plane) → MeetsNoFace solid cell → (p : Point) → IsInCube p → IsInCell cell p → IsInside solid p → ContainsCell solid cell
contains_throughout solid cell meets p in_cube in_cell inside = record {
  full = record { within = p; in_cube = in_cube; inside = inside };
  inside = inside_throughout solid cell meets p in_cube in_cell inside;
}

-- where no face meets the cell and one of its points is not inside the solid, the solid holds none
pub outside_throughout : (solid : Solid) (cell : List Plane) → MeetsNoFace solid cell → (p : Point) → IsInCube p → IsInCell cell p → (IsInside solid p → ⊥) → LiesOutside solid cell
outside_throughout solid cell meets p p_in_cube p_in_cell outside x in_cube in_cell holds =
    outside (inside_throughout solid cell meets q q_in_cube q_in_cell q_inside p p_in_cube p_in_cell)
  where
    inner : Point
    inner = holds.full.within

    many : ℤ
    many = pos (suc (reach cube_walls inner + reach cell inner))

    q : Point
    q = moved many x inner

    q_in_cube : IsInCube q
    q_in_cube = moved_in_cube x inner many (omega (arith, ints)) in_cube

    q_in_cell : IsInCell cell q
    q_in_cell = moved_in_cell cell x inner many (omega (arith, ints)) in_cell

    behind : (h : Plane) → IsNotInFront h x → IsBehind h inner → IsBehind h q
    behind h not b =
        let e = value_moved h many x inner in
        let a = product_not_positive many (value h x) (omega (arith, ints)) not in
        omega (arith, linear)

    q_inside : IsInside solid q
    q_inside =
        let within = behind_all solid.outward inner holds.full.inside in
        inside_of_behind solid.outward q (λ k h there. behind (get_or solid.outward k h) (holds.not_in_front k h there) (within k h there))
