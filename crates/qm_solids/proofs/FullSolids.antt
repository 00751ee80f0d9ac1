-- Which solids are full: by a face that has a point in the cube, or by the middle of the cube where no face has one.
use Rattle.std.proofs.Common.{◌≡◌, suc, ◌+◌, ◌≤◌, ℤ, pos, neg_ℤ, ◌*ℤ◌, [], ◌↔◌, Contains, get_or, unsigned_abs, ap, arith}
use Rattle.std.proofs.lemmas.Int.{ints}
use Rattle.std.proofs.lemmas.List.Elements.{All-nil, Contains-get_or}
use Rattle.qm_space.specs.Point.{Point, point_times, IsInCube}
use Rattle.qm_space.specs.Plane.{Plane, value, IsBehind, IsOn, IsInFront, flipped, scaled}
use Rattle.qm_space.specs.Multiple.{HasSameSides}
use Rattle.qm_space.specs.Cube.{cube_walls}
use Rattle.qm_numbers.proofs.IntegerProducts.{linear, *ℤ_zero}
use Rattle.qm_space.proofs.Planes.{value_times}
use Rattle.qm_space.proofs.ReducedPlanes.{same_plane}
use Rattle.qm_space.proofs.Openness.{moved, value_moved, reach, each_within_reach, moved_behind, moved_in_cube, ahead, by_ahead}
use Rattle.qm_solids.specs.Solid.{Solid}
use Rattle.qm_solids.specs.Holding.{IsInside, IsFull}
use Rattle.qm_solids.specs.Candidates.{IsOnFace}
use Rattle.qm_solids.specs.Uniform.{MeetsNoFace}
use Rattle.qm_solids.proofs.Insides.{inside_of_behind}
use Rattle.qm_solids.proofs.FlatSolids.{AreOpposed, HasOpposedPlanes}
use Rattle.qm_solids.proofs.PlanesInCommon.{by_lies_on, lies_on_points, by_sides}
use Rattle.qm_space.proofs.SameSides.{same_behind}
use Rattle.qm_solids.proofs.UniformCells.{inside_throughout}

-- ---- by a face

-- a plane of four zeros is opposed to itself
zero_opposed : (h : Plane) → h.nx ≡ pos 0 → h.ny ≡ pos 0 → h.nz ≡ pos 0 → h.d ≡ pos 0 → AreOpposed h h
zero_opposed h x y z d = record {
  times = pos 1;
  some = omega (arith, ints);
  multiple = record {
    factor = pos 1;
    positive = omega (arith, ints);
    multiple = same_plane (scaled (pos 1) h) (scaled (pos 1) (flipped h)) (part h.nx x) (part h.ny y) (part h.nz z) (part h.d d);
  };
}
  where
    part : (a : ℤ) → a ≡ pos 0 → pos 1 *ℤ a ≡ pos 1 *ℤ neg_ℤ a
    part a e = let f : a ≡ neg_ℤ a = omega (arith, linear) in ap (λ b. pos 1 *ℤ b) f

opposed_by_sides : (a h : Plane) → HasSameSides a (flipped h) → AreOpposed a h
opposed_by_sides a h same = record {
  times = same.times;
  some = same.some_times;
  multiple = record { factor = same.factor; positive = same.some_factor; multiple = same.multiple };
}

module _ (solid : Solid) (face : Plane) (x : Point) (free : HasOpposedPlanes solid → ⊥) (has_face : Contains solid.outward face) (on_face : IsOnFace solid [] face x) where
  -- each outward plane has numbers that are not 0
  some_ahead : (h : Plane) → Contains solid.outward h → IsInFront h (ahead h)
  some_ahead h among =
      by_ahead h (λ front. front)
      (λ a b c d. absurd (free (record { one = h; other = h; has_one = among; has_other = among; opposed = zero_opposed h a b c d })))

  off_ahead : (h : Plane) → Contains solid.outward h → IsOn h (ahead h) → ⊥
  off_ahead h among on = let front = some_ahead h among in absurd (omega (arith, linear))

  -- from the point on the face a little inward
  inward_step : Point
  inward_step = point_times (neg_ℤ (pos 1)) (ahead face)

  many : ℤ
  many = pos (suc (reach cube_walls inward_step + reach solid.outward inward_step))

  q : Point
  q = moved many x inward_step

  face_behind : IsBehind face q
  unfolding q inward_step
  face_behind =
      let front = some_ahead face has_face in
      let e = value_moved face many x inward_step in
      let t = value_times face (neg_ℤ (pos 1)) (ahead face) in
      let z = ap (λ v. many *ℤ v) on_face.on in
      let n = *ℤ_zero many in
      omega (arith, ints)

  one_behind : (h : Plane) → Contains solid.outward h → unsigned_abs (value h inward_step) ≤ reach solid.outward inward_step → IsBehind h q
  unfolding q many
  one_behind h among within = by_lies_on h face (ahead h) (ahead face) (off_ahead h among) (off_ahead face has_face)
      (λ lies. by_sides h face lies
      (λ same. same_behind h face q same face_behind)
      (λ opposite. absurd (free (record { one = h; other = face; has_one = among; has_other = has_face; opposed = opposed_by_sides h face opposite }))))
      (λ v on off. moved_behind h x inward_step many (reach solid.outward inward_step) within (omega (arith, ints))
      (on_face.behind_others h among (λ lies. off ((lies_on_points h face v lies).1 on))))

  -- a solid without opposed planes is full where one of its faces has a point in the cube
  pub full_by_face : IsFull solid
  unfolding q many
  full_by_face = record {
    within = q;
    in_cube = moved_in_cube x inward_step many (omega (arith, ints)) on_face.in_cube;
    inside =
        let within = each_within_reach solid.outward inward_step in
        inside_of_behind solid.outward q (λ k h there. one_behind (get_or solid.outward k h) (Contains-get_or solid.outward k h there) (within k h there));
  }

-- ---- by the middle of the cube

abbrev pub middle_of_cube : Point
middle_of_cube = record { x = pos 0; y = pos 0; z = pos 0; w = pos 1 }

pub middle_in_cube : IsInCube middle_of_cube
middle_in_cube = record {
  weight = omega (arith, ints);
  x = record { above = omega (arith, ints); below = omega (arith, ints) };
  y = record { above = omega (arith, ints); below = omega (arith, ints) };
  z = record { above = omega (arith, ints); below = omega (arith, ints) };
}

-- a solid no face of which has a point in the cube is full where the middle is inside it
pub full_by_middle : (solid : Solid) → MeetsNoFace solid [] → IsFull solid ↔ IsInside solid middle_of_cube
full_by_middle solid meets = (
  (λ full. inside_throughout solid [] meets full.within full.in_cube (All-nil (λ h. IsInFront h full.within)) full.inside middle_of_cube middle_in_cube (All-nil (λ h. IsInFront h middle_of_cube))),
  (λ inside. record { within = middle_of_cube; in_cube = middle_in_cube; inside = inside }),
)
