-- Two walls of the cube with the same sides are one wall; its faces lie in the closed cube.
use Rattle.std.proofs.Common.{◌≡◌, ℤ, pos, neg_ℤ, ◌-ℤ◌, ◌*ℤ◌, ◌<ℤ◌, ◌≤ℤ◌, get_or, All, Contains, refl, sym, ap, ◌∙◌, arith}
use Rattle.std.proofs.lemmas.Int.{ints}
use Rattle.std.proofs.lemmas.List.Elements.{All-from_recursion, All-contains}
use Rattle.qm_space.specs.Bounds.{extent}
use Rattle.qm_space.specs.Point.{Point}
use Rattle.qm_space.specs.Plane.{Plane, value, scaled}
use Rattle.qm_space.specs.Multiple.{HasSameSides}
use Rattle.qm_space.specs.Cube.{cube_walls, IsInClosedCube, IsOnCubeFace}
use Rattle.qm_numbers.proofs.IntegerProducts.{linear}
use Rattle.qm_numbers.proofs.Signs.{by_zero, cancel_equal}
use Rattle.qm_space.proofs.ReducedPlanes.{same_plane}
use Rattle.qm_space.proofs.Cubes.{closed_from_walls}

-- integers, and planes, are equal or not
by_equal : {P : Type 0} (a b : ℤ) → (a ≡ b → P) → ((a ≡ b → ⊥) → P) → P
by_equal a b same apart = by_zero (a -ℤ b) (λ zero. same (omega (arith, ints))) (λ some. apart (λ e. some (omega (arith, ints))))

pub by_same_plane : {P : Type 0} (g h : Plane) → (g ≡ h → P) → ((g ≡ h → ⊥) → P) → P
by_same_plane g h same apart =
    by_equal g.nx h.nx
    (λ x. by_equal g.ny h.ny
    (λ y. by_equal g.nz h.nz
    (λ z. by_equal g.d h.d
    (λ d. same (same_plane g h x y z d))
    (λ other. apart (λ e. other (ap (λ (p : Plane). p.d) e))))
    (λ other. apart (λ e. other (ap (λ (p : Plane). p.nz) e))))
    (λ other. apart (λ e. other (ap (λ (p : Plane). p.ny) e))))
    (λ other. apart (λ e. other (ap (λ (p : Plane). p.nx) e)))

-- all walls are at one distance
at_one_distance : All (λ h. h.d ≡ neg_ℤ extent) cube_walls
at_one_distance = All-from_recursion (λ h. h.d ≡ neg_ℤ extent) cube_walls (refl, (refl, (refl, (refl, (refl, (refl, tt))))))

-- planes with the same sides at one distance that is not 0 are equal
same_at_distance : (g h : Plane) → HasSameSides g h → g.d ≡ neg_ℤ extent → h.d ≡ neg_ℤ extent → g ≡ h
same_at_distance g h same at_g at_h = same_plane g h (number g.nx h.nx (ap (λ (p : Plane). p.nx) e)) (number g.ny h.ny (ap (λ (p : Plane). p.ny) e)) (number g.nz h.nz (ap (λ (p : Plane). p.nz) e)) (at_g ∙ sym at_h)
  where
    e : scaled same.times g ≡ scaled same.factor h
    e = same.multiple

    one : same.times ≡ same.factor
    one =
        let d = ap (λ (p : Plane). p.d) e in
        let t = ap (λ (n : ℤ). same.times *ℤ n) at_g in
        let f = ap (λ (n : ℤ). same.factor *ℤ n) at_h in
        omega (arith, ints, d, t, f)

    number : (a b : ℤ) → same.times *ℤ a ≡ same.factor *ℤ b → a ≡ b
    number a b is = cancel_equal same.times a b (λ zero. let p = same.some_times in omega (arith, ints)) (is ∙ ap (λ (n : ℤ). n *ℤ b) (sym one))

pub one_wall : (g h : Plane) → Contains cube_walls g → Contains cube_walls h → HasSameSides g h → g ≡ h
one_wall g h is_g is_h same =
    same_at_distance g h same (All-contains (λ p. p.d ≡ neg_ℤ extent) cube_walls g at_one_distance is_g) (All-contains (λ p. p.d ≡ neg_ℤ extent) cube_walls h at_one_distance is_h)

-- a face lies in the closed cube
pub face_in_closed : (wall : Plane) (x : Point) → IsOnCubeFace wall x → IsInClosedCube x
face_in_closed wall x face = closed_from_walls x face.weight (λ place d there. beside (get_or cube_walls place d) (face.inside place d there))
  where
    beside : (g : Plane) → ((g ≡ wall → ⊥) → pos 0 <ℤ value g x) → pos 0 ≤ℤ value g x
    beside g front = by_same_plane g wall
        (λ e. let on = ap (λ (h : Plane). value h x) e ∙ face.on in omega (arith, linear, on))
        (λ other. let f = front other in omega (arith, linear, f))
