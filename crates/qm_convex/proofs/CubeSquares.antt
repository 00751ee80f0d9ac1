-- The cube's faces as squares: the part of each wall between the walls across the two other axes.
use Rattle.std.proofs.Common.{◌≡◌, pos, ◌<ℤ◌, List, [], ◌∷◌, All, refl, sym, ap, subst, arith}
use Rattle.std.specs.List.{AllZip}
use Rattle.std.proofs.lemmas.Int.{ints}
use Rattle.std.proofs.lemmas.List.Elements.{All-from_recursion}
use Rattle.qm_space.specs.Bounds.{extent}
use Rattle.qm_space.specs.Point.{Point}
use Rattle.qm_space.specs.Plane.{Plane, IsOn, IsInFront}
use Rattle.qm_space.specs.Meet.{meet}
use Rattle.qm_space.specs.Cube.{mirrored, wall_x, wall_y, wall_z, cube_walls}
use Rattle.qm_numbers.proofs.IntegerProducts.{linear}
use Rattle.qm_numbers.proofs.Signs.{product_positive}
use Rattle.qm_space.proofs.Cubes.{x_low, x_high, y_low, y_high, z_low, z_high}
use Rattle.qm_convex.specs.Winding.{Winding}
use Rattle.qm_convex.specs.World.{IsCubeFace}
use Rattle.qm_convex.specs.inner.Square.{IsBetweenMirrored, square}
use Rattle.qm_convex.proofs.Squares.{square_convex, square_region, turn_x_y, turn_z_x, turn_y_z, turn_exchanged}

-- in front of the walls that are not this one
abbrev IsInFrontOfOthers : Plane → Point → Type 0
IsInFrontOfOthers h p = All (λ g. (g ≡ h → ⊥) → IsInFront g p) cube_walls

module _ (h a b : Plane) (turn : pos 0 <ℤ (meet h a b).w) (a_apart : a.d <ℤ pos 0) (b_apart : b.d <ℤ pos 0)
    (inside : (p : Point) → pos 0 <ℤ p.w → IsOn h p → IsBetweenMirrored a p → IsBetweenMirrored b p → IsInFrontOfOthers h p)
    (between : (p : Point) → IsInFrontOfOthers h p → IsBetweenMirrored a p × IsBetweenMirrored b p) where
  square_is_face : IsCubeFace (square h a b) h
  square_is_face = record {
    convex = square_convex h a b turn a_apart b_apart;
    plane = refl;
    points = λ p. (
      (λ r. let s = (square_region h a b p).0 r in record { weight = s.0; on = s.1; inside = inside p s.0 s.1 s.2 s.3 }),
      (λ f. let t = between p f.inside in (square_region h a b p).1 (f.weight, f.on, t.0, t.1)),
    );
  }

pub near_x : IsCubeFace (square wall_x wall_y wall_z) wall_x
near_x = square_is_face wall_x wall_y wall_z (let e = turn_y_z wall_x in omega (arith, ints)) (omega (arith, ints)) (omega (arith, ints))
    (λ p weight on of_a of_b. All-from_recursion (λ g. (g ≡ wall_x → ⊥) → IsInFront g p) cube_walls ((λ other. absurd (other refl)), ((λ other. of_a.near), ((λ other. of_b.near), ((λ other. let e = x_low p in let f = x_high p in let m = product_positive extent p.w (omega (arith, ints)) weight in omega (arith, linear)), ((λ other. of_a.far), ((λ other. of_b.far), tt)))))))
    (λ p front. (record { near = front 1 wall_x (omega arith) (λ e. let n = ap (λ (g : Plane). g.ny) e in omega (arith, ints)); far = front 4 wall_x (omega arith) (λ e. let n = ap (λ (g : Plane). g.ny) e in omega (arith, ints)) }, record { near = front 2 wall_x (omega arith) (λ e. let n = ap (λ (g : Plane). g.nz) e in omega (arith, ints)); far = front 5 wall_x (omega arith) (λ e. let n = ap (λ (g : Plane). g.nz) e in omega (arith, ints)) }))

pub near_y : IsCubeFace (square wall_y wall_z wall_x) wall_y
near_y = square_is_face wall_y wall_z wall_x (let e = turn_z_x wall_y in omega (arith, ints)) (omega (arith, ints)) (omega (arith, ints))
    (λ p weight on of_a of_b. All-from_recursion (λ g. (g ≡ wall_y → ⊥) → IsInFront g p) cube_walls ((λ other. of_b.near), ((λ other. absurd (other refl)), ((λ other. of_a.near), ((λ other. of_b.far), ((λ other. let e = y_low p in let f = y_high p in let m = product_positive extent p.w (omega (arith, ints)) weight in omega (arith, linear)), ((λ other. of_a.far), tt)))))))
    (λ p front. (record { near = front 2 wall_x (omega arith) (λ e. let n = ap (λ (g : Plane). g.nz) e in omega (arith, ints)); far = front 5 wall_x (omega arith) (λ e. let n = ap (λ (g : Plane). g.nz) e in omega (arith, ints)) }, record { near = front 0 wall_x (omega arith) (λ e. let n = ap (λ (g : Plane). g.nx) e in omega (arith, ints)); far = front 3 wall_x (omega arith) (λ e. let n = ap (λ (g : Plane). g.nx) e in omega (arith, ints)) }))

pub near_z : IsCubeFace (square wall_z wall_x wall_y) wall_z
near_z = square_is_face wall_z wall_x wall_y (let e = turn_x_y wall_z in omega (arith, ints)) (omega (arith, ints)) (omega (arith, ints))
    (λ p weight on of_a of_b. All-from_recursion (λ g. (g ≡ wall_z → ⊥) → IsInFront g p) cube_walls ((λ other. of_a.near), ((λ other. of_b.near), ((λ other. absurd (other refl)), ((λ other. of_a.far), ((λ other. of_b.far), ((λ other. let e = z_low p in let f = z_high p in let m = product_positive extent p.w (omega (arith, ints)) weight in omega (arith, linear)), tt)))))))
    (λ p front. (record { near = front 0 wall_x (omega arith) (λ e. let n = ap (λ (g : Plane). g.nx) e in omega (arith, ints)); far = front 3 wall_x (omega arith) (λ e. let n = ap (λ (g : Plane). g.nx) e in omega (arith, ints)) }, record { near = front 1 wall_x (omega arith) (λ e. let n = ap (λ (g : Plane). g.ny) e in omega (arith, ints)); far = front 4 wall_x (omega arith) (λ e. let n = ap (λ (g : Plane). g.ny) e in omega (arith, ints)) }))

pub far_x : IsCubeFace (square (mirrored wall_x) wall_z wall_y) (mirrored wall_x)
far_x = square_is_face (mirrored wall_x) wall_z wall_y (let e = turn_y_z (mirrored wall_x) in let f = turn_exchanged (mirrored wall_x) wall_y wall_z in omega (arith, ints)) (omega (arith, ints)) (omega (arith, ints))
    (λ p weight on of_a of_b. All-from_recursion (λ g. (g ≡ mirrored wall_x → ⊥) → IsInFront g p) cube_walls ((λ other. let e = x_low p in let f = x_high p in let m = product_positive extent p.w (omega (arith, ints)) weight in omega (arith, linear)), ((λ other. of_b.near), ((λ other. of_a.near), ((λ other. absurd (other refl)), ((λ other. of_b.far), ((λ other. of_a.far), tt)))))))
    (λ p front. (record { near = front 2 wall_x (omega arith) (λ e. let n = ap (λ (g : Plane). g.nz) e in omega (arith, ints)); far = front 5 wall_x (omega arith) (λ e. let n = ap (λ (g : Plane). g.nz) e in omega (arith, ints)) }, record { near = front 1 wall_x (omega arith) (λ e. let n = ap (λ (g : Plane). g.ny) e in omega (arith, ints)); far = front 4 wall_x (omega arith) (λ e. let n = ap (λ (g : Plane). g.ny) e in omega (arith, ints)) }))

pub far_y : IsCubeFace (square (mirrored wall_y) wall_x wall_z) (mirrored wall_y)
far_y = square_is_face (mirrored wall_y) wall_x wall_z (let e = turn_z_x (mirrored wall_y) in let f = turn_exchanged (mirrored wall_y) wall_z wall_x in omega (arith, ints)) (omega (arith, ints)) (omega (arith, ints))
    (λ p weight on of_a of_b. All-from_recursion (λ g. (g ≡ mirrored wall_y → ⊥) → IsInFront g p) cube_walls ((λ other. of_a.near), ((λ other. let e = y_low p in let f = y_high p in let m = product_positive extent p.w (omega (arith, ints)) weight in omega (arith, linear)), ((λ other. of_b.near), ((λ other. of_a.far), ((λ other. absurd (other refl)), ((λ other. of_b.far), tt)))))))
    (λ p front. (record { near = front 0 wall_x (omega arith) (λ e. let n = ap (λ (g : Plane). g.nx) e in omega (arith, ints)); far = front 3 wall_x (omega arith) (λ e. let n = ap (λ (g : Plane). g.nx) e in omega (arith, ints)) }, record { near = front 2 wall_x (omega arith) (λ e. let n = ap (λ (g : Plane). g.nz) e in omega (arith, ints)); far = front 5 wall_x (omega arith) (λ e. let n = ap (λ (g : Plane). g.nz) e in omega (arith, ints)) }))

pub far_z : IsCubeFace (square (mirrored wall_z) wall_y wall_x) (mirrored wall_z)
far_z = square_is_face (mirrored wall_z) wall_y wall_x (let e = turn_x_y (mirrored wall_z) in let f = turn_exchanged (mirrored wall_z) wall_x wall_y in omega (arith, ints)) (omega (arith, ints)) (omega (arith, ints))
    (λ p weight on of_a of_b. All-from_recursion (λ g. (g ≡ mirrored wall_z → ⊥) → IsInFront g p) cube_walls ((λ other. of_b.near), ((λ other. of_a.near), ((λ other. let e = z_low p in let f = z_high p in let m = product_positive extent p.w (omega (arith, ints)) weight in omega (arith, linear)), ((λ other. of_b.far), ((λ other. of_a.far), ((λ other. absurd (other refl)), tt)))))))
    (λ p front. (record { near = front 1 wall_x (omega arith) (λ e. let n = ap (λ (g : Plane). g.ny) e in omega (arith, ints)); far = front 4 wall_x (omega arith) (λ e. let n = ap (λ (g : Plane). g.ny) e in omega (arith, ints)) }, record { near = front 0 wall_x (omega arith) (λ e. let n = ap (λ (g : Plane). g.nx) e in omega (arith, ints)); far = front 3 wall_x (omega arith) (λ e. let n = ap (λ (g : Plane). g.nx) e in omega (arith, ints)) }))

-- the six faces, in the order of the walls
abbrev pub cube_faces : List Winding
cube_faces = square wall_x wall_y wall_z ∷ square wall_y wall_z wall_x ∷ square wall_z wall_x wall_y ∷ square (mirrored wall_x) wall_z wall_y ∷ square (mirrored wall_y) wall_x wall_z ∷ square (mirrored wall_z) wall_y wall_x ∷ []

pub are_cube_faces : AllZip IsCubeFace cube_faces cube_walls
are_cube_faces = (near_x, (near_y, (near_z, (far_x, (far_y, (far_z, tt))))))

-- planes that are a wall and two others give its face
pub face_of_same : (h a b wall first second : Plane) → h ≡ wall → a ≡ first → b ≡ second → IsCubeFace (square wall first second) wall → IsCubeFace (square h a b) h
face_of_same h a b wall first second eh ea eb is =
    subst (λ (p : Plane). IsCubeFace (square p a b) p) (sym eh)
    (subst (λ (p : Plane). IsCubeFace (square wall p b) wall) (sym ea)
    (subst (λ (p : Plane). IsCubeFace (square wall first p) wall) (sym eb) is))
