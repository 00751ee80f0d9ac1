-- A plane is compared with a wall and with the wall turned.
use Rattle.std.proofs.Common.{◌≡◌, ℕ, ℤ, Bool, true, false, ◌&&◌, Some, int_eq, refl, sym, ap, subst, ◌∙◌}
use Rattle.std.specs.Prelude.{IsTrue, slice_get}
use Rattle.std.proofs.lemmas.Bool.{and_parts, and_from}
use Rattle.std.proofs.lemmas.Bool.Decides.{Decides-int_eq}
use Rattle.qm_space.specs.Bounds.{world_extent}
use Rattle.qm_space.specs.Plane.{Plane, flipped}
use Rattle.qm_space.specs.Turned.{turned}
use Rattle.qm_space.proofs.ReducedPlanes.{same_plane}
use Rattle.qm_face_layout.specs.PlaneNumbers.{walls_at}
use Rattle.qm_face_file.specs.inner.OnWalls.{IsOnWall}

equal_from_test : (x y : ℤ) → int_eq x y ≡ true → x ≡ y
equal_from_test x y is = (Decides-int_eq x y).0 is

test_of_itself : (x : ℤ) → int_eq x x ≡ true
test_of_itself x = (Decides-int_eq x x).1 refl

abbrev pub is_same_plane : Plane → Plane → Bool
is_same_plane a b = int_eq a.nx b.nx && (int_eq a.ny b.ny && (int_eq a.nz b.nz && int_eq a.d b.d))

pub same_from_test : (a b : Plane) → is_same_plane a b ≡ true → a ≡ b
same_from_test a b is =
    let nz = int_eq a.nz b.nz in
    let d = int_eq a.d b.d in
    let first = and_parts (int_eq a.nx b.nx) (int_eq a.ny b.ny && (nz && d)) is in
    let second = and_parts (int_eq a.ny b.ny) (nz && d) first.1 in
    let third = and_parts nz d second.1 in
    same_plane a b (equal_from_test a.nx b.nx first.0) (equal_from_test a.ny b.ny second.0) (equal_from_test a.nz b.nz third.0) (equal_from_test a.d b.d third.1)

pub test_from_same : (a b : Plane) → a ≡ b → is_same_plane a b ≡ true
test_from_same a b same =
    subst (λ (h : Plane). is_same_plane a h ≡ true) same
    (and_from (int_eq a.nx a.nx) (int_eq a.ny a.ny && (int_eq a.nz a.nz && int_eq a.d a.d)) (test_of_itself a.nx)
    (and_from (int_eq a.ny a.ny) (int_eq a.nz a.nz && int_eq a.d a.d) (test_of_itself a.ny)
    (and_from (int_eq a.nz a.nz) (int_eq a.d a.d) (test_of_itself a.nz) (test_of_itself a.d))))

module _ (plane wall other : Plane) (k : ℕ) (there : Some wall ≡ slice_get (walls_at world_extent) k) (other_is : other ≡ flipped wall) (is_not : is_same_plane plane wall ≡ false) where
  on_other : (side : Bool) → plane ≡ turned side wall → is_same_plane plane other ≡ true
  on_other true is = absurd (let e = sym is_not ∙ test_from_same plane wall is in cc)
  on_other false is = test_from_same plane other (is ∙ sym other_is)

  pub turned_wall : (found : Bool) → found ≡ is_same_plane plane other → (IsTrue found → IsOnWall plane k) × (IsOnWall plane k → IsTrue found)
  turned_wall found test = (
    λ is. record { named = wall; named_is = sym there; side = false; turned_is = same_from_test plane other (sym test ∙ is) ∙ other_is },
    λ names.
        let same : Some names.named ≡ Some wall = sym names.named_is ∙ sym there in
        let one : names.named ≡ wall = cc in
        test ∙ on_other names.side (names.turned_is ∙ ap (turned names.side) one),
  )
