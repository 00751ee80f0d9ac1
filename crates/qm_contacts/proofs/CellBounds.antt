-- The planes that bound a cell, of which one with the normal of another takes its place where it is nearer.
use Rattle.std.proofs.Common.{◌≡◌, ℕ, ◌<◌, pos, ◌<ℤ◌, ◌≤ℤ◌, List, [], ◌∷◌, ◌++◌, length, map, get_or, set, Some, refl, ap, sym, ◌∙◌, subst, ⊎_elim}
use Rattle.std.proofs.lemmas.Bool.Decides.{eqb_tells}
use Rattle.std.proofs.lemmas.List.{get_or-set_same, get_or-set_other, length-set}
use Rattle.std.proofs.lemmas.List.Elements.{All-push, All-pop, All-set, All-from_get_or, All-get_or, All-contains_itself}
use Rattle.qm_lists.proofs.Elements.{Contains-first}
use Rattle.qm_space.specs.Point.{Point}
use Rattle.qm_space.specs.Plane.{Plane, IsInFront}
use Rattle.qm_space.specs.Cell.{IsInCell}
use Rattle.std.specs.List.{All, AllZip, Contains}
use Rattle.qm_space.specs.Cube.{cube_walls}
use Rattle.qm_convex.specs.Winding.{Winding}
use Rattle.qm_convex.specs.World.{IsCubeFace}
use Rattle.qm_convex.specs.inner.Facets.{inward_of, facing_in}
use Rattle.qm_convex.specs.Section.{HasSameNormal}
use Rattle.qm_convex.proofs.Among.{second_among}
use Rattle.qm_convex.proofs.AxialBounds.{front_of_farther, same_normal_back}
use Rattle.qm_contacts.specs.inner.Bounds.{IsBoundAdded}

own_later : (h : Plane) (old : List Plane) → All (Contains (h ∷ old)) old
own_later h old = second_among (h ∷ []) old old (All-contains_itself old)

-- the plane is pushed
pub bound_pushed : (h : Plane) (old new : List Plane) → new ≡ old ++ h ∷ [] → IsBoundAdded h old new
bound_pushed h old new is = record {
  points = λ x weight. (
    (λ inside. All-pop (λ g. IsInFront g x) new old (Some h) is inside),
    (λ both. subst (λ (cell : List Plane). IsInCell cell x) (sym is) (All-push (λ g. IsInFront g x) old h both.0 both.1)),
  );
  among = subst (All (Contains (h ∷ old))) (sym is) (All-push (Contains (h ∷ old)) old h (own_later h old) (Contains-first h old));
}

module _ (h : Plane) (old : List Plane) (i : ℕ) (g : Plane) (within : i < length old) (at : g ≡ get_or old i h) (same : HasSameNormal g h) where
  -- or it is no nearer than the one at a place
  pub bound_farther : h.d ≤ℤ g.d → IsBoundAdded h old old
  bound_farther less = record {
    points = λ x weight. (
      (λ inside. (inside, front_of_farther g h x same less weight (subst (λ (k : Plane). IsInFront k x) (sym at) (All-get_or (λ k. IsInFront k x) old i h within inside)))),
      (λ both. both.0),
    );
    among = own_later h old;
  }

  -- or it takes that place
  pub bound_nearer : (new : List Plane) → new ≡ set old i h → g.d ≤ℤ h.d → IsBoundAdded h old new
  bound_nearer new is more = record {
    points = λ x weight. (
      (λ inside.
          let there = subst (λ (cell : List Plane). IsInCell cell x) is inside in
          let front = All-get_or (λ k. IsInFront k x) (set old i h) i h (subst (λ (n : ℕ). i < n) (sym (length-set old i h)) within) there in
          let ahead = subst (λ (k : Plane). IsInFront k x) (get_or-set_same old i h h within) front in
          (All-from_get_or (λ k. IsInFront k x) old h (λ j below. each x weight j below there ahead), ahead)),
      (λ both. subst (λ (cell : List Plane). IsInCell cell x) (sym is) (All-set (λ k. IsInFront k x) old i h both.1 both.0)),
    );
    among = subst (All (Contains (h ∷ old))) (sym is) (All-set (Contains (h ∷ old)) old i h (Contains-first h old) (own_later h old));
  }
    where
      each : (x : Point) → pos 0 <ℤ x.w → (j : ℕ) → j < length old → IsInCell (set old i h) x → IsInFront h x → IsInFront (get_or old j h) x
      each x weight j below there ahead = ⊎_elim
          (λ here. subst (λ (k : Plane). IsInFront k x) (at ∙ ap (λ (n : ℕ). get_or old n h) (sym here.1)) (front_of_farther h g x (same_normal_back g h same) more weight ahead))
          (λ other. subst (λ (k : Plane). IsInFront k x) (get_or-set_other old i j h h other.1) (All-get_or (λ k. IsInFront k x) (set old i h) j h (subst (λ (n : ℕ). j < n) (sym (length-set old i h)) below) there))
          (eqb_tells j i)

-- the planes of the cube's faces are its walls
faces_on : (faces : List Winding) (walls : List Plane) → AllZip IsCubeFace faces walls → map inward_of (map facing_in faces) ≡ walls
faces_on [] [] are = refl
faces_on (face ∷ faces) (wall ∷ walls) are = λ i. are.0.plane i ∷ faces_on faces walls are.1 i
faces_on [] (wall ∷ walls) are = absurd are
faces_on (face ∷ faces) [] are = absurd are

pub planes_of_faces : (faces : List Winding) → AllZip IsCubeFace faces cube_walls → map inward_of (map facing_in faces) ≡ cube_walls
planes_of_faces faces are = faces_on faces cube_walls are
