-- The planes by which a brush cuts polygons on the plane of a number: a point that is on no other plane is off all of them, and
-- where it is on that plane, the brush holds it where it is behind all of them.
use Rattle.std.proofs.Common.{◌≡◌, ◌<◌, ◌==◌, ℕ, Bool, not, List, [], ◌∷◌, All, Contains, length, get_or, sym, ap, subst, ⊎_elim, arith}
use Rattle.std.specs.List.{filter}
use Rattle.std.proofs.lemmas.Int.{ints}
use Rattle.std.proofs.lemmas.Bool.Decides.{eqb_tells}
use Rattle.std.proofs.lemmas.List.Elements.{All-nil, All-cons, All-head, All-tail, All-map, All-contains, Contains-get_or}
use Rattle.qm_lists.proofs.Elements.{Contains-map, Contains-filter, All-from_map}
use Rattle.qm_numbers.proofs.Signs.{by_sign}
use Rattle.qm_space.specs.Point.{Point}
use Rattle.qm_space.specs.Plane.{Plane, value, IsOn, IsBehind, IsNotInFront}
use Rattle.qm_space.specs.Book.{plane_at}
use Rattle.qm_space.proofs.TurnedPlanes.{turned_on}
use Rattle.qm_solids.specs.declared.face.FaceRef.{FaceRef}
use Rattle.qm_solids.specs.Outward.{outward_of, outward_planes, AreNumberedIn}
use Rattle.qm_solids.specs.Holding.{IsInFrontOfNone}
use Rattle.qm_surface.specs.Boundary.{IsOnNoOther}
use Rattle.qm_surface.specs.Cutting.{cutters}
use Rattle.qm_surface.proofs.Carving.{IsBehindAll, IsOffAll}

module _ (planes : List Plane) (n : ℕ) where
  -- what holds of the outward planes of the faces on other planes
  pub of_cutters : (Of : FaceRef → Type 0) (Has : Plane → Type 0) → ((face : FaceRef) → (face.plane ≡ n → ⊥) → Of face → Has (outward_of planes face)) → (faces : List FaceRef) → All Of faces → All Has (cutters planes n faces)
  of_cutters Of Has gives [] of = All-nil Has
  of_cutters Of Has gives (face ∷ faces) of =
      let rest = of_cutters Of Has gives faces (All-tail Of face faces of) in
      ⊎_elim
      (λ same. rw same.0 rest)
      (λ other. rw other.0 (All-cons Has (outward_of planes face) (cutters planes n faces) (gives face other.1 (All-head Of face faces of)) rest))
      (eqb_tells face.plane n)

  abbrev is_other : FaceRef → Bool
  is_other face = not (face.plane == n)

  -- the outward plane of each such face is one of them
  pub cutter_of : (faces : List FaceRef) (face : FaceRef) → Contains faces face → (face.plane ≡ n → ⊥) → Contains (cutters planes n faces) (outward_of planes face)
  cutter_of faces face among other = ⊎_elim
      (λ same. absurd (other same.1))
      (λ passes. Contains-map (outward_of planes) (filter is_other faces) face (Contains-filter is_other faces face among (ap not passes.0)))
      (eqb_tells face.plane n)

module _ (planes : List Plane) (n : ℕ) (x : Point) where
  pub off_cutters : (faces : List FaceRef) → IsOnNoOther planes n x → AreNumberedIn planes faces → IsOffAll x (cutters planes n faces)
  off_cutters faces only numbered =
      of_cutters planes n (λ face. face.plane < length planes) (λ g. IsOn g x → ⊥)
      (λ face other within on. other (only face.plane within ((turned_on face.out_is_front (plane_at planes face.plane) x).0 on)))
      faces numbered

  -- in front of no outward plane, and off all cutters: behind all of them
  pub held_behind : (faces : List FaceRef) → IsOnNoOther planes n x → AreNumberedIn planes faces → IsInFrontOfNone (outward_planes planes faces) x → IsBehindAll x (cutters planes n faces)
  held_behind faces only numbered held =
      let each = All-from_map (λ h. IsNotInFront h x) (outward_of planes) faces held in
      of_cutters planes n (λ face. (face.plane < length planes) × IsNotInFront (outward_of planes face) x) (λ g. IsBehind g x)
      (λ face other its. by_sign (value (outward_of planes face) x)
      (λ behind. behind)
      (λ on. absurd (other (only face.plane its.0 ((turned_on face.out_is_front (plane_at planes face.plane) x).0 on))))
      (λ ahead. let not = its.1 in absurd (omega (arith, ints, not, ahead))))
      faces (λ place d there. (numbered place d there, each place d there))

  -- behind all cutters, and on the plane itself: in front of no outward plane
  pub behind_held : (faces : List FaceRef) → IsOn (plane_at planes n) x → IsBehindAll x (cutters planes n faces) → IsInFrontOfNone (outward_planes planes faces) x
  behind_held faces on behind = All-map (λ h. IsNotInFront h x) (outward_of planes) faces (λ place d there. one (get_or faces place d) (Contains-get_or faces place d there))
    where
      one : (face : FaceRef) → Contains faces face → IsNotInFront (outward_of planes face) x
      one face among = ⊎_elim
          (λ same.
          let its = (turned_on face.out_is_front (plane_at planes face.plane) x).1 (subst (λ (k : ℕ). IsOn (plane_at planes k) x) (sym same.1) on) in
          omega (arith, ints, its))
          (λ other. let its = All-contains (λ g. IsBehind g x) (cutters planes n faces) (outward_of planes face) behind (cutter_of planes n faces face among other.1) in omega (arith, ints, its))
          (eqb_tells face.plane n)
