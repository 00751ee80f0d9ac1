-- The part of a face in the cube and behind other faces, one after another.
use Rattle.std.proofs.Common.{◌≡◌, ℕ, ◌<◌, ◌≤◌, ◌+◌, Bool, not, List, [], ◌∷◌, length, get_or, take, All, refl, sym, ap, ◌∙◌, subst, arith}
use Rattle.std.proofs.lemmas.Int.{ints}
use Rattle.std.proofs.lemmas.List.{take_all, take_more}
use Rattle.std.proofs.lemmas.List.Elements.{All-nil, All-same, All-more, All-take, All-head, Contains-get_or}
use Rattle.qm_lists.proofs.Elements.{All-first_part, All-last_part}
use Rattle.qm_space.specs.Plane.{Plane, flipped, IsOn}
use Rattle.qm_space.specs.Turned.{turned}
use Rattle.qm_space.proofs.Planes.{flipped_in_front}
use Rattle.qm_space.proofs.TurnedPlanes.{turned_other}
use Rattle.qm_convex.specs.Winding.{Winding}
use Rattle.qm_convex.specs.Cut.{IsPartInFront}
use Rattle.qm_convex.specs.World.{MissesCube, IsWorldPart}
use Rattle.qm_convex.proofs.Central.{has_a_point}
use Rattle.qm_solids.specs.declared.face.FaceRef.{FaceRef}
use Rattle.qm_solids.specs.Outward.{outward_of}
use Rattle.qm_solids.proofs.FaceSides.{plane_read}
use Rattle.qm_brush.specs.declared.fullness.FacePart.{FacePart}
use Rattle.qm_brush.specs.declared.fullness.FacePart.TheVariants.{Opposed, Missing, Present}
use Rattle.qm_brush.specs.inner.FaceParts.{inward_of, AreTurnedApart, IsBehindOther, IsFacePart, IsNarrowed, IsLost, IsNarrowing, IsPresent, IsMissing, IsOpposed, IsPartOfFace}

-- what holds of each element up to one holds of those before it, and of that one
of_more : {X : Type 0} (P : X → Type 0) (xs : List X) (i : ℕ) (d : X) → i < length xs → All P (take (i + 1) xs) → All P (take i xs) × P (get_or xs i d)
of_more P xs i d within all =
    let both = subst (All P) (take_more xs i d within) all in
    (All-first_part P (take i xs) (get_or xs i d ∷ []) both, All-head P (get_or xs i d) [] (All-last_part P (take i xs) (get_or xs i d ∷ []) both))

-- ---- behind one other face

-- the inner side of a face's plane
pub inner_plane : (planes : List Plane) (other : FaceRef) (h : Plane) (side : Bool) → other.plane < length planes → h ≡ get_or planes other.plane h → side ≡ not other.out_is_front → turned side h ≡ inward_of planes other
inner_plane planes other h side within is its =
    ap (λ (b : Bool). turned b h) its ∙ turned_other other.out_is_front h ∙ ap (λ (g : Plane). flipped (turned other.out_is_front g)) (sym (plane_read planes other.plane h within is))

module _ (planes : List Plane) (face other : FaceRef) (before after : Winding) where
  -- one on another plane leaves what is behind it
  pub behind_keeps : (other.plane ≡ face.plane → ⊥) → IsPartInFront after before (inward_of planes other) → IsNarrowed planes face other before after
  behind_keeps apart part = record {
    convex = part.convex;
    points = λ x. (
      (λ inside. let both = (part.points x).0 inside in (both.0, λ other_plane. (flipped_in_front (outward_of planes other) x).0 both.1)),
      (λ both. (part.points x).1 (both.0, (flipped_in_front (outward_of planes other) x).1 (both.1 apart))),
    );
    not_apart = λ turned_apart. apart turned_apart.one_plane;
  }

-- ---- one face after another

module _ (planes : List Plane) (faces : List FaceRef) (face : FaceRef) where
  -- the plane of the face misses the cube
  pub missed_plane : (h : Plane) → face.plane < length planes → h ≡ get_or planes face.plane h → MissesCube h → IsMissing planes faces face
  missed_plane h within is misses x on_part =
      misses x on_part.in_cube (subst (λ (g : Plane). IsOn g x) (plane_read planes face.plane h within is) on_part.on)

  -- the part of the plane inside the cube
  pub part_of_plane : (h : Plane) (part : Winding) → face.plane < length planes → h ≡ get_or planes face.plane h → IsWorldPart part h → IsFacePart planes (take 0 faces) face part
  part_of_plane h part within is world =
      let its = plane_read planes face.plane h within is in
      record {
        convex = world.convex;
        points = λ x. (
          (λ inside. let both = (world.points x).0 inside in record { in_cube = both.1; on = subst (λ (g : Plane). IsOn g x) (sym its) both.0; behind = All-nil (IsBehindOther planes face x) }),
          (λ on_part. (world.points x).1 (subst (λ (g : Plane). IsOn g x) its on_part.on, on_part.in_cube)),
        );
        none_apart = All-nil (λ other. AreTurnedApart face other → ⊥);
      }

  module _ (i : ℕ) (d : FaceRef) (within : i < length faces) where
    pub part_more : (before after : Winding) → IsFacePart planes (take i faces) face before → IsNarrowed planes face (get_or faces i d) before after → IsFacePart planes (take (i + 1) faces) face after
    part_more before after part narrowed = record {
      convex = narrowed.convex;
      points = λ x. (
        (λ inside.
            let both = (narrowed.points x).0 inside in
            let on_part = (part.points x).0 both.0 in
            record { in_cube = on_part.in_cube; on = on_part.on; behind = All-more (IsBehindOther planes face x) faces i d within on_part.behind both.1 }),
        (λ on_part. (narrowed.points x).1 (
          (part.points x).1 (record { in_cube = on_part.in_cube; on = on_part.on; behind = (of_more (IsBehindOther planes face x) faces i d within on_part.behind).0 }),
          (of_more (IsBehindOther planes face x) faces i d within on_part.behind).1,
        )),
      );
      none_apart = All-more (λ other. AreTurnedApart face other → ⊥) faces i d within part.none_apart narrowed.not_apart;
    }

    -- nothing is left
    pub part_lost : (before : Winding) → IsFacePart planes (take i faces) face before → IsLost planes face (get_or faces i d) before → IsMissing planes faces face
    part_lost before part lost x on_part =
        let inside = (part.points x).1 (record { in_cube = on_part.in_cube; on = on_part.on; behind = All-take (IsBehindOther planes face x) i faces on_part.behind }) in
        let behind = on_part.behind i d within lost.other_plane in
        let not = lost.none_behind x inside in
        let in_front = (flipped_in_front (outward_of planes (get_or faces i d)) x).1 behind in
        absurd (omega (arith, ints, not, in_front))

    pub opposed_at : AreTurnedApart face (get_or faces i d) → IsOpposed faces face
    opposed_at apart = record { other = get_or faces i d; among = Contains-get_or faces i d within; apart = apart }

    pub some_left : (found : FacePart) (before after : Winding) → found ≡ Present → IsFacePart planes (take i faces) face before → IsNarrowing found planes face (get_or faces i d) before after → IsFacePart planes (take (i + 1) faces) face after
    some_left found before after is part narrowed =
        part_more before after part (subst (λ (f : FacePart). IsNarrowing f planes face (get_or faces i d) before after) is narrowed)

    -- what there is of the face after this one, if that is not some point
    pub none_left : (found : FacePart) (before after : Winding) → (found ≡ Present → ⊥) → IsFacePart planes (take i faces) face before → IsNarrowing found planes face (get_or faces i d) before after → IsPartOfFace found planes faces face
    none_left Opposed before after not part found = opposed_at found
    none_left Missing before after not part found = part_lost before part found
    none_left Present before after not part found = absurd (not refl)

  -- all faces are gone through
  pub part_left : (i : ℕ) (part : Winding) → length faces ≤ i → IsFacePart planes (take i faces) face part → IsPresent planes faces face
  part_left i part past its =
      let point = has_a_point part its.convex in
      let on_part = (its.points point.0).0 point.1 in
      record {
        some = point.0;
        on_part = record { in_cube = on_part.in_cube; on = on_part.on; behind = All-same (IsBehindOther planes face point.0) faces (take i faces) (sym (take_all i faces past)) on_part.behind };
        none_apart = All-same (λ other. AreTurnedApart face other → ⊥) faces (take i faces) (sym (take_all i faces past)) its.none_apart;
      }
