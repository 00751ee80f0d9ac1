-- What there is of the faces of a brush decides whether it is full.
use Rattle.std.proofs.Common.{◌≡◌, ℕ, ◌<◌, ◌≤◌, ◌+◌, ⊎_elim, Bool, true, false, List, [], length, get_or, take, All, Contains, refl, sym, ◌∙◌, subst}
use Rattle.std.specs.Bool.{MatchBool}
use Rattle.std.proofs.lemmas.Bool.{cases_eq}
use Rattle.std.proofs.lemmas.List.{take_all}
use Rattle.std.proofs.lemmas.List.Elements.{All-nil, All-same, All-more, All-contains, Contains-get_or}
use Rattle.qm_lists.proofs.Mapped.{Contains-from_map}
use Rattle.qm_space.specs.Plane.{Plane, IsBehind, IsInFront}
use Rattle.qm_space.specs.Turned.{turned}
use Rattle.qm_space.specs.Book.{plane_at, AreBookPlanes}
use Rattle.qm_solids.specs.declared.face.FaceRef.{FaceRef}
use Rattle.qm_solids.specs.Outward.{outward_of, AreNumberedIn}
use Rattle.qm_solids.specs.Holding.{IsFull, IsInside}
use Rattle.qm_solids.specs.Candidates.{IsOnFace}
use Rattle.qm_solids.specs.Uniform.{MeetsNoFace}
use Rattle.qm_solids.proofs.FlatSolids.{AreOpposed, HasOpposedPlanes, behind_one_alone, opposed_is_flat}
use Rattle.qm_solids.proofs.PlanesInCommon.{turned_lies_on, lies_on_back, same_face}
use Rattle.qm_solids.proofs.BookFaces.{opposed_numbers, opposed_by_sides_of_one, outward_listed, on_face_by_numbers, behind_other_numbers}
use Rattle.qm_solids.proofs.FullSolids.{full_by_face, full_by_middle, middle_of_cube}
use Rattle.qm_brush.specs.declared.fullness.FacePart.{FacePart}
use Rattle.qm_brush.specs.declared.fullness.FacePart.TheVariants.{Opposed, Missing, Present}
use Rattle.qm_brush.specs.inner.FaceParts.{AreTurnedApart, IsBehindOther, IsPresent, IsMissing, IsOpposed, IsPartOfFace}
use Rattle.qm_brush.specs.inner.Fullness.{solid_behind}

same_flag : (a b : Bool) → ((b ≡ a → ⊥) → ⊥) → b ≡ a
same_flag true true not_apart = refl
same_flag true false not_apart = absurd (not_apart (λ e. cc))
same_flag false true not_apart = absurd (not_apart (λ e. cc))
same_flag false false not_apart = refl

module _ (planes : List Plane) (faces : List FaceRef) (book : AreBookPlanes planes) (numbered : AreNumberedIn planes faces) where
  in_book : (face : FaceRef) → Contains faces face → face.plane < length planes
  in_book face among = All-contains (λ f. f.plane < length planes) faces face numbered among

  listed : (face : FaceRef) → Contains faces face → Contains (solid_behind planes faces).outward (outward_of planes face)
  listed face among =
      outward_listed planes book (solid_behind planes faces) faces refl numbered face.plane (in_book face among) [] middle_of_cube face among

  -- ---- a face of which there is some point

  module _ (face : FaceRef) (among : Contains faces face) (present : IsPresent planes faces face) where
    behind : (other : FaceRef) → Contains faces other → (other.plane ≡ face.plane → ⊥) → IsBehind (outward_of planes other) present.some
    behind other its apart = All-contains (IsBehindOther planes face present.some) faces other present.on_part.behind its apart

    same_side : (other : FaceRef) → Contains faces other → other.plane ≡ face.plane → other.out_is_front ≡ face.out_is_front
    same_side other its one =
        same_flag face.out_is_front other.out_is_front
        (λ apart. All-contains (λ f. AreTurnedApart face f → ⊥) faces other present.none_apart its (record { one_plane = one; apart = apart }))

    -- two of its faces are not opposed: their flags differ, or the point is behind both
    not_opposed : (one other : FaceRef) → Contains faces one → Contains faces other → AreOpposed (outward_of planes one) (outward_of planes other) → ⊥
    not_opposed one other one_in other_in opposed =
        let both = opposed_numbers planes book one.plane other.plane (in_book one one_in) (in_book other other_in) one.out_is_front other.out_is_front opposed in
        ⊎_elim
        (λ same. both.1 (same_side one one_in same ∙ sym (same_side other other_in (sym both.0 ∙ same))))
        (λ apart. behind_one_alone (outward_of planes one) (outward_of planes other) present.some opposed (behind one one_in apart) (behind other other_in (λ same. apart (both.0 ∙ same))))
        (cases_eq one.plane face.plane)

    free_of_opposed : HasOpposedPlanes (solid_behind planes faces) → ⊥
    free_of_opposed has =
        let first = Contains-from_map (outward_of planes) faces has.one has.has_one in
        let second = Contains-from_map (outward_of planes) faces has.other has.has_other in
        not_opposed first.0 second.0 first.1 second.1
        (subst (λ (h : Plane). AreOpposed h (outward_of planes second.0)) (sym first.2) (subst (λ (h : Plane). AreOpposed has.one h) (sym second.2) has.opposed))

    on_face : IsOnFace (solid_behind planes faces) [] (outward_of planes face) present.some
    on_face =
        same_face (solid_behind planes faces) [] (plane_at planes face.plane) (outward_of planes face) present.some
        (lies_on_back (outward_of planes face) (plane_at planes face.plane) (turned_lies_on face.out_is_front (plane_at planes face.plane)))
        (on_face_by_numbers planes book (solid_behind planes faces) faces refl numbered face.plane (in_book face among) [] present.some
        present.on_part.in_cube (All-nil (λ h. IsInFront h present.some)) present.on_part.on behind)

    pub present_full : IsFull (solid_behind planes faces)
    present_full = full_by_face (solid_behind planes faces) (outward_of planes face) present.some free_of_opposed (listed face among) on_face

  -- ---- two faces that are opposed

  pub opposed_flat : (face : FaceRef) → Contains faces face → IsOpposed faces face → IsFull (solid_behind planes faces) → ⊥
  opposed_flat face among has = opposed_is_flat (solid_behind planes faces) (record {
    one = outward_of planes has.other;
    other = outward_of planes face;
    has_one = listed has.other has.among;
    has_other = listed face among;
    opposed = subst (λ (n : ℕ). AreOpposed (turned has.other.out_is_front (plane_at planes n)) (outward_of planes face)) (sym has.apart.one_plane)
        (opposed_by_sides_of_one (plane_at planes face.plane) has.other.out_is_front face.out_is_front has.apart.apart);
  })

  -- ---- no face of which there is a point

  pub missing_meets_none : All (IsMissing planes faces) faces → MeetsNoFace (solid_behind planes faces) []
  missing_meets_none missing h x among met =
      let face = Contains-from_map (outward_of planes) faces h among in
      let on = same_face (solid_behind planes faces) [] (outward_of planes face.0) (plane_at planes face.0.plane) x
      (turned_lies_on face.0.out_is_front (plane_at planes face.0.plane)) (subst (λ (g : Plane). IsOnFace (solid_behind planes faces) [] g x) (sym face.2) met) in
      let others = behind_other_numbers planes book (solid_behind planes faces) faces refl numbered face.0.plane (in_book face.0 face.1) [] x on in
      All-contains (IsMissing planes faces) faces face.0 missing face.1 x (record {
        in_cube = on.in_cube;
        on = on.on;
        behind = λ k d within apart. others (get_or faces k d) (Contains-get_or faces k d within) apart;
      })

  -- ---- what the code finds

  pub full_at : (part : FacePart) (k : ℕ) (d : FaceRef) → k < length faces → part ≡ Present → IsPartOfFace part planes faces (get_or faces k d) → IsFull (solid_behind planes faces)
  full_at part k d within is found =
      present_full (get_or faces k d) (Contains-get_or faces k d within) (subst (λ (p : FacePart). IsPartOfFace p planes faces (get_or faces k d)) is found)

  pub flat_at : (part : FacePart) (k : ℕ) (d : FaceRef) → k < length faces → part ≡ Opposed → IsPartOfFace part planes faces (get_or faces k d) → IsFull (solid_behind planes faces) → ⊥
  flat_at part k d within is found =
      opposed_flat (get_or faces k d) (Contains-get_or faces k d within) (subst (λ (p : FacePart). IsPartOfFace p planes faces (get_or faces k d)) is found)

  pub missing_more : (part : FacePart) (k : ℕ) (d : FaceRef) → k < length faces → part ≡ Missing → IsPartOfFace part planes faces (get_or faces k d) → All (IsMissing planes faces) (take k faces) → All (IsMissing planes faces) (take (k + 1) faces)
  missing_more part k d within is found before =
      All-more (IsMissing planes faces) faces k d within before (subst (λ (p : FacePart). IsPartOfFace p planes faces (get_or faces k d)) is found)

  pub middle_tells : (k : ℕ) (test : Bool) → length faces ≤ k → All (IsMissing planes faces) (take k faces) →
      MatchBool test (IsInside (solid_behind planes faces) middle_of_cube) (IsInside (solid_behind planes faces) middle_of_cube → ⊥) →
      MatchBool test (IsFull (solid_behind planes faces)) (IsFull (solid_behind planes faces) → ⊥)
  middle_tells k test past missing =
      let all = All-same (IsMissing planes faces) faces (take k faces) (sym (take_all k faces past)) missing in
      let iff = full_by_middle (solid_behind planes faces) (missing_meets_none all) in
      by_test test iff.0 iff.1
    where
      by_test : (test : Bool) → (IsFull (solid_behind planes faces) → IsInside (solid_behind planes faces) middle_of_cube) → (IsInside (solid_behind planes faces) middle_of_cube → IsFull (solid_behind planes faces)) →
          MatchBool test (IsInside (solid_behind planes faces) middle_of_cube) (IsInside (solid_behind planes faces) middle_of_cube → ⊥) →
          MatchBool test (IsFull (solid_behind planes faces)) (IsFull (solid_behind planes faces) → ⊥)
      by_test true there back inside = back inside
      by_test false there back outside = λ full. outside (there full)
