-- A brush that is added to a list.
use Rattle.std.proofs.Common.{◌≡◌, ℕ, ℤ, ◌-◌, ◌<◌, ◌^◌, Bool, true, false, List, [], ◌∷◌, ◌++◌, length, get_or, take, drop, map, All, Result, Ok, Err, inl, inr, refl, sym, ap, ◌∙◌, subst, arith}
use Rattle.std.specs.Prelude.{IsOk}
use Rattle.std.specs.List.{AllZip}
use Rattle.std.specs.Bool.{MatchBool}
use Rattle.std.proofs.lemmas.Bool.{cases_lt}
use Rattle.std.proofs.lemmas.List.{take_all, take-append-le, drop-append-le, drop_at, map-append, length-append, length-map, length-take, length-drop, get_or_past}
use Rattle.std.proofs.lemmas.List.Elements.{All-nil, All-head, All-tail, All-push}
use Rattle.qm_space.specs.Point.{AreThousandths, IsThousandths}
use Rattle.qm_space.specs.Plane.{Plane}
use Rattle.qm_space.specs.Multiple.{IsPositiveMultiple}
use Rattle.qm_space.specs.ThreePoints.{IsPlaneThrough, IsPlaneTooFine}
use Rattle.qm_space.specs.Line.{AreOnOneLine}
use Rattle.qm_space.specs.Turned.{turned}
use Rattle.qm_space.specs.Book.{AreBookPlanes}
use Rattle.qm_space.specs.Cell.{IsInCell}
use Rattle.qm_space.proofs.CoordinateSizes.{thousandths_in_closed_cube}
use Rattle.qm_space.proofs.Lines.{thousandths_weights}
use Rattle.qm_space.proofs.PlanesThroughPoints.{plane_through_fine}
use Rattle.qm_geom.specs.declared.through_fault.ThroughFault.{ThroughFault}
use Rattle.qm_geom.specs.declared.through_fault.ThroughFault.TheVariants.{NoNormal, TooFine}
use Rattle.qm_mapfile.specs.declared.face.Face.{Face}
use Rattle.qm_mapfile.specs.declared.entity.Brush.{Brush}
use Rattle.qm_mapfile.specs.Face.{point_at, GivePlane, face_point, face_outward, face_plane, HasPlane}
use Rattle.qm_grammar.specs.Valid.{IsValidFace}
use Rattle.qm_solids.specs.declared.face.FaceRef.{FaceRef}
use Rattle.qm_solids.specs.Solid.{Solid}
use Rattle.qm_solids.specs.Holding.{IsFull}
use Rattle.qm_solids.specs.Outward.{outward_of, outward_planes, AreNumberedIn}
use Rattle.qm_solids.specs.InBook.{BookSolid, solid_in}
use Rattle.qm_brush.specs.declared.entry.Entry.{Entry}
use Rattle.qm_brush.specs.inner.Entries.{faces_of_entry, solid_of_entry, solids_of_entries, IsWithin, AreWithin}
use Rattle.qm_brush.specs.inner.Entered.{turned_outward, AreFacesEntered}
use Rattle.qm_brush.specs.inner.Fullness.{solid_behind}
use Rattle.qm_brush.specs.inner.Added.{IsBrushAdded}

-- ---- the planes of a face

-- a point of a face has coordinates in the closed cube
pub coordinates_at : (points : List (List ℤ)) (k : ℕ) → All AreThousandths points → AreThousandths (get_or points k [])
coordinates_at points k coordinates = elim (cases_lt k (length points)) [
  | inl within ↦ coordinates k [] within
  | inr past ↦ subst AreThousandths (sym (get_or_past points k [] past)) (All-nil IsThousandths)
]

-- a face with such points that gives a plane
pub face_through : (face : Face) → All AreThousandths face.points → HasPlane face → IsPlaneThrough (face_point face 0) (face_point face 1) (face_point face 2) (face_plane face).0 (face_plane face).1
face_through face coordinates plane =
    plane_through_fine (face_point face 0) (face_point face 1) (face_point face 2)
    (thousandths_in_closed_cube (get_or face.points 1 []) (coordinates_at face.points 1 coordinates))
    (thousandths_weights (get_or face.points 0 []) (get_or face.points 1 []) (get_or face.points 2 []))
    plane.spans plane.not_too_fine

-- the outward plane of a valid face is a positive multiple of its plane in lowest terms, turned outward
outward_multiple : (face : Face) → IsValidFace face → IsPositiveMultiple (face_outward face) (turned_outward face_plane face)
outward_multiple face valid = (face_through face valid.coordinates valid.plane).multiple

-- the plane through three points that give one is answered
pub ok_if_plane : {T : Type 0} (points : List (List ℤ)) (answer : Result T ThroughFault) → (◌≡◌ {A = Result T ThroughFault} answer (Err NoNormal) → AreOnOneLine (point_at points 0) (point_at points 1) (point_at points 2)) → (◌≡◌ {A = Result T ThroughFault} answer (Err TooFine) → IsPlaneTooFine (point_at points 0) (point_at points 1) (point_at points 2)) → GivePlane points → IsOk answer
ok_if_plane points (Ok plane) line found gives = refl
ok_if_plane points (Err NoNormal) line found gives = absurd (gives.spans (line refl))
ok_if_plane points (Err TooFine) line found gives = absurd (gives.not_too_fine (found refl))

pub outward_multiples : (faces : List Face) → All IsValidFace faces → AllZip IsPositiveMultiple (map face_outward faces) (map (turned_outward face_plane) faces)
outward_multiples [] valid = tt
outward_multiples (face ∷ faces) valid = (outward_multiple face (All-head IsValidFace face faces valid), outward_multiples faces (All-tail IsValidFace face faces valid))

-- ---- fullness

-- solids behind the same planes are full together
full_with_planes : (solid other : Solid) → solid.outward ≡ other.outward → IsFull solid → IsFull other
full_with_planes solid other same full = record {
  within = full.within;
  in_cube = full.in_cube;
  inside = subst (λ (planes : List Plane). IsInCell (map (turned false) planes) full.within) same full.inside;
}

pub flag_with_planes : (flag : Bool) (solid other : Solid) → solid.outward ≡ other.outward → MatchBool flag (IsFull solid) (IsFull solid → ⊥) → MatchBool flag (IsFull other) (IsFull other → ⊥)
flag_with_planes true solid other same full = full_with_planes solid other same full
flag_with_planes false solid other same flat = λ full. flat (full_with_planes other solid (sym same) full)

-- ---- entries

-- the brushes of a list whose faces are followed by more
faces_before : (faces more : List FaceRef) (entry : Entry) → IsWithin faces entry → faces_of_entry (faces ++ more) entry ≡ faces_of_entry faces entry
faces_before faces more entry within =
    let ordered = within.ordered in
    let bounded = within.bounded in
    ap (λ (those : List FaceRef). take (entry.end - entry.start) those) (drop-append-le entry.start faces more (omega arith))
    ∙ take-append-le (entry.end - entry.start) (drop entry.start faces) more (let n = length-drop entry.start faces in omega arith)

abbrev with_faces : Entry → List FaceRef → BookSolid
with_faces entry its = record { contents = entry.contents; full = entry.full; faces = its }

solids_before : (faces more : List FaceRef) (entries : List Entry) → AreWithin faces entries → solids_of_entries (faces ++ more) entries ≡ solids_of_entries faces entries
solids_before faces more [] within = refl
solids_before faces more (entry ∷ entries) within =
    let first = ap (with_faces entry) (faces_before faces more entry (All-head (IsWithin faces) entry entries within)) in
    let rest = solids_before faces more entries (All-tail (IsWithin faces) entry entries within) in
    ap (λ (s : BookSolid). s ∷ solids_of_entries (faces ++ more) entries) first ∙ ap (λ (those : List BookSolid). solid_of_entry faces entry ∷ those) rest

-- the list stays one where faces follow
pub longer_within : (faces after more : List FaceRef) (entries : List Entry) → after ≡ faces ++ more → AreWithin faces entries → AreWithin after entries
longer_within faces after more entries added within = λ k d there.
    let its = within k d there in
    let ordered = its.ordered in
    let bounded = its.bounded in
    let n = ap (λ (those : List FaceRef). length those) added in
    let m = length-append faces more in
    record { ordered = ordered; bounded = omega arith; few = its.few }

-- an entry has no more faces than 32 bits can count
pub length-faces_of_entry : (faces : List FaceRef) (entry : Entry) → IsWithin faces entry → length (faces_of_entry faces entry) < 2 ^ 32
length-faces_of_entry faces entry within =
    let few = within.few in
    let n = length-take (entry.end - entry.start) (drop entry.start faces) in
    omega (arith, few, n)

-- the faces that follow are those of an entry that begins there
faces_after : (faces more : List FaceRef) (entry : Entry) → entry.start ≡ length faces → entry.end ≡ length (faces ++ more) → faces_of_entry (faces ++ more) entry ≡ more
faces_after faces more entry starts ends =
    ap (λ (those : List FaceRef). take (entry.end - entry.start) those) (drop_at faces more entry.start (sym starts))
    ∙ take_all (entry.end - entry.start) more (let n = length-append faces more in omega arith)

-- ---- the brush that is added

module _ {F : Type 0} (side_of : F → Plane × Bool) (sides : List F) (faces after : List FaceRef) (entries : List Entry) (entry : Entry) (old new : List Plane) (entered : AreFacesEntered side_of sides faces after old new) (starts : entry.start ≡ length faces) (ends : entry.end ≡ length after) where
  its_faces : faces_of_entry after entry ≡ entered.its
  its_faces =
      ap (λ (those : List FaceRef). faces_of_entry those entry) entered.added
      ∙ faces_after faces entered.its entry starts (ends ∙ ap (λ (those : List FaceRef). length those) entered.added)

  pub its_numbered : AreNumberedIn new (faces_of_entry after entry)
  its_numbered = subst (AreNumberedIn new) (sym its_faces) entered.numbered

  pub its_outward : outward_planes new (faces_of_entry after entry) ≡ map (turned_outward side_of) sides
  its_outward = ap (outward_planes new) its_faces ∙ entered.outward

  -- as many faces as there are
  its_count : length entered.its ≡ length sides
  its_count =
      sym (length-map entered.its (outward_of new)) ∙ ap (λ (planes : List Plane). length planes) entered.outward ∙ length-map sides (turned_outward side_of)

  pub one_more_within : length sides < 2 ^ 32 → AreWithin faces entries → AreWithin after (entries ++ entry ∷ [])
  one_more_within few within =
      let count = its_count in
      let n = ap (λ (those : List FaceRef). length those) entered.added in
      let m = length-append faces entered.its in
      All-push (IsWithin after) entries entry (longer_within faces after entered.its entries entered.added within) (record { ordered = omega arith; bounded = omega arith; few = omega (arith, n, m, count, few, starts, ends) })

  -- the list has the entry at its end
  pub entry_added : AreWithin faces entries → solids_of_entries after (entries ++ entry ∷ []) ≡ solids_of_entries faces entries ++ solid_of_entry after entry ∷ []
  entry_added within =
      map-append (solid_of_entry after) entries (entry ∷ [])
      ∙ ap (λ (those : List BookSolid). those ++ solid_of_entry after entry ∷ [])
      (ap (λ (refs : List FaceRef). solids_of_entries refs entries) entered.added ∙ solids_before faces entered.its entries within)

module _ (brush : Brush) (faces after : List FaceRef) (entries : List Entry) (entry : Entry) (old new : List Plane) (entered : AreFacesEntered face_plane brush.faces faces after old new) (starts : entry.start ≡ length faces) (ends : entry.end ≡ length after) where
  pub brush_added : All IsValidFace brush.faces → AreWithin faces entries → AreBookPlanes new →
      MatchBool entry.full (IsFull (solid_behind new (faces_of_entry after entry))) (IsFull (solid_behind new (faces_of_entry after entry)) → ⊥) →
      IsBrushAdded brush entry.contents (solids_of_entries faces entries) (solids_of_entries after (entries ++ entry ∷ [])) old new
  brush_added valid within book full = record {
    its = solid_of_entry after entry;
    added = entry_added face_plane brush.faces faces after entries entry old new entered starts ends within;
    kept = record {
      numbered = its_numbered face_plane brush.faces faces after entries entry old new entered starts ends;
      flag = flag_with_planes entry.full (solid_behind new (faces_of_entry after entry)) (solid_in new (solid_of_entry after entry)) refl full;
    };
    alike = record {
      same_contents = refl;
      multiples =
          subst (λ (planes : List Plane). AllZip IsPositiveMultiple (map face_outward brush.faces) planes)
          (sym (its_outward face_plane brush.faces faces after entries entry old new entered starts ends)) (outward_multiples brush.faces valid);
    };
    planes = book;
    entered = entered.entered;
  }
