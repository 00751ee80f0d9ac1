-- The obstacles among brushes, added to a list behind moved planes.
use Rattle.std.proofs.Common.{◌≡◌, ℕ, ◌<◌, ◌≤◌, ◌+◌, inl, inr, Bool, true, false, Result, Ok, Err, List, [], ◌∷◌, ◌++◌, length, get_or, take, drop, map, All, refl, sym, ap, ◌∙◌, subst, arith}
use Rattle.std.specs.Prelude.{sum_by, flat_map, IfOk}
use Rattle.std.specs.List.{AllZip}
use Rattle.std.specs.Bool.{MatchBool}
use Rattle.std.proofs.lemmas.Grind.{flat_map-append}
use Rattle.std.proofs.lemmas.List.{take_all, take_more, take_at, drop_more, append_assoc, append-nil, map-append, take-append-drop, length-append, length-map}
use Rattle.std.proofs.lemmas.List.Sums.{sum_by-cons, sum_by-take-le}
use Rattle.std.proofs.lemmas.List.Elements.{AllZip-push, All-nil, All-push}
use Rattle.qm_space.specs.Plane.{Plane}
use Rattle.qm_space.specs.Multiple.{IsPositiveMultiple}
use Rattle.qm_space.specs.Book.{AreBookPlanes}
use Rattle.qm_space.specs.Cuboid.{Cuboid}
use Rattle.qm_space.specs.Entered.{AreEnteredInBook, none as none_in_book}
use Rattle.qm_geom.proofs.EnteredPlanes.{more_entered, all_stay, length-all_entered}
use Rattle.qm_mapfile.specs.declared.entity.Brush.{Brush}
use Rattle.qm_mapfile.specs.Face.{face_outward, face_plane}
use Rattle.qm_contents.specs.declared.contents.Contents.TheVariants.{Solid as Stone}
use Rattle.qm_grammar.specs.Valid.{IsValidFace}
use Rattle.qm_solids.specs.declared.face.FaceRef.{FaceRef}
use Rattle.qm_solids.specs.Solid.{Solid}
use Rattle.qm_solids.specs.Alike.{IsAlike}
use Rattle.qm_solids.specs.Holding.{IsFull}
use Rattle.qm_solids.specs.Outward.{outward_planes}
use Rattle.qm_solids.specs.InBook.{BookSolid, solid_in, solids_in, IsKeptIn}
use Rattle.qm_solids.proofs.AlikeSolids.{full_there, full_back}
use Rattle.qm_blocking.specs.Moved.{HasOrigin}
use Rattle.qm_blocking.specs.Blocking.{solid_part, IsObstacle, AreObstacles, none, counted, left_out}
use Rattle.qm_blocking.specs.MovedSolids.{moved_part, moved_parts, moved_side, moved_planes_of_brush, moved_planes, moved_plane_of_face}
use Rattle.qm_blocking.proofs.MovedParts.{moved_full}
use Rattle.qm_blocking.proofs.Obstacles.{one_obstacles, one_more_obstacle, one_more_left_out, first_ones}
use Rattle.qm_brush.specs.declared.entry.Entry.{Entry}
use Rattle.qm_brush.specs.inner.Entries.{solid_of_entry, solids_of_entries, AreWithin}
use Rattle.qm_brush.specs.inner.Entered.{AreFirstEntered, AreFacesEntered, turned_outward}
use Rattle.qm_brush.specs.inner.Fullness.{solid_behind}
use Rattle.qm_brush.specs.inner.MovedAdded.{IsMovedAdded, IsMovedIfObstacle, IsPartlyEntered, AreMovedIn}
use Rattle.qm_brush.proofs.EnteredFaces.{Stay}
use Rattle.qm_brush.proofs.AddedBrushes.{outward_multiples, its_numbered, its_outward, entry_added, flag_with_planes}
use Rattle.qm_brush.proofs.ListedBrushes.{all_kept, same_solids}
use Rattle.qm_brush.proofs.MovedFaces.{moved_outward_multiples}

-- ---- fullness, by a book of the brush's own

flag_of_alike : (flag : Bool) (solid other : Solid) → IsAlike solid other → MatchBool flag (IsFull other) (IsFull other → ⊥) → MatchBool flag (IsFull solid) (IsFull solid → ⊥)
flag_of_alike true solid other alike full = full_back solid other alike full
flag_of_alike false solid other alike flat = λ full. flat (full_there solid other alike full)

full_brush : (brush : Brush) (faces : List FaceRef) (book : List Plane) (full : Bool) → All IsValidFace brush.faces → AreFacesEntered face_plane brush.faces [] faces [] book →
    MatchBool full (IsFull (solid_behind book faces)) (IsFull (solid_behind book faces) → ⊥) → MatchBool full (IsFull (solid_part brush)) (IsFull (solid_part brush) → ⊥)
full_brush brush faces book full valid entered flag =
    let filled : Solid = record { contents = Stone; outward = outward_planes book faces } in
    let outward : outward_planes book faces ≡ map (turned_outward face_plane) brush.faces = ap (outward_planes book) entered.added ∙ entered.outward in
    let alike : IsAlike (solid_part brush) filled = record {
      same_contents = refl;
      multiples = subst (λ (planes : List Plane). AllZip IsPositiveMultiple (map face_outward brush.faces) planes) (sym outward) (outward_multiples brush.faces valid);
    } in
    flag_of_alike full (solid_part brush) filled alike (flag_with_planes full (solid_behind book faces) filled refl flag)

pub full_answer : {E : Type 0} (brush : Brush) (faces : List FaceRef) (book : List Plane) (answer : Result Bool E) → All IsValidFace brush.faces → AreFacesEntered face_plane brush.faces [] faces [] book →
    IfOk answer (λ full. MatchBool full (IsFull (solid_behind book faces)) (IsFull (solid_behind book faces) → ⊥)) → IfOk answer (λ full. MatchBool full (IsFull (solid_part brush)) (IsFull (solid_part brush) → ⊥))
full_answer brush faces book (Ok full) valid entered flag = full_brush brush faces book full valid entered flag
full_answer brush faces book (Err fault) valid entered flag = tt

-- ---- one brush

module _ (box : Cuboid) (brush : Brush) (faces after : List FaceRef) (entries : List Entry) (entry : Entry) (old new : List Plane) (entered : AreFacesEntered (moved_side box) brush.faces faces after old new) (starts : entry.start ≡ length faces) (ends : entry.end ≡ length after) where
  pub moved_added : entry.contents ≡ Stone → entry.full ≡ true → HasOrigin box → IsFull (solid_part brush) → All IsValidFace brush.faces → AreWithin faces entries → AreBookPlanes new →
      IsMovedAdded box brush (solids_of_entries faces entries) (solids_of_entries after (entries ++ entry ∷ [])) old new
  moved_added stone is_full origin full valid within book =
      let its : Solid = solid_in new (solid_of_entry after entry) in
      let alike : IsAlike (moved_part box brush) its = record {
        same_contents = sym stone;
        multiples =
            subst (λ (planes : List Plane). AllZip IsPositiveMultiple (moved_part box brush).outward planes)
            (sym (its_outward (moved_side box) brush.faces faces after entries entry old new entered starts ends)) (moved_outward_multiples box brush.faces valid);
      } in
      record {
        its = solid_of_entry after entry;
        added = entry_added (moved_side box) brush.faces faces after entries entry old new entered starts ends within;
        kept = record {
          numbered = its_numbered (moved_side box) brush.faces faces after entries entry old new entered starts ends;
          flag = subst (λ (flag : Bool). MatchBool flag (IsFull its) (IsFull its → ⊥)) (sym is_full) (full_there (moved_part box brush) its alike (moved_full box (solid_part brush) origin full));
        };
        alike = alike;
        planes = book;
        entered = entered.entered;
      }

-- ---- one more brush

module _ (box : Cuboid) (brushes : List Brush) (brush : Brush) (list after : List BookSolid) (old mid new : List Plane) (those : AreMovedIn box brushes list old mid) where
  one_more_moved : IsMovedIfObstacle box brush list after mid new → AreMovedIn box (brushes ++ brush ∷ []) after old new
  one_more_moved (inl taken) =
      let added = taken.1 in
      let stay : Stay mid new = all_stay mid new (moved_planes_of_brush box brush) added.entered in
      let list_solids : solids_in new after ≡ solids_in mid list ++ solid_in new added.its ∷ [] =
      ap (solids_in new) added.added ∙ map-append (solid_in new) list (added.its ∷ []) ∙ ap (λ (s : List Solid). s ++ solid_in new added.its ∷ []) (same_solids mid new stay list those.kept) in
      let its_planes : flat_map (moved_planes_of_brush box) (brush ∷ []) ≡ moved_planes_of_brush box brush = append-nil (moved_planes_of_brush box brush) in
      let planes_more : moved_planes box (those.those ++ brush ∷ []) ≡ moved_planes box those.those ++ moved_planes_of_brush box brush =
      flat_map-append (moved_planes_of_brush box) those.those (brush ∷ []) ∙ ap (λ (p : List Plane). moved_planes box those.those ++ p) its_planes in
      record {
        those = those.those ++ brush ∷ [];
        are = one_more_obstacle brushes those.those brush those.are taken.0;
        solids =
            subst (λ (s : List Solid). AllZip IsAlike s (solids_in new after)) (sym (map-append (moved_part box) those.those (brush ∷ [])))
            (subst (λ (s : List Solid). AllZip IsAlike (moved_parts box those.those ++ moved_part box brush ∷ []) s) (sym list_solids)
            (AllZip-push IsAlike (moved_parts box those.those) (solids_in mid list) (moved_part box brush) (solid_in new added.its) those.solids added.alike));
        kept = subst (All (IsKeptIn new)) (sym added.added) (All-push (IsKeptIn new) list added.its (all_kept mid new stay list those.kept) added.kept);
        planes = added.planes;
        entered =
            subst (λ (p : List Plane). AreEnteredInBook old p new) (sym planes_more)
            (more_entered old mid new (moved_planes box those.those) (moved_planes_of_brush box brush) those.entered added.entered);
      }
  one_more_moved (inr left) =
      rw (left.1.same_brushes, left.1.same_book) (record {
        those = those.those;
        are = one_more_left_out brushes those.those brush those.are left.0;
        solids = those.solids;
        kept = those.kept;
        planes = those.planes;
        entered = those.entered;
      })

-- ---- along a list of brushes

module _ (box : Cuboid) where
  pub none_moved : (brushes : List Brush) (book : List Plane) → AreBookPlanes book → AreMovedIn box (take 0 brushes) [] book book
  none_moved brushes book planes = record { those = []; are = none; solids = tt; kept = All-nil (IsKeptIn book); planes = planes; entered = none_in_book }

  -- no more planes than faces
  moved_few : (brushes those : List Brush) → AreObstacles brushes those → length (moved_planes box those) ≤ sum_by (λ brush. length brush.faces) brushes
  moved_few [] those none = omega arith
  moved_few (brush ∷ brushes) (it ∷ those) (counted obstacle are) =
      let rest = moved_few brushes those are in
      let n = length-append (moved_planes_of_brush box brush) (moved_planes box those) in
      let m = length-map brush.faces (moved_plane_of_face box) in
      omega (arith, n, m, rest, sum_by-cons (λ (b : Brush). length b.faces) brush brushes)
  moved_few (brush ∷ brushes) those (left_out not are) =
      let rest = moved_few brushes those are in
      omega (arith, rest, sum_by-cons (λ (b : Brush). length b.faces) brush brushes)

  -- an obstacle is the first of those among it and more brushes
  begins_with : (brush : Brush) (more rest : List Brush) → IsObstacle brush → AreObstacles (brush ∷ more) rest → (others : List Brush) × (rest ≡ brush ∷ others)
  begins_with brush more (it ∷ others) part (counted its_own are) = (others, refl)
  begins_with brush more rest part (left_out not are) = absurd (not part)

  -- where a first part entered
  entered_first : (old new whole front behind : List Plane) → whole ≡ front ++ behind → AreEnteredInBook old front new → (k : ℕ) × AreEnteredInBook old (take k whole) new
  entered_first old new whole front behind parts entered =
      (length front, subst (λ (p : List Plane). AreEnteredInBook old p new) (sym (ap (take (length front)) parts ∙ take_at front behind (length front) refl)) entered)

module _ (box : Cuboid) (brushes : List Brush) (i : ℕ) (list : List BookSolid) (old mid : List Plane) (those : AreMovedIn box (take i brushes) list old mid) where
  pub next_moved : (brush : Brush) (after : List BookSolid) (new : List Plane) → i < length brushes → brush ≡ get_or brushes i brush → IsMovedIfObstacle box brush list after mid new → AreMovedIn box (take (i + 1) brushes) after old new
  next_moved brush after new within is this =
      subst (λ (bs : List Brush). AreMovedIn box bs after old new) (sym (take_more brushes i brush within ∙ ap (λ (b : Brush). take i brushes ++ b ∷ []) (sym is)))
      (one_more_moved box (take i brushes) brush list after old mid new those this)

  pub all_moved : length brushes ≤ i → AreMovedIn box brushes list old mid
  all_moved past = subst (λ (bs : List Brush). AreMovedIn box bs list old mid) (take_all i brushes past) those

  -- the book has room for the faces of another brush
  pub length-moved : length mid ≤ length old + sum_by (λ brush. length brush.faces) brushes
  length-moved =
      let n = length-all_entered old mid (moved_planes box those.those) those.entered in
      let few = moved_few box (take i brushes) those.those those.are in
      let part = sum_by-take-le (λ (brush : Brush). length brush.faces) brushes i in
      omega (arith, n, few, part)

  -- want of memory at a brush: of the moved planes of the obstacles, whichever they are, first ones entered
  pub part_moved : (brush : Brush) (new : List Plane) → i < length brushes → brush ≡ get_or brushes i brush → IsPartlyEntered box brush mid new →
      (all : List Brush) → AreObstacles brushes all → (k : ℕ) × AreEnteredInBook old (take k (moved_planes box all)) new
  part_moved brush new within is partly all are =
      let parts : brushes ≡ take i brushes ++ brush ∷ drop (i + 1) brushes =
      sym (take-append-drop i brushes) ∙ ap (λ (bs : List Brush). take i brushes ++ bs) (drop_more brushes i brush within ∙ ap (λ (b : Brush). b ∷ drop (i + 1) brushes) (sym is)) in
      let first = first_ones (take i brushes) (brush ∷ drop (i + 1) brushes) all (subst (λ (bs : List Brush). AreObstacles bs all) parts are) in
      let same : first.first ≡ those.those = one_obstacles (take i brushes) first.first those.those first.are_first those.are in
      let whole : moved_planes box all ≡ moved_planes box those.those ++ moved_planes box first.rest =
      ap (moved_planes box) first.parts ∙ flat_map-append (moved_planes_of_brush box) first.first first.rest ∙ ap (λ (bs : List Brush). moved_planes box bs ++ moved_planes box first.rest) same in
      elim partly [
        | inl none_more ↦ subst (λ (book : List Plane). (k : ℕ) × AreEnteredInBook old (take k (moved_planes box all)) book) (sym none_more)
            (entered_first box old mid (moved_planes box all) (moved_planes box those.those) (moved_planes box first.rest) whole those.entered)
        | inr taken ↦ with_part brush new all first.rest (begins_with box brush (drop (i + 1) brushes) first.rest taken.0 first.are_rest) taken.1 whole
      ]
    where
      with_part : (brush : Brush) (new : List Plane) (all rest : List Brush) → (others : List Brush) × (rest ≡ brush ∷ others) → AreFirstEntered mid (moved_planes_of_brush box brush) new →
          moved_planes box all ≡ moved_planes box those.those ++ moved_planes box rest → (k : ℕ) × AreEnteredInBook old (take k (moved_planes box all)) new
      with_part brush new all rest begins part whole =
          let before : List Plane = moved_planes box those.those in
          let behind : List Plane = moved_planes box begins.0 in
          let parts : moved_planes box all ≡ (before ++ part.first) ++ (part.rest ++ behind) =
          whole ∙ ap (λ (bs : List Brush). before ++ moved_planes box bs) begins.1
          ∙ ap (λ (p : List Plane). before ++ (p ++ behind)) part.parts
          ∙ ap (λ (p : List Plane). before ++ p) (append_assoc part.first part.rest behind)
          ∙ sym (append_assoc before part.first (part.rest ++ behind)) in
          entered_first box old new (moved_planes box all) (before ++ part.first) (part.rest ++ behind) parts (more_entered old mid new before part.first those.entered part.entered)
