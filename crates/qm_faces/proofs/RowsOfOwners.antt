-- How rows of owners are made, brush by brush and face by face.
use Rattle.std.proofs.Common.{◌≡◌, ◌<◌, ◌≤◌, ◌==◌, ◌+◌, ◌*◌, ℕ, Bool, true, false, not, ◌&&◌, if◌then◌else◌, List, [], ◌∷◌, ◌++◌, All, take, drop, length, get_or, map, Option, Some, None, is_some, refl, sym, ap, ◌∙◌, subst, arith, ⊎_elim}
use Rattle.std.specs.Prelude.{option_to_list}
use Rattle.std.specs.List.{position_from}
use Rattle.std.proofs.lemmas.Bool.{and_from}
use Rattle.std.proofs.lemmas.Bool.Decides.{eqb_tells}
use Rattle.std.proofs.lemmas.List.{append_assoc, append-nil, take_more, drop_more, drop_all, length-take-le}
use Rattle.std.proofs.lemmas.List.Elements.{All-get_or}
use Rattle.qm_lists.proofs.Cases.{by_cases, both_yes}
use Rattle.qm_lists.proofs.Options.{none_from_is_some}
use Rattle.qm_contents.specs.declared.contents.Contents.TheVariants.{Empty}
use Rattle.qm_contacts.specs.NumberedLeaves.{is_solid}
use Rattle.qm_solids.specs.declared.face.FaceRef.{FaceRef}
use Rattle.qm_solids.specs.InBook.{BookSolid, solid_at}
use Rattle.qm_surface.specs.Owner.{FaceOwner, is_inner, is_towards, owning_face, owners_from}
use Rattle.qm_faces.specs.inner.Rows.{owner_at, key_of, row_of, AreOwnerRows, AreRowsSoFar, IsBrushAdded, first_owner_of, AreFacesAdded, IsFaceAdded, IsOwnerPushed}

-- ---- keys

pub key_within : (n planes : ℕ) (side : Bool) → n < planes → key_of n side < 2 * planes
key_within n planes true within = omega (arith, within)
key_within n planes false within = omega (arith, within)

same_key : (n m : ℕ) (s t : Bool) → key_of n s ≡ key_of m t → (n ≡ m) × (s ≡ t)
same_key n m true true e = (omega (arith, e), refl)
same_key n m true false e = absurd (omega (arith, e))
same_key n m false true e = absurd (omega (arith, e))
same_key n m false false e = (omega (arith, e), refl)

-- ---- the side of a face

inner_is : (face : FaceRef) (side : Bool) → side ≡ not face.out_is_front → is_inner face side ≡ true
inner_is face true e = sym e
inner_is face false e = double face.out_is_front e
  where
    double : (b : Bool) → false ≡ not b → b ≡ true
    double true e = refl
    double false e = absurd cc

inner_from : (face : FaceRef) (side : Bool) → is_inner face side ≡ true → side ≡ not face.out_is_front
inner_from face true e = sym e
inner_from face false e = double face.out_is_front e
  where
    double : (b : Bool) → b ≡ true → false ≡ not b
    double true e = refl
    double false e = absurd cc

towards_by : (n : ℕ) (side : Bool) (face : FaceRef) → n ≡ face.plane → side ≡ not face.out_is_front → is_towards n side face ≡ true
towards_by n side face number inner = and_from (face.plane == n) (is_inner face side) (⊎_elim (λ same. same.0) (λ other. absurd (other.1 (sym number))) (eqb_tells face.plane n)) (inner_is face side inner)

towards_is : (n : ℕ) (side : Bool) (face : FaceRef) → is_towards n side face ≡ true → (n ≡ face.plane) × (side ≡ not face.out_is_front)
towards_is n side face passes =
    let both = both_yes (face.plane == n) (is_inner face side) passes in
    (⊎_elim (λ same. sym same.1) (λ other. absurd (let e : true ≡ false = sym both.0 ∙ other.0 in cc)) (eqb_tells face.plane n), inner_from face side both.1)

-- ---- the first face that passes a test, with one face more

position_none : (test : FaceRef → Bool) (k : ℕ) (faces : List FaceRef) (face : FaceRef) → test face ≡ false → position_from test k (faces ++ face ∷ []) ≡ position_from test k faces
position_none test k [] face fails = rw fails refl
position_none test k (first ∷ faces) face fails = by_cases (test first) (λ yes. rw yes refl) (λ other. rw other (position_none test (k + 1) faces face fails))

-- by the test of the first one
module _ (A : Type 0) (a : A) (other : A) where
  taken : (b : Bool) → b ≡ true → (if b then a else other) ≡ a
  taken true e = refl
  taken false e = absurd cc

  passed : (b : Bool) → b ≡ false → (if b then a else other) ≡ other
  passed true e = absurd cc
  passed false e = refl

position_some : (test : FaceRef → Bool) (k : ℕ) (faces : List FaceRef) (face : FaceRef) (p : ℕ) → position_from test k faces ≡ Some p → position_from test k (faces ++ face ∷ []) ≡ Some p
position_some test k [] face p found = absurd cc
position_some test k (first ∷ faces) face p found = by_cases (test first)
    (λ yes. taken (Option ℕ) (Some k) (position_from test (k + 1) (faces ++ face ∷ [])) (test first) yes ∙ sym (taken (Option ℕ) (Some k) (position_from test (k + 1) faces) (test first) yes) ∙ found)
    (λ other.
    passed (Option ℕ) (Some k) (position_from test (k + 1) (faces ++ face ∷ [])) (test first) other
    ∙ position_some test (k + 1) faces face p (sym (passed (Option ℕ) (Some k) (position_from test (k + 1) faces) (test first) other) ∙ found))

position_last : (test : FaceRef → Bool) (k : ℕ) (faces : List FaceRef) (face : FaceRef) → position_from test k faces ≡ None → test face ≡ true → position_from test k (faces ++ face ∷ []) ≡ Some (k + length faces)
position_last test k [] face none passes = taken (Option ℕ) (Some k) None (test face) passes ∙ ap Some (omega arith)
position_last test k (first ∷ faces) face none passes = by_cases (test first)
    (λ yes. absurd (let e : Some k ≡ None = sym (taken (Option ℕ) (Some k) (position_from test (k + 1) faces) (test first) yes) ∙ none in cc))
    (λ other.
    let number : (k + 1) + length faces ≡ k + length (first ∷ faces) = omega arith in
    passed (Option ℕ) (Some k) (position_from test (k + 1) (faces ++ face ∷ [])) (test first) other
    ∙ position_last test (k + 1) faces face (sym (passed (Option ℕ) (Some k) (position_from test (k + 1) faces) (test first) other) ∙ none) passes
    ∙ ap Some number)

-- ---- one face

module _ (planes : ℕ) (faces : List FaceRef) (i brush : ℕ) (face : FaceRef) (within : i < length faces) (is : face ≡ get_or faces i face) where
  abbrev before_it : List FaceRef
  before_it = take i faces

  one_more : take (i + 1) faces ≡ before_it ++ face ∷ []
  one_more = take_more faces i face within ∙ ap (λ (f : FaceRef). before_it ++ f ∷ []) (sym is)

  -- the first face of its row before it
  abbrev own_position : Option ℕ
  own_position = position_from (is_towards face.plane (not face.out_is_front)) 0 before_it

  position_of_own : (n : ℕ) (side : Bool) → is_towards n side face ≡ true → position_from (is_towards n side) 0 before_it ≡ own_position
  position_of_own n side passes =
      let own = towards_is n side face passes in
      λ j. position_from (is_towards (own.0 j) (own.1 j)) 0 before_it

  unchanged : (n : ℕ) (side : Bool) → position_from (is_towards n side) 0 before_it ≡ position_from (is_towards n side) 0 (take (i + 1) faces) → first_owner_of before_it brush n side ≡ first_owner_of (take (i + 1) faces) brush n side
  unchanged n side same = ap (λ (p : Option ℕ). map (owner_at brush) (option_to_list p)) same

  not_towards : (n : ℕ) (side : Bool) → is_towards n side face ≡ false → position_from (is_towards n side) 0 before_it ≡ position_from (is_towards n side) 0 (take (i + 1) faces)
  not_towards n side fails = sym (ap (position_from (is_towards n side) 0) one_more ∙ position_none (is_towards n side) 0 before_it face fails)

  -- one of its row comes before it
  face_skipped : (p : ℕ) (old : List (List FaceOwner)) → own_position ≡ Some p → IsFaceAdded planes faces i brush old old
  face_skipped p old found = record {
    same_count = refl;
    added = λ n side there before row. row ∙ ap (λ (os : List FaceOwner). before ++ os) (unchanged n side (same n side));
  }
    where
      same : (n : ℕ) (side : Bool) → position_from (is_towards n side) 0 before_it ≡ position_from (is_towards n side) 0 (take (i + 1) faces)
      same n side = by_cases (is_towards n side face)
          (λ yes.
          let here = position_of_own n side yes ∙ found in
          here ∙ sym (ap (position_from (is_towards n side) 0) one_more ∙ position_some (is_towards n side) 0 before_it face p here))
          (λ other. not_towards n side other)

  -- or none does, and it is added
  face_pushed : (old new : List (List FaceOwner)) → own_position ≡ None → IsOwnerPushed (key_of face.plane (not face.out_is_front)) (owner_at brush i) old new → IsFaceAdded planes faces i brush old new
  face_pushed old new none pushed = record {
    same_count = pushed.same_count;
    added = λ n side there before row. by_cases (is_towards n side face)
        (λ yes.
        let own = towards_is n side face yes in
        let here = position_of_own n side yes ∙ none in
        let number : 0 + length before_it ≡ i = omega (arith, length-take-le i faces (omega (arith, within))) in
        let last = ap (position_from (is_towards n side) 0) one_more ∙ position_last (is_towards n side) 0 before_it face here yes ∙ ap Some number in
        let was = row ∙ ap (λ (p : Option ℕ). before ++ map (owner_at brush) (option_to_list p)) here ∙ append-nil before in
        subst (λ (k : ℕ). get_or new k [] ≡ get_or old k [] ++ owner_at brush i ∷ []) (λ j. key_of (sym own.0 j) (sym own.1 j)) pushed.here
        ∙ ap (λ (os : List FaceOwner). os ++ owner_at brush i ∷ []) was
        ∙ ap (λ (p : Option ℕ). before ++ map (owner_at brush) (option_to_list p)) (sym last))
        (λ other.
        pushed.elsewhere (key_of n side) (λ same. let keys = same_key n face.plane side (not face.out_is_front) same in absurd (let e : true ≡ false = sym (towards_by n side face keys.0 keys.1) ∙ other in cc))
        ∙ row ∙ ap (λ (os : List FaceOwner). before ++ os) (unchanged n side (not_towards n side other)));
  }

  -- by what code finds among the faces before
  pub face_skipped_by : (found : Option ℕ) (old : List (List FaceOwner)) → found ≡ own_position → is_some found ≡ true → IsFaceAdded planes faces i brush old old
  face_skipped_by None old same some = absurd cc
  face_skipped_by (Some p) old same some = face_skipped p old (sym same)

  pub face_pushed_by : (found : Option ℕ) (old new : List (List FaceOwner)) → found ≡ own_position → is_some found ≡ false → IsOwnerPushed (key_of face.plane (not face.out_is_front)) (owner_at brush i) old new → IsFaceAdded planes faces i brush old new
  face_pushed_by found old new same not pushed = face_pushed old new (sym same ∙ none_from_is_some found not) pushed

-- ---- all faces

pub no_faces_added : (planes : ℕ) (faces : List FaceRef) (brush : ℕ) (old : List (List FaceOwner)) → AreFacesAdded planes (take 0 faces) brush old old
no_faces_added planes faces brush old = record { same_count = refl; added = λ n side there. sym (append-nil (row_of old n side)) }

pub faces_added_more : (planes : ℕ) (faces : List FaceRef) (i brush : ℕ) (old now new : List (List FaceOwner)) → AreFacesAdded planes (take i faces) brush old now → IsFaceAdded planes faces i brush now new → AreFacesAdded planes (take (i + 1) faces) brush old new
faces_added_more planes faces i brush old now new so_far one = record {
  same_count = one.same_count ∙ so_far.same_count;
  added = λ n side there. one.added n side there (row_of old n side) (so_far.added n side there);
}

-- ---- one brush

module _ (planes : ℕ) (solid : BookSolid) (brush : ℕ) where
  -- one that is not full or not solid owns nothing
  pub brush_skipped : (old : List (List FaceOwner)) → (solid.full && is_solid solid.contents) ≡ false → IsBrushAdded planes solid brush old old
  brush_skipped old fails = record {
    same_count = refl;
    added = λ n side there.
        sym (ap (λ (p : Option ℕ). row_of old n side ++ map (owner_at brush) (option_to_list p)) (passed (Option ℕ) (position_from (is_towards n side) 0 solid.faces) None (solid.full && is_solid solid.contents) fails)
        ∙ append-nil (row_of old n side));
  }

  pub brush_added : (old new : List (List FaceOwner)) → (solid.full && is_solid solid.contents) ≡ true → AreFacesAdded planes solid.faces brush old new → IsBrushAdded planes solid brush old new
  brush_added old new passes all = record {
    same_count = all.same_count;
    added = λ n side there.
        all.added n side there
        ∙ ap (λ (p : Option ℕ). row_of old n side ++ map (owner_at brush) (option_to_list p)) (sym (taken (Option ℕ) (position_from (is_towards n side) 0 solid.faces) None (solid.full && is_solid solid.contents) passes));
  }

-- ---- all brushes

module _ (planes : ℕ) (solids : List BookSolid) where
  pub rows_begin : (rows : List (List FaceOwner)) → length rows ≡ 2 * planes → All (λ row. row ≡ []) rows → AreRowsSoFar planes solids 0 rows
  rows_begin rows count empty = record {
    two_each = count;
    so_far = λ n side there.
        let inside = key_within n planes side there in
        ap (λ (os : List FaceOwner). os ++ owners_from n side solids 0) (sym (All-get_or (λ row. row ≡ []) rows (key_of n side) [] (omega (arith, inside, count)) empty));
  }

  pub rows_more : (k : ℕ) (old new : List (List FaceOwner)) → k < length solids → AreRowsSoFar planes solids k old → IsBrushAdded planes (solid_at solids k) k old new → AreRowsSoFar planes solids (k + 1) new
  rows_more k old new within rows added = record {
    two_each = added.same_count ∙ rows.two_each;
    so_far = λ n side there.
        let no_brush : BookSolid = record { contents = Empty; full = false; faces = [] } in
        let its = map (owner_at k) (option_to_list (owning_face n side (solid_at solids k))) in
        let later = owners_from n side (drop (k + 1) solids) (k + 1) in
        rows.so_far n side there
        ∙ ap (λ (rest : List BookSolid). row_of old n side ++ owners_from n side rest k) (drop_more solids k no_brush within)
        ∙ sym (append_assoc (row_of old n side) its later)
        ∙ ap (λ (os : List FaceOwner). os ++ later) (sym (added.added n side there));
  }

  pub rows_end : (k : ℕ) (rows : List (List FaceOwner)) → length solids ≤ k → AreRowsSoFar planes solids k rows → AreOwnerRows planes solids rows
  rows_end k rows past so_far = record {
    two_each = so_far.two_each;
    rows_are = λ n side there.
        sym (so_far.so_far n side there ∙ ap (λ (rest : List BookSolid). row_of rows n side ++ owners_from n side rest k) (drop_all k solids past) ∙ append-nil (row_of rows n side));
  }
