-- Faces whose planes enter a book, one after another.
use Rattle.std.proofs.Common.{◌≡◌, ℕ, ◌<◌, ◌≤◌, ◌+◌, Bool, List, [], ◌∷◌, ◌++◌, length, get_or, take, drop, Some, Result, Ok, Err, refl, sym, ap, ◌∙◌, subst, arith}
use Rattle.std.specs.Prelude.{slice_get, OnErr}
use Rattle.std.specs.Prelude.{map as mapped}
use Rattle.std.proofs.lemmas.Option.{slice_get-get_or, slice_get_within}
use Rattle.std.proofs.lemmas.List.{length-take, take_all, take_more, append_assoc, append-nil, map-append, take-append-drop, length-map}
use Rattle.std.proofs.lemmas.List.Elements.{All-nil, All-head, All-tail, All-push}
use Rattle.qm_space.specs.Plane.{Plane}
use Rattle.qm_space.specs.Turned.{turned}
use Rattle.qm_space.specs.Book.{plane_at}
use Rattle.qm_space.proofs.Books.{plane_at_from}
use Rattle.qm_space.specs.Entered.{AreEnteredInBook, none}
use Rattle.qm_geom.proofs.Entering.{entered_at, earlier_stay}
use Rattle.qm_geom.proofs.EnteredPlanes.{one_entered, more_entered, length-all_entered}
use Rattle.qm_solids.specs.declared.face.FaceRef.{FaceRef}
use Rattle.qm_solids.specs.Outward.{outward_of, outward_planes, AreNumberedIn}
use Rattle.qm_brush.specs.inner.Entered.{plane_on_side, turned_outward, AreFirstEntered, IsFaceEntered, AreFacesEntered}

-- what holds in any case holds where there is an error
pub on_error : {T E P : Type 0} (result : Result T E) → P → OnErr result P
on_error (Ok x) p = tt
on_error (Err e) p = p

-- ---- a book that has more planes

-- each plane of the old book stands in the new one at its place
abbrev pub Stay : List Plane → List Plane → Type 0
Stay old new = (n : ℕ) (h : Plane) → slice_get old n ≡ Some h → slice_get new n ≡ Some h

module _ (old new : List Plane) (stay : Stay old new) where
  pub still_numbered : (faces : List FaceRef) → AreNumberedIn old faces → AreNumberedIn new faces
  still_numbered faces numbered = λ k d within.
      let n = (get_or faces k d).plane in
      slice_get_within new n (plane_at old n) (stay n (plane_at old n) (slice_get-get_or old n _ (numbered k d within)))

  one_outward : (face : FaceRef) → face.plane < length old → outward_of new face ≡ outward_of old face
  one_outward face within =
      ap (λ (h : Plane). turned face.out_is_front h)
      (plane_at_from new face.plane (plane_at old face.plane) (stay face.plane (plane_at old face.plane) (slice_get-get_or old face.plane _ within)))

  pub same_outward : (faces : List FaceRef) → AreNumberedIn old faces → outward_planes new faces ≡ outward_planes old faces
  same_outward [] numbered = refl
  same_outward (face ∷ faces) numbered =
      let first = one_outward face (All-head (λ f. f.plane < length old) face faces numbered) in
      let rest = same_outward faces (All-tail (λ f. f.plane < length old) face faces numbered) in
      ap (λ (h : Plane). h ∷ outward_planes new faces) first ∙ ap (λ (those : List Plane). outward_of old face ∷ those) rest

-- ---- faces

module _ {F : Type 0} (side_of : F → Plane × Bool) where
  -- no face yet
  pub none_entered : (faces : List F) (into : List FaceRef) (book : List Plane) → AreFacesEntered side_of (take 0 faces) into into book book
  none_entered faces into book = record { its = []; added = sym (append-nil into); numbered = All-nil (λ f. f.plane < length book); outward = refl; entered = none }

module _ {F : Type 0} (side_of : F → Plane × Bool) (faces : List F) (face : F) (before middle after : List FaceRef) (old mid new : List Plane) where
  -- one face more
  pub one_more_entered : AreFacesEntered side_of faces before middle old mid → IsFaceEntered (side_of face) middle after mid new → AreFacesEntered side_of (faces ++ face ∷ []) before after old new
  one_more_entered those this =
      let its_plane : Plane = plane_on_side side_of face in
      let its_ref : FaceRef = record { plane = this.number; out_is_front = (side_of face).1 } in
      let stay : Stay mid new = earlier_stay mid new its_plane this.number this.enters in
      let at = entered_at mid new its_plane this.number this.enters in
      record {
        its = those.its ++ its_ref ∷ [];
        added = this.added ∙ ap (λ (refs : List FaceRef). refs ++ its_ref ∷ []) those.added ∙ append_assoc before those.its (its_ref ∷ []);
        numbered = All-push (λ f. f.plane < length new) those.its its_ref (still_numbered mid new stay those.its those.numbered) (slice_get_within new this.number its_plane at);
        outward =
            map-append (outward_of new) those.its (its_ref ∷ [])
            ∙ ap (λ (planes : List Plane). planes ++ outward_of new its_ref ∷ []) (same_outward mid new stay those.its those.numbered ∙ those.outward)
            ∙ ap (λ (h : Plane). mapped (turned_outward side_of) faces ++ turned (side_of face).1 h ∷ []) (plane_at_from new this.number its_plane at)
            ∙ sym (map-append (turned_outward side_of) faces (face ∷ []));
        entered =
            subst (λ (planes : List Plane). AreEnteredInBook old planes new) (sym (map-append (plane_on_side side_of) faces (face ∷ [])))
            (more_entered old mid new (mapped (plane_on_side side_of) faces) (its_plane ∷ []) those.entered (one_entered mid new its_plane this.number this.enters));
      }

-- along a list of faces
module _ {F : Type 0} (side_of : F → Plane × Bool) (faces : List F) (i : ℕ) (before middle : List FaceRef) (old mid : List Plane) (those : AreFacesEntered side_of (take i faces) before middle old mid) where
  pub next_entered : (face : F) (after : List FaceRef) (new : List Plane) → i < length faces → face ≡ get_or faces i face → IsFaceEntered (side_of face) middle after mid new → AreFacesEntered side_of (take (i + 1) faces) before after old new
  next_entered face after new within is this =
      subst (λ (fs : List F). AreFacesEntered side_of fs before after old new) (sym (take_more faces i face within ∙ ap (λ (f : F). take i faces ++ f ∷ []) (sym is)))
      (one_more_entered side_of (take i faces) face before middle after old mid new those this)

  pub all_entered : length faces ≤ i → AreFacesEntered side_of faces before middle old mid
  all_entered past = subst (λ (fs : List F). AreFacesEntered side_of fs before middle old mid) (take_all i faces past) those

  -- the book has at most so many planes more
  pub length-entered_faces : i ≤ length faces → length mid ≤ length old + i
  length-entered_faces within =
      let n = length-all_entered old mid (mapped (plane_on_side side_of) (take i faces)) those.entered in
      let m = length-map (take i faces) (plane_on_side side_of) in
      let t = length-take i faces in
      omega arith

  -- want of memory
  pub first_entered : AreFirstEntered old (mapped (plane_on_side side_of) faces) mid
  first_entered = record {
    first = mapped (plane_on_side side_of) (take i faces);
    rest = mapped (plane_on_side side_of) (drop i faces);
    parts = ap (λ (fs : List F). mapped (plane_on_side side_of) fs) (sym (take-append-drop i faces)) ∙ map-append (plane_on_side side_of) (take i faces) (drop i faces);
    entered = those.entered;
  }

module _ {F : Type 0} (side_of : F → Plane × Bool) where
  -- all of them are first ones
  pub whole_entered : (faces : List F) (before after : List FaceRef) (old new : List Plane) → AreFacesEntered side_of faces before after old new → AreFirstEntered old (mapped (plane_on_side side_of) faces) new
  whole_entered faces before after old new those =
      record { first = mapped (plane_on_side side_of) faces; rest = []; parts = sym (append-nil (mapped (plane_on_side side_of) faces)); entered = those.entered }
