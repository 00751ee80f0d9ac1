-- Corners from a place on, one more of them; and the side that is entered.
use Rattle.std.proofs.Common.{◌≡◌, ℕ, ◌+◌, ℤ, Bool, true, false, List, [], ◌∷◌, ◌++◌, length, Some, sym, ap, subst, ◌∙◌, inl, inr}
use Rattle.std.specs.Prelude.{slice_get}
use Rattle.std.proofs.lemmas.List.{length_push}
use Rattle.qm_lists.proofs.Places.{slice_get-push_cases}
use Rattle.qm_space.specs.Bounds.{world_extent}
use Rattle.qm_space.specs.Plane.{Plane}
use Rattle.qm_space.specs.Turned.{turned}
use Rattle.qm_convex.specs.Winding.{Winding}
use Rattle.qm_face_layout.specs.FaceCorners.{place_on, IsNumberedCorner}
use Rattle.qm_face_file.proofs.PlanesOnWalls.{is_same_plane, same_from_test, test_from_same}
use Rattle.qm_face_corners.specs.inner.CornerParts.{AreSomeCorners}

module _ (planes : List Plane) (w : Winding) (backward : Bool) (first : ℕ) where
  pub no_corners : (corners : List (List ℤ)) → corners ≡ [] → AreSomeCorners planes w backward first 0 corners
  no_corners corners none = record {
    counted = ap length none;
    are_corners = λ i corner there. let nothing : List (List ℤ) = [] in absurd (let e : slice_get nothing i ≡ Some corner = sym (ap (λ (cs : List (List ℤ)). slice_get cs i) none) ∙ there in cc);
  }

  pub one_corner_more : (corners more : List (List ℤ)) (count place : ℕ) (next : List ℤ) →
      AreSomeCorners planes w backward first count corners → place ≡ place_on backward (length w.edges) first count → IsNumberedCorner planes world_extent w backward place next → more ≡ corners ++ next ∷ [] →
      AreSomeCorners planes w backward first (count + 1) more
  one_corner_more corners more count place next so_far place_is next_is pushed = record {
    counted = ap length pushed ∙ length_push corners next ∙ ap (λ (n : ℕ). n + 1) so_far.counted;
    are_corners = λ i corner there. elim (slice_get-push_cases corners next corner i (sym (ap (λ (cs : List (List ℤ)). slice_get cs i) pushed) ∙ there)) [
      | inl old ↦ so_far.are_corners i corner old
      | inr last ↦
          let here : place ≡ place_on backward (length w.edges) first i = place_is ∙ ap (place_on backward (length w.edges) first) (sym (last.0 ∙ so_far.counted)) in
          subst (λ (k : ℕ). IsNumberedCorner planes world_extent w backward k corner) here (subst (IsNumberedCorner planes world_extent w backward place) last.1 next_is)
    ];
  }

-- the plane into which one goes is the other one where both are the same, and else it is flipped
pub entered : (side : Bool) (into plane : Plane) (same : Bool) → into ≡ turned side plane → same ≡ is_same_plane into plane → into ≡ turned same plane
entered side into plane true is test = same_from_test into plane (sym test)
entered true into plane false is test = absurd (let e = test ∙ test_from_same into plane is in cc)
entered false into plane false is test = is
