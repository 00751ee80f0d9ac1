-- What half-spaces have in common, one after another.
use Rattle.std.proofs.Common.{◌≡◌, ◌+◌, ◌<◌, ℕ, Option, Some, None, List, [], ◌∷◌, length, take, drop, get_or, sym, ap, ◌∙◌, subst}
use Rattle.std.proofs.lemmas.List.{map-append}
use Rattle.std.proofs.lemmas.Option.{MatchOption-at_some, MatchOption-at_none}
use Rattle.qm_lists.proofs.Places.{take-read, parted-read}
use Rattle.qm_space.specs.Plane.{Plane}
use Rattle.qm_space.specs.Cell.{HasPoint}
use Rattle.qm_convex.specs.inner.Facets.{Facet}
use Rattle.qm_facets.specs.Body.{IsBody, IsBodyOrNone, with_plane}
use Rattle.qm_facets.proofs.MorePlanes.{none_of_more}
use Rattle.qm_half_spaces.specs.declared.half.Half.{Half}
use Rattle.qm_half_spaces.specs.HalfCells.{inward_of_half, cell_of_halves}

module _ (halves : List Half) (i : ℕ) (half : Half) (within : i < length halves) (read : half ≡ get_or halves i half) (body : List Facet) (left : Option (List Facet))
    (kept : (cell : List Plane) → IsBody cell body → IsBodyOrNone (with_plane cell (inward_of_half half)) left) (so_far : IsBody (cell_of_halves (take i halves)) body) where
  left_is : IsBodyOrNone (with_plane (cell_of_halves (take i halves)) (inward_of_half half)) left
  left_is = kept (cell_of_halves (take i halves)) so_far

  -- one more leaves a body
  pub one_half_more : (facets : List Facet) → left ≡ Some facets → IsBody (cell_of_halves (take (i + 1) halves)) facets
  one_half_more facets is =
      subst (λ (cell : List Plane). IsBody cell facets) (sym (ap cell_of_halves (take-read halves i half within read) ∙ map-append inward_of_half (take i halves) (half ∷ [])))
      (MatchOption-at_some (HasPoint (with_plane (cell_of_halves (take i halves)) (inward_of_half half)) → ⊥) (λ fs. IsBody (with_plane (cell_of_halves (take i halves)) (inward_of_half half)) fs) facets is left_is)

  -- or nothing, and then all leave nothing
  pub nothing_left : left ≡ None → HasPoint (cell_of_halves halves) → ⊥
  nothing_left is some =
      none_of_more (cell_of_halves (take i halves)) (cell_of_halves (drop (i + 1) halves)) (inward_of_half half)
      (MatchOption-at_none (HasPoint (with_plane (cell_of_halves (take i halves)) (inward_of_half half)) → ⊥) (λ fs. IsBody (with_plane (cell_of_halves (take i halves)) (inward_of_half half)) fs) is left_is)
      (subst HasPoint (ap cell_of_halves (parted-read halves i half within read) ∙ map-append inward_of_half (take i halves) (half ∷ drop (i + 1) halves)) some)
