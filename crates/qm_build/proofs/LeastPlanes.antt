-- What the least candidate of a cell is to the cell's fragments.
use Rattle.std.proofs.Common.{◌≡◌, ℕ, ◌<◌, List, length, Some, sym, ◌∙◌, subst}
use Rattle.std.specs.Prelude.{slice_get}
use Rattle.std.proofs.lemmas.Option.{slice_get_within}
use Rattle.qm_space.specs.Plane.{Plane}
use Rattle.qm_solids.specs.Solid.{Solid}
use Rattle.qm_solids.specs.Least.{IsLeastCandidate}
use Rattle.qm_split.specs.declared.fragments.Fragments.{Fragments}
use Rattle.qm_split.specs.CellFragments.{AreFragmentsOf, HasPointOn}
use Rattle.qm_split.specs.SplitCounts.{IsCandidatePlane}

module _ (solids : List Solid) (book cell : List Plane) (n : ℕ) (h : Plane) (least : IsLeastCandidate solids book cell n h) where
  -- its number is one of the book
  pub least_below : n < length book
  least_below = slice_get_within book n h least.is_one.numbered

  -- it has a point of the cell
  pub least_point : HasPointOn cell h
  least_point =
      let on = least.is_one.candidate.on_face in
      record { point = least.is_one.candidate.point; in_cube = on.in_cube; in_cell = on.in_cell; on = on.on }

  -- it is a candidate of the fragments
  pub least_candidate : (fragments : Fragments) → AreFragmentsOf solids book cell fragments → IsCandidatePlane fragments h
  least_candidate fragments are = record { solids = solids; book = book; cell = cell; number = n; are = are; candidate = least.is_one }

  -- it is the plane of its number
  pub least_plane : (plane : Plane) → slice_get book n ≡ Some plane → IsLeastCandidate solids book cell n plane
  least_plane plane at =
      let both : Some h ≡ Some plane = sym least.is_one.numbered ∙ at in
      let same : h ≡ plane = cc in
      subst (λ (g : Plane). IsLeastCandidate solids book cell n g) same least
