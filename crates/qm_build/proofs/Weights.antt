-- A visit leaves less to do.
use Rattle.std.proofs.Common.{◌≡◌, ◌+◌, ◌<◌, ◌^◌, List, [], ◌∷◌, ◌++◌, refl, ap, ◌∙◌, arith}
use Rattle.std.specs.Prelude.{reverse}
use Rattle.qm_numbers.proofs.Powers.{some_power, two_powers}
use Rattle.qm_space.specs.Plane.{Plane}
use Rattle.qm_solids.specs.Solid.{Solid}
use Rattle.qm_partition.specs.declared.visit.Visit.{Visit}
use Rattle.qm_split.specs.declared.fragments.Fragments.{Fragments}
use Rattle.qm_split.specs.CellFragments.{piece_count}
use Rattle.qm_build.specs.inner.UnderWay.{weight}
use Rattle.qm_build.specs.inner.Visited.{IsVisited, is_walked, is_node}
use Rattle.qm_build.proofs.Visits.{next_first}

weight_first : (pending before : List Fragments) (next : Fragments) → before ≡ pending ++ next ∷ [] → weight (reverse before) ≡ 3 ^ piece_count next + weight (reverse pending)
weight_first pending before next is = ap (λ (p : List Fragments). weight (reverse p)) is ∙ ap weight (next_first pending next)

pub less_to_do : (solids : List Solid) (book : List Plane) (fragments : Fragments) (before pending : List Fragments) (walk : List Visit) (pending' : List Fragments) (walk' : List Visit) → before ≡ pending ++ fragments ∷ [] → IsVisited solids book fragments pending walk pending' walk' → weight (reverse pending') < weight (reverse before)
less_to_do solids book fragments before pending walk pending' walk' is (is_walked whole waits wrote) =
    omega (arith, weight_first pending before fragments is, ap (λ (p : List Fragments). weight (reverse p)) waits, some_power (piece_count fragments))
less_to_do solids book fragments before pending walk pending' walk' is (is_node {halves = halves} sides waits wrote) =
    let last = weight_first (pending ++ halves.back ∷ []) pending' halves.front waits in
    let first = weight_first pending (pending ++ halves.back ∷ []) halves.back refl in
    omega (arith, weight_first pending before fragments is, last, first, two_powers (piece_count halves.front) (piece_count halves.back) (piece_count fragments) sides.fewer sides.less)
