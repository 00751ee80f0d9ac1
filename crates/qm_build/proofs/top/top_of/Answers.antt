use Rattle.std.proofs.Common.{List, refl}
use Rattle.qm_solids.specs.Solid.{Solid}
use Rattle.qm_solids.specs.Least.{IsLeastCandidate}
use Rattle.qm_split.specs.CellFragments.{cell_of_fragments}
use Rattle.qm_build.specs.inner.UnderWay.{AreFragments}
use Rattle.qm_build.proofs.LeastPlanes.{least_below, least_point, least_candidate, least_plane}
use Rattle.qm_build.proofs.top.top_of.Goals as goal
use Rattle.qm_build.proofs.top.top_of.Goals.{After-plane-plane}

-- the plane that is taken is the least candidate, for any solids of which these are the fragments
least : (c : After-plane-plane) (solids : List Solid) → AreFragments solids c.args.book.now c.args.fragments → IsLeastCandidate solids c.args.book.now (cell_of_fragments c.args.fragments) c.in-Some.number c.plane-plane.result
least c solids are =
    least_plane solids c.args.book.now (cell_of_fragments c.args.fragments) c.in-Some.number _ (c.in-Some.ensures solids c.args.book.now (cell_of_fragments c.args.fragments) are) c.plane-plane.result c.plane-plane.ensures.value

pub plane-plane-requires : goal.plane-plane-requires
plane-plane-requires c =
    least_below c.requires.0 c.args.book.now (cell_of_fragments c.args.fragments) c.in-Some.number _ (c.in-Some.ensures c.requires.0 c.args.book.now (cell_of_fragments c.args.fragments) c.requires.1)

pub split-requires : goal.split-requires
split-requires c =
    record { point = least_point c.requires.0 c.args.book.now (cell_of_fragments c.args.fragments) c.in-Some.number c.plane-plane.result (least (goal.at.split-requires c).After-plane-plane c.requires.0 c.requires.1) }

pub returns-in-None : goal.returns-in-None
returns-in-None c = λ solids are.
    let cell = cell_of_fragments c.args.fragments in (c.in-None.ensures solids c.args.book.now cell are, c.contents.ensures solids c.args.book.now cell are, refl)

pub returns-in_ok-halves-in-Some : goal.returns-in_ok-halves-in-Some
returns-in_ok-halves-in-Some c = λ solids are.
    let book = c.args.book.now in
    let cell = cell_of_fragments c.args.fragments in
    let plane = c.plane-plane.result in
    let first = least (goal.at.returns-in_ok-halves-in-Some c).After-plane-plane solids are in
    let candidate = least_candidate solids book cell c.in-Some.number plane first c.args.fragments are in
    let halves = c.in_ok-halves-in-Some.ensures in
    record {
      plane = plane;
      least = first;
      in_front = halves.front solids book cell are;
      fewer = halves.front_count candidate;
      behind = halves.back solids book cell are;
      less = halves.back_count candidate;
    }
