use Rattle.std.proofs.Common.{true, false, [], ◌∷◌, ◌++◌, sym, map, subst}
use Rattle.std.proofs.lemmas.Result.{IfOk-weaker}
use Rattle.qm_space.specs.Plane.{flipped}
use Rattle.qm_space.specs.Reduced.{IsReduced}
use Rattle.qm_split.specs.CellFragments.{cell_of_fragments}
use Rattle.qm_split.specs.Pieces.{solid_of_contender}
use Rattle.qm_split.specs.inner.Gathered.{IsGathered, HasFewer}
use Rattle.qm_split.proofs.KnownFragments.{all_contend}
use Rattle.qm_split.proofs.MadeFragments.{contender_in_candidate, half_fragments, point_aside}
use Rattle.qm_split.proofs.fragments.Fragments.split.Goals as goal

pub returns-clause-front : goal.returns-clause-front
returns-clause-front c = IfOk-weaker c.halves_of_cell.result _ _ (λ made is. λ solids book cell are.
    half_fragments solids book cell c.args.self are c.args.plane.now made.front is.cell_is
    (point_aside (cell_of_fragments c.args.self) cell c.args.plane.now true are.cell_is (subst IsReduced c.plane.view_is c.plane.invariant).normal c.requires.point)
    (subst (IsGathered book (cell ++ c.args.plane.now ∷ []) c.args.self.gathering.strongest (map solid_of_contender c.args.self.gathering.contenders.items)) (sym is.gathered)
    (c.in_ok-halves.ensures.front book cell (all_contend solids book cell c.args.self are) (c.in_ok-section.ensures solids book cell are))))
    c.halves_of_cell.ensures.front

pub returns-clause-back : goal.returns-clause-back
returns-clause-back c = IfOk-weaker c.halves_of_cell.result _ _ (λ made is. λ solids book cell are.
    half_fragments solids book cell c.args.self are (flipped c.args.plane.now) made.back is.cell_is
    (point_aside (cell_of_fragments c.args.self) cell c.args.plane.now false are.cell_is (subst IsReduced c.plane.view_is c.plane.invariant).normal c.requires.point)
    (subst (IsGathered book (cell ++ flipped c.args.plane.now ∷ []) c.args.self.gathering.strongest (map solid_of_contender c.args.self.gathering.contenders.items)) (sym is.gathered)
    (c.in_ok-halves.ensures.back book cell (all_contend solids book cell c.args.self are) (c.in_ok-section.ensures solids book cell are))))
    c.halves_of_cell.ensures.back

pub returns-clause-front_count : goal.returns-clause-front_count
returns-clause-front_count c = IfOk-weaker c.halves_of_cell.result _ _ (λ made is. λ at.
    (subst (HasFewer c.args.self.gathering.contenders.items c.args.plane.now) (sym is.gathered)
    (c.in_ok-halves.ensures.front_count at.book at.cell (all_contend at.solids at.book at.cell c.args.self at.are))).fewer (contender_in_candidate at.solids at.book at.cell c.args.self at.are at.number c.args.plane.now at.candidate))
    c.halves_of_cell.ensures.front

pub returns-clause-back_count : goal.returns-clause-back_count
returns-clause-back_count c = IfOk-weaker c.halves_of_cell.result _ _ (λ made is. λ at.
    (subst (HasFewer c.args.self.gathering.contenders.items c.args.plane.now) (sym is.gathered)
    (c.in_ok-halves.ensures.back_count at.book at.cell (all_contend at.solids at.book at.cell c.args.self at.are))).fewer (contender_in_candidate at.solids at.book at.cell c.args.self at.are at.number c.args.plane.now at.candidate))
    c.halves_of_cell.ensures.back
