use Rattle.std.proofs.Common.{List, ◌++◌, Vec, Global, take, sym, ap, ◌∙◌}
use Rattle.std.proofs.lemmas.List.{take_all}
use Rattle.qm_space.specs.Plane.{Plane}
use Rattle.qm_lists.proofs.Places.{take-read}
use Rattle.qm_split.specs.CellPlanes.{planes_of_runs}
use Rattle.qm_split.proofs.SharedPlanes.{runs_more}
use Rattle.qm_split.proofs.cell.CellPlanes.listed.Goals as goal

pub loop-run-preserved : goal.loop-run-preserved
loop-run-preserved c =
    let runs = c.deref-run-items.result.now in
    let before = take c.loop-run.run-index runs in
    c.in_ok-extend_from_slice.ensures.items
    ∙ ap (λ (ps : List Plane). ps ++ c.deref-in-loop-run.result.now) c.loop-run.invariant
    ∙ ap (λ (ps : List Plane). planes_of_runs before ++ ps) (c.deref-in-loop-run.ensures.value ∙ ap (λ (v : Vec Plane Global). v.items) c.deref.ensures)
    ∙ sym (runs_more before c.run-item.result)
    ∙ ap planes_of_runs (sym (take-read runs c.loop-run.run-index c.run-item.result c.loop-run-test.true c.run-item.is))

pub returns : goal.returns
returns c =
    let shared = take_all c.loop-run.run-index c.deref-run-items.result.now c.loop-run-test.false ∙ c.deref-run-items.ensures.value in
    c.in_ok-extend_from_slice-2.ensures.items
    ∙ ap (λ (ps : List Plane). ps ++ c.deref-2.result.now) (c.loop-run.invariant ∙ ap planes_of_runs shared)
    ∙ ap (λ (ps : List Plane). planes_of_runs c.args.self.now.shared.items ++ ps) c.deref-2.ensures.value
