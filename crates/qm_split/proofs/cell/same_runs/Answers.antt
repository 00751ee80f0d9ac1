use Rattle.std.proofs.Common.{List, ◌++◌, Vec, Global, take, sym, ap, ◌∙◌}
use Rattle.std.proofs.lemmas.List.{take_all}
use Rattle.qm_space.specs.Plane.{Plane}
use Rattle.qm_lists.proofs.Places.{take-read}
use Rattle.qm_split.specs.CellPlanes.{planes_of_runs}
use Rattle.qm_split.proofs.SharedPlanes.{runs_more}
use Rattle.qm_split.proofs.cell.same_runs.Goals as goal

pub loop-run-preserved : goal.loop-run-preserved
loop-run-preserved c =
    let before = take c.loop-run.run-index c.args.runs.now in
    ap planes_of_runs c.in_ok-push.ensures.items
    ∙ runs_more c.loop-run.same.items c.in_ok-clone.field-0
    ∙ ap (λ (ps : List Plane). ps ++ c.in_ok-clone.field-0.value.items) c.loop-run.invariant
    ∙ ap (λ (v : Vec Plane Global). planes_of_runs before ++ v.items) c.in_ok-clone.ensures.cases
    ∙ sym (runs_more before c.run-item.result)
    ∙ ap planes_of_runs (sym (take-read c.args.runs.now c.loop-run.run-index c.run-item.result c.loop-run-test.true c.run-item.is))

pub returns : goal.returns
returns c = c.loop-run.invariant ∙ ap planes_of_runs (take_all c.loop-run.run-index c.args.runs.now c.loop-run-test.false)
