use Rattle.std.proofs.Common.{List, ◌++◌, Vec, Global, ap, ◌∙◌}
use Rattle.std.proofs.lemmas.List.{append-nil}
use Rattle.qm_space.specs.Plane.{Plane}
use Rattle.qm_split.specs.CellPlanes.{planes_of_runs}
use Rattle.qm_split.proofs.SharedPlanes.{runs_more}
use Rattle.qm_split.proofs.cell.all_shared.Goals as goal

pub returns : goal.returns
returns c =
    ap (λ (ps : List Plane). planes_of_runs c.push.new.self.items ++ ps) c.new-2.ensures.items
    ∙ append-nil (planes_of_runs c.push.new.self.items)
    ∙ ap planes_of_runs c.in_ok-push.ensures.items
    ∙ runs_more c.args.shared.items c.in_ok-new.field-0
    ∙ ap (λ (v : Vec Plane Global). planes_of_runs c.args.shared.items ++ v.items) c.in_ok-new.ensures.ok
