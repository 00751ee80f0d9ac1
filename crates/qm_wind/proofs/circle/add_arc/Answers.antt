use Rattle.std.proofs.Common.{◌≡◌, ◌++◌, take, arith}
use Rattle.std.proofs.lemmas.Result.{IfOk-weaker}
use Rattle.qm_convex.specs.Rotation.{rotated_list}
use Rattle.qm_wind.proofs.Arcs.{arc_added}
use Rattle.qm_wind.proofs.circle.add_arc.Goals as goal

pub returns-clause-ok : goal.returns-clause-ok
returns-clause-ok g c =
    IfOk-weaker c.extend_from_slice-3.result _ (λ _. c.extend_from_slice-3.new.self.items ≡ c.args.list.now.items ++ take c.args.count (rotated_list c.args.start c.args.items.now))
    (λ _ e. arc_added c.args.list.now.items _ _ c.args.items.now c.args.start c.args.count (omega arith) (omega arith) (omega arith) c.in_ok-extend_from_slice.ensures.ok e)
    c.extend_from_slice-3.ensures.ok
