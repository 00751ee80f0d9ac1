use Rattle.std.proofs.Common.{Option, IfOk, subst}
use Rattle.qm_convex.specs.Winding.{Winding}
use Rattle.qm_separators.specs.Separator.{IsSeparatorFrom}
use Rattle.qm_separators.specs.Part.{IsPartBy}
use Rattle.qm_narrow.proofs.Steps.{IsEnd, narrowed_by, left_some}
use Rattle.qm_narrow.proofs.stepping.narrowed_part.Goals as goal

pub returns-in-Some : goal.returns-in-Some
returns-in-Some c =
    narrowed_by c.last_cut.result c.args.state.now c.args.near c.args.far c.in-Some.pass
    (subst (λ (v : Winding). IsPartBy c.in-Some.pass c.args.far (IsSeparatorFrom c.args.state.now.pass v)) c.in_ok-near.ensures
    (subst (λ (o : Option Winding). IsPartBy c.in-Some.pass c.args.far (IsSeparatorFrom o c.in_ok-near.near)) c.pass.ensures.value
    (left_some c.in_ok-part.part c.args.far c.in-Some.pass (IsSeparatorFrom c.pass.result.now c.in_ok-near.near) c.in_ok-part.ensures c.in-Some.is)))
    (subst (λ (v : Winding). IfOk c.last_cut.result (IsEnd c.args.state.now v c.in-Some.pass)) c.in_ok-near.ensures c.last_cut.ensures)
