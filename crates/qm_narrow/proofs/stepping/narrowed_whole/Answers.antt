use Rattle.std.proofs.Common.{Some, None, subst}
use Rattle.qm_separators.specs.Separator.{IsSeparatorFrom}
use Rattle.qm_separators.specs.inner.Narrowed.{target_gone}
use Rattle.qm_narrow.proofs.Steps.{IsKept, kept_is_left, narrowed_by}
use Rattle.qm_narrow.proofs.stepping.narrowed_whole.Goals as goal

pub returns-in-None : goal.returns-in-None
returns-in-None c =
    target_gone (kept_is_left c.args.far c.separators.result.now (IsSeparatorFrom c.args.state.now.pass c.args.state.now.source) c.separators.ensures None
    (subst (IsKept c.args.far c.separators.result.now) c.in-None.is c.in_ok-keep_all.ensures))

pub returns-in-Some : goal.returns-in-Some
returns-in-Some c =
    narrowed_by c.last_cut_whole.result c.args.state.now c.args.state.now.source c.args.far c.in-Some.pass
    (kept_is_left c.args.far c.separators.result.now (IsSeparatorFrom c.args.state.now.pass c.args.state.now.source) c.separators.ensures (Some c.in-Some.pass)
    (subst (IsKept c.args.far c.separators.result.now) c.in-Some.is c.in_ok-keep_all.ensures))
    c.last_cut_whole.ensures
