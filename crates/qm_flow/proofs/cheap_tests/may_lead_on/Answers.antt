use Rattle.std.proofs.Common.{◌≡◌, true, false, ap, sym, ◌∙◌}
use Rattle.qm_chains.specs.inner.Frame.{Frame}
use Rattle.qm_flow.proofs.Panes.{passes_there}
use Rattle.qm_flow.proofs.cheap_tests.may_lead_on.Goals as goal

pub returns-then-not-may_show_more-clause-none : goal.returns-then-not-may_show_more-clause-none
returns-then-not-may_show_more-clause-none g c is = c.may_show_more.ensures.none c.if-not-may_show_more.true

pub returns-clause-none : goal.returns-clause-none
returns-clause-none g c is q at leads =
    let world = c.args.flow.now.world.now in
    let here = passes_there world.portals c.args.portal c.pane.result.now.winding c.pane.result.now.into c.pane.ensures c.frame.inside.state c.args.frame.now.state (ap (λ (f : Frame). f.state) c.frame.view_is) q at leads.passed in
    let never : false ≡ true = sym is ∙ c.may_pass.ensures.1 here in
    absurd (let e : false ≡ true = never in cc)
