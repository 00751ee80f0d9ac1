use Rattle.std.proofs.Common.{◌<◌, ℕ, length, ap, subst}
use Rattle.qm_contacts.specs.NumberedLeaves.{numbered_leaves}
use Rattle.qm_chains.specs.inner.Frame.{Frame, blocked}
use Rattle.qm_chains.proofs.TriedPortals.{looked_stopped, FindsLast}
use Rattle.qm_flow.specs.inner.FlowPairs.{pairs_of}
use Rattle.qm_flow.proofs.Attempts.{try_none}
use Rattle.qm_flow.proofs.GoneThrough.{try_alone}
use Rattle.qm_flow.proofs.Panes.{steps_on, blocked_there}
use Rattle.qm_flow.proofs.step.find_alone.Goals as goal

pub returns-then-not-leads-clause-tried : goal.returns-then-not-leads-clause-tried
returns-then-not-leads-clause-tried c now narrowed =
    let pane = c.pane-pane.ensures in
    try_none c.args.flow.now.world.now now (pairs_of c.args.flow.now) c.args.frame.now c.args.portal c.args.found.now
    (looked_stopped c.args.flow.now.world.now c.args.flow.now.first c.args.frame.now c.args.portal c.args.found.now pane.0 pane.1
    (blocked (blocked_there c.args.flow.now.world.now.portals c.args.portal c.pane-pane.result.now.winding c.pane-pane.result.now.into pane c.frame.inside.state c.args.frame.now.state (ap (λ (f : Frame). f.state) c.frame.view_is)
    (c.in_ok-leads.ensures.blocks c.if-not-leads.true))))

pub returns-clause-tried : goal.returns-clause-tried
returns-clause-tried c now narrowed =
    let world = c.args.flow.now.world.now in
    let frame = c.args.frame.now in
    let found = c.args.found.now in
    let row = c.find.new.row in
    let mask = c.args.mask.now in
    let q = c.to-entered.ensures.value in
    let within : q.0.to < length (numbered_leaves world.tree) = subst (λ (n : ℕ). n < length (numbered_leaves world.tree)) q.2 c.to-entered.ensures.within in
    let after = c.in_ok-leads.ensures.leads c.if-not-leads.false in
    let step = steps_on world.portals c.args.portal c.pane-pane.result.now.winding c.pane-pane.result.now.into c.pane-pane.ensures c.frame.inside.state frame.state (ap (λ (f : Frame). f.state) c.frame.view_is) q.0 q.1 after.0 after.1 in
    try_alone world (pairs_of c.args.flow.now) frame c.args.portal found c.requires.of_world.pairs_are c.requires.of_world.wide mask now narrowed q.0 q.1 within (c.requires.new q.0 q.1)
    after.0 step row (subst (λ (n : ℕ). FindsLast mask n found row) q.2 c.find.ensures) (c.requires.alone q.0 q.1)
