use Rattle.std.proofs.Common.{◌≡◌, ⊎_elim, ℕ, false, [], ◌∷◌, get_or, sym, ◌∙◌, subst, arith}
use Rattle.qm_chains.specs.inner.Frame.{MayEnter}
use Rattle.qm_chains.proofs.LeftToEnter.{left_fewer}
use Rattle.qm_chains.proofs.TriedPortals.{not_in_if_clear, clear_if_not_in}
use Rattle.qm_chains.specs.inner.Cone.{LeadsInto}
use Rattle.qm_chains.proofs.Entering.{none_entered, one_entered, into_its_leaf, leads_over}
use Rattle.qm_flow.proofs.cone.enter.Goals as goal

pub get-requires : goal.get-requires
get-requires g c = let within = c.requires.within in let wide = c.requires.cone in let left = c.requires.left.wide in omega (arith, within, wide, left)

-- the leaf is not left to enter: the cone has it, if the chain may enter it

pub returns-then-not-get-clause-entered : goal.returns-then-not-get-clause-entered
returns-then-not-get-clause-entered g c =
    let world = c.args.flow.now.world.now in
    let first = c.args.flow.now.first in
    let frame = c.args.frame.now in
    let found = c.args.found.now in
    let exit = c.args.exit.now in
    let its = c.requires.exit in
    none_entered (LeadsInto world first frame found (exit.portal ∷ [])) c.args.scratch.now.cone c.args.scratch.now.due.items
    (λ to leads.
    let here = its.to_is ∙ into_its_leaf world first frame found exit.portal its.portal its.portal_is to leads in
    let may = subst (MayEnter frame) leads.to_is leads.leads.may_enter in
    ⊎_elim
    (λ is. is)
    (λ left. absurd (not_in_if_clear c.args.scratch.now.left to (subst (λ (n : ℕ). get_or c.args.scratch.now.left n false ≡ false) here (sym c.get.ensures ∙ c.if-not-get.true)) left))
    (c.requires.left.all to may))

pub returns-then-not-get-clause-on : goal.returns-then-not-get-clause-on
returns-then-not-get-clause-on g c = g.met.S.RowSource.goes_on_itself c.args.source.now

pub returns-then-not-exit_may_lead_on-clause-entered : goal.returns-then-not-exit_may_lead_on-clause-entered
returns-then-not-exit_may_lead_on-clause-entered g c =
    let world = c.args.flow.now.world.now in
    let first = c.args.flow.now.first in
    let frame = c.args.frame.now in
    let found = c.args.found.now in
    let exit = c.args.exit.now in
    let its = c.requires.exit in
    none_entered (LeadsInto world first frame found (exit.portal ∷ [])) c.args.scratch.now.cone c.args.scratch.now.due.items
    (λ to leads. absurd (c.exit_may_lead_on.ensures.none c.if-not-exit_may_lead_on.true its.portal its.portal_is (leads_over world first frame found exit.portal its.portal its.portal_is to leads)))

pub returns-clause-entered : goal.returns-clause-entered
returns-clause-entered g c =
    let world = c.args.flow.now.world.now in
    let first = c.args.flow.now.first in
    let frame = c.args.frame.now in
    let found = c.args.found.now in
    let exit = c.args.exit.now in
    let its = c.requires.exit in
    let within = c.requires.within in
    let wide = c.requires.cone in
    one_entered (LeadsInto world first frame found (exit.portal ∷ [])) c.args.scratch.now.cone c.set.new.self c.args.scratch.now.due.items c.push.new.self.items c.args.exit.now.to
    (omega (arith, within, wide)) (clear_if_not_in c.args.scratch.now.cone c.args.exit.now.to (c.requires.left.apart c.args.exit.now.to (sym c.get.ensures ∙ c.if-not-get.false))) c.set.ensures c.in_ok-push.ensures.items
    (λ n leads. its.to_is ∙ into_its_leaf world first frame found exit.portal its.portal its.portal_is n leads)

pub set-requires : goal.set-requires
set-requires g c = let within = c.requires.within in let wide = c.requires.cone in omega (arith, within, wide)

pub returns-clause-left : goal.returns-clause-left
returns-clause-left g c =
    let within = c.requires.within in
    let wide = c.requires.cone in
    left_fewer c.args.frame.now c.args.exit.now.to c.args.scratch.now.cone c.set.new.self c.args.scratch.now.left c.take_one.new.row (omega (arith, within, wide)) c.set.ensures c.take_one.ensures c.requires.left
