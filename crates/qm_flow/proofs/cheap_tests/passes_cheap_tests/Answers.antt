use Rattle.std.proofs.Common.{List, Bool, length, sym, ap, ◌∙◌, subst}
use Rattle.qm_lists.specs.WorkList.{IsIn}
use Rattle.qm_contacts.specs.Portals.{Portal}
use Rattle.qm_chains.specs.inner.Frame.{Frame}
use Rattle.qm_chains.proofs.TriedPortals.{same_portal}
use Rattle.qm_flow.specs.inner.NewWords.{HaveAllNew}
use Rattle.qm_flow.proofs.cheap_tests.passes_cheap_tests.Goals as goal

pub list_new-requires : goal.list_new-requires
list_new-requires g c = c.requires.of_world.wide.found ∙ sym (ap (λ (f : Frame). length f.mask) c.frame.view_is ∙ c.requires.of_world.wide.mask)

pub may_lead_on-may-requires-clause-words : goal.may_lead_on-may-requires-clause-words
may_lead_on-may-requires-clause-words g c = subst (HaveAllNew c.args.frame.now.mask c.args.found.now) (sym c.deref_mut.ensures.value)
    (subst (λ (mask : List Bool). HaveAllNew mask c.args.found.now c.list_new.new.words.items) (ap (λ (f : Frame). f.mask) c.frame.view_is) c.in_ok-list_new.ensures)

pub may_lead_on-may-requires-clause-of_world : goal.may_lead_on-may-requires-clause-of_world
may_lead_on-may-requires-clause-of_world g c = c.requires.of_world

pub returns-in_err-list_new-clause-on : goal.returns-in_err-list_new-clause-on
returns-in_err-list_new-clause-on g c = g.met.S.RowSource.goes_on_itself c.args.source.now

pub returns-clause-new : goal.returns-clause-new
returns-clause-new g c is q at met =
    let p = c.to.ensures.value in
    let same = ap (λ (r : Portal). r.to) (same_portal c.args.flow.now.world.now.portals c.args.portal p.0 q p.1 at) in
    let may = c.may_enter.ensures.0 c.if-not-may_enter.false in
    may.0 (subst (IsIn c.args.frame.now.met) (sym (p.2 ∙ same)) met)

pub returns-clause-none : goal.returns-clause-none
returns-clause-none g c = c.may_lead_on-may.ensures.none

pub returns-clause-on : goal.returns-clause-on
returns-clause-on g c = c.may_lead_on-may.ensures.on
