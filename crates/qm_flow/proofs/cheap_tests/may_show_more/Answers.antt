use Rattle.std.proofs.Common.{List, Bool, length, ap, sym, ◌∙◌, subst, arith}
use Rattle.qm_contacts.specs.NumberedLeaves.{numbered_leaves}
use Rattle.qm_contacts.specs.World.{World}
use Rattle.qm_chains.specs.inner.Frame.{Frame}
use Rattle.qm_chains.specs.inner.Narrowing.{ShowsNothingNew}
use Rattle.qm_chains.specs.inner.OwnRows.{AreOwnRows, MustHave}
use Rattle.qm_chains.proofs.PairRows.{none_wanted}
use Rattle.qm_flow.specs.inner.FlowPairs.{pairs_of}
use Rattle.qm_flow.specs.inner.NewWords.{HaveAllNew}
use Rattle.qm_flow.proofs.NewWords.{listed_anew}
use Rattle.qm_flow.proofs.cheap_tests.may_show_more.Goals as goal

pub may_show-requires-clause-portal : goal.may_show-requires-clause-portal
may_show-requires-clause-portal g c =
    let one = c.requires.of_world.pairs_are.own_are.one_each in
    let within = c.requires.portal in
    (omega (arith, one, within))

pub may_show-requires-clause-own : goal.may_show-requires-clause-own
may_show-requires-clause-own g c =
    (subst (λ (w : World). AreOwnRows w c.args.flow.now.own) (sym c.requires.of_world.same_world) c.requires.of_world.pairs_are.own_are)

pub may_show-requires-clause-wide : goal.may_show-requires-clause-wide
may_show-requires-clause-wide g c =
    ap (λ (f : Frame). length f.mask) c.frame.view_is ∙ c.requires.of_world.wide.mask ∙ ap (λ (w : World). length (numbered_leaves w.tree)) (sym c.requires.of_world.same_world)

pub may_show-requires-clause-words : goal.may_show-requires-clause-words
may_show-requires-clause-words g c = subst (λ (mask : List Bool). HaveAllNew mask c.args.found.now c.args.words.now) (sym (ap (λ (f : Frame). f.mask) c.frame.view_is)) c.requires.words

pub may_show-requires-clause-found : goal.may_show-requires-clause-found
may_show-requires-clause-found g c = c.requires.of_world.wide.found ∙ sym (ap (λ (f : Frame). length f.mask) c.frame.view_is ∙ c.requires.of_world.wide.mask)

pub returns-clause-none : goal.returns-clause-none
returns-clause-none g c is q at leads =
    let world = c.args.flow.now.world.now in
    let pairs = (pairs_of c.args.flow.now) in
    let found = c.args.found.now in
    let portal = c.args.portal in
    let nothing = subst (λ (mask : List Bool). ShowsNothingNew (MustHave world pairs.own portal) mask found) (ap (λ (f : Frame). f.mask) c.frame.view_is)
    ((subst (λ (w : World). ShowsNothingNew (MustHave w c.args.flow.now.own portal) c.frame.inside.mask found) c.requires.of_world.same_world (c.may_show.ensures.none is))) in
    none_wanted world found pairs c.requires.of_world.pairs_are portal c.args.frame.now.mask nothing leads.leaf leads.in_mask leads.not_found (record { portal = q; portal_is = at; wanted = leads.wanted })

pub returns-clause-words : goal.returns-clause-words
returns-clause-words g c = listed_anew c.args.frame.now.mask c.args.found.now c.args.words.now c.may_show.new.words c.may_show.ensures.words c.requires.words
