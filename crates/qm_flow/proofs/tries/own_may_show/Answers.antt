use Rattle.std.proofs.Common.{ℕ, List, Bool, length, sym, ap, ◌∙◌, subst, arith, refl}
use Rattle.qm_contacts.specs.NumberedLeaves.{numbered_leaves}
use Rattle.qm_contacts.specs.World.{World}
use Rattle.qm_chains.specs.inner.Frame.{Frame}
use Rattle.qm_chains.specs.inner.Narrowing.{ShowsNothingNew}
use Rattle.qm_chains.specs.inner.OwnRows.{AreOwnRows, MustHave}
use Rattle.qm_chains.specs.inner.Wanted.{IsWanted}
use Rattle.qm_chains.proofs.PairRows.{none_wanted}
use Rattle.qm_chains.specs.inner.Pairs.{Pairs, ArePairs}
use Rattle.qm_flow.specs.inner.FlowPairs.{pairs_of}
use Rattle.qm_flow.specs.inner.PairsGoOn.{PairsGoOn}
use Rattle.qm_flow.proofs.PairsKept.{own_same}
use Rattle.qm_flow.proofs.tries.own_may_show.Goals as goal

pub note-requires : goal.note-requires
note-requires g c =
    let one = c.requires.of_world.pairs_are.own_are.one_each in
    let within = c.requires.portal in
    omega (arith, one, within)

pub may_show-may-requires-clause-portal : goal.may_show-may-requires-clause-portal
may_show-may-requires-clause-portal g c =
    let one = c.in_ok-do_what_is_due.ensures.flow.pairs.are.own_are.one_each in
    let within = c.requires.portal in
    (omega (arith, one, within))

pub may_show-may-requires-clause-own : goal.may_show-may-requires-clause-own
may_show-may-requires-clause-own g c =
    let same = g.met.S.RowSource.same_world c.args.source.now c.do_what_is_due.new.source c.do_what_is_due.ensures.on ∙ c.requires.of_world.same_world in
    (subst (λ (w : World). AreOwnRows w c.do_what_is_due.new.flow.own) (sym same) c.in_ok-do_what_is_due.ensures.flow.pairs.are.own_are)

pub may_show-may-requires-clause-wide : goal.may_show-may-requires-clause-wide
may_show-may-requires-clause-wide g c =
    let same = g.met.S.RowSource.same_world c.args.source.now c.do_what_is_due.new.source c.do_what_is_due.ensures.on ∙ c.requires.of_world.same_world in
    ap (λ (f : Frame). length f.mask) c.frame.view_is ∙ c.requires.of_world.wide.mask ∙ ap (λ (w : World). length (numbered_leaves w.tree)) (sym same)

pub list_new-requires : goal.list_new-requires
list_new-requires g c = c.requires.of_world.wide.found ∙ sym (ap (λ (f : Frame). length f.mask) c.frame.view_is ∙ c.requires.of_world.wide.mask)

pub returns-clause-none : goal.returns-clause-none
returns-clause-none g c is q at leads =
    let world = c.args.flow.now.world.now in
    let pairs = (pairs_of c.do_what_is_due.new.flow) in
    let row = c.args.found.now in
    let portal = c.args.portal in
    let same = g.met.S.RowSource.same_world c.args.source.now c.do_what_is_due.new.source c.do_what_is_due.ensures.on ∙ c.requires.of_world.same_world in
    let nothing = subst (λ (mask : List Bool). ShowsNothingNew (MustHave world pairs.own portal) mask row) (ap (λ (f : Frame). f.mask) c.frame.view_is)
    ((subst (λ (w : World). ShowsNothingNew (MustHave w c.do_what_is_due.new.flow.own portal) c.frame.inside.mask row) same (c.may_show-may.ensures.none is))) in
    let same_first = c.in_ok-do_what_is_due.ensures.flow.pairs.same_first ∙ ap (λ (pairs : Pairs). pairs.first) (own_same (pairs_of c.args.flow.now) (pairs_of c.args.flow.now) c.note.new.self refl c.note.ensures) in
    none_wanted world row pairs c.in_ok-do_what_is_due.ensures.flow.pairs.are portal c.args.frame.now.mask nothing leads.leaf leads.in_mask leads.not_found
    (record { portal = q; portal_is = at; wanted = subst (λ (first : ℕ). IsWanted world first row q leads.leaf) (sym same_first) leads.wanted })

pub returns-clause-flow : goal.returns-clause-flow
returns-clause-flow g c =
    let ceilings = g.S.RowSource.ceilings c.args.source.now in
    let same = own_same (pairs_of c.args.flow.now) (pairs_of c.args.flow.now) c.note.new.self refl c.note.ensures in
    let go = c.in_ok-do_what_is_due.ensures.flow in
    record {
      same_world = go.same_world;
      pairs = subst (λ (pairs : Pairs). PairsGoOn c.args.flow.now.world.now ceilings c.args.found.now pairs (pairs_of c.do_what_is_due.new.flow)) same go.pairs;
    }

pub returns-clause-on : goal.returns-clause-on
returns-clause-on g c = g.met.S.RowSource.goes_on_in_turn c.args.source.now c.do_what_is_due.new.source c.may_show-may.new.source c.do_what_is_due.ensures.on c.may_show-may.ensures.on

-- what is asked and kept besides

pub do_what_is_due-requires-clause-of_world : goal.do_what_is_due-requires-clause-of_world
do_what_is_due-requires-clause-of_world g c = record {
  same_world = c.requires.of_world.same_world;
  pairs_are = subst (ArePairs c.args.flow.now.world.now c.args.found.now) (sym (own_same (pairs_of c.args.flow.now) (pairs_of c.args.flow.now) c.note.new.self refl c.note.ensures)) c.requires.of_world.pairs_are;
  wide = record { met = c.requires.spares.met; mask = c.requires.spares.mask; found = c.requires.of_world.wide.found };
}

pub do_what_is_due-requires-clause-cone : goal.do_what_is_due-requires-clause-cone
do_what_is_due-requires-clause-cone g c = c.requires.spares.found

pub may_show-may-requires-clause-found : goal.may_show-may-requires-clause-found
may_show-may-requires-clause-found g c = c.requires.of_world.wide.found ∙ sym (ap (λ (f : Frame). length f.mask) c.frame.view_is ∙ c.requires.of_world.wide.mask)

pub returns-clause-spares : goal.returns-clause-spares
returns-clause-spares g c = c.in_ok-do_what_is_due.ensures.spares
