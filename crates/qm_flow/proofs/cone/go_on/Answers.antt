use Rattle.std.proofs.Common.{[], ◌∷◌, ◌++◌, ◌<◌, take, length, map, List, ℕ, ap, sym, ◌∙◌, subst}
use Rattle.std.proofs.lemmas.List.{take_all, map_push}
use Rattle.qm_lists.proofs.Places.{take-read}
use Rattle.qm_contacts.specs.NumberedLeaves.{numbered_leaves}
use Rattle.qm_portal.specs.Exits.{IsExitOf}
use Rattle.qm_portal.specs.declared.exit.Exit.{Exit}
use Rattle.qm_chains.specs.inner.Cone.{LeadsInto, AreEntered}
use Rattle.qm_chains.proofs.Entering.{none_entered, then_entered, into_none, into_cases}
use Rattle.qm_flow.specs.inner.FlowPairs.{pairs_of}
use Rattle.qm_flow.proofs.OfWorlds.{of_world_later}
use Rattle.qm_flow.proofs.cone.go_on.Goals as goal

pub loop-exit-init : goal.loop-exit-init
loop-exit-init g c = record {
  entered = none_entered (LeadsInto c.args.flow.now.world.now c.args.flow.now.first c.args.frame.now c.args.found.now []) c.args.scratch.now.cone c.args.scratch.now.due.items (λ to leads. absurd (into_none c.args.flow.now.world.now c.args.flow.now.first c.args.frame.now c.args.found.now to leads));
  left = c.requires.left;
  words = c.requires.words;
  on = g.met.S.RowSource.goes_on_itself c.args.source.now;
}

pub enter-requires-clause-of_world : goal.enter-requires-clause-of_world
enter-requires-clause-of_world g c = of_world_later c.args.flow.now.world.now (g.S.RowSource.world c.args.source.now) (g.S.RowSource.world c.loop-exit.source) (pairs_of c.args.flow.now) c.args.frame.now c.args.found.now
    (g.met.S.RowSource.same_world c.args.source.now c.loop-exit.source c.loop-exit.invariant.on) c.requires.of_world

pub enter-requires-clause-cone : goal.enter-requires-clause-cone
enter-requires-clause-cone g c = c.loop-exit.invariant.entered.same_length ∙ c.requires.cone

pub loop-exit-preserved : goal.loop-exit-preserved
loop-exit-preserved g c =
    let world = c.args.flow.now.world.now in
    let first = c.args.flow.now.first in
    let frame = c.args.frame.now in
    let found = c.args.found.now in
    let before = take c.loop-exit.exit-index c.args.exits.now in
    let exit = c.exit-item.result in
    let numbers = map (λ (e : Exit). e.portal) before in
    record {
      entered =
          subst (λ (numbers : List ℕ). AreEntered (LeadsInto world first frame found numbers) c.args.scratch.now.cone c.enter.new.scratch.cone c.args.scratch.now.due.items c.enter.new.scratch.due.items)
          (sym (ap (map (λ (e : Exit). e.portal)) (take-read c.args.exits.now c.loop-exit.exit-index exit c.loop-exit-test.true c.exit-item.is) ∙ map_push (λ (e : Exit). e.portal) before exit))
          (then_entered (LeadsInto world first frame found numbers) (LeadsInto world first frame found (exit.portal ∷ [])) (LeadsInto world first frame found (numbers ++ exit.portal ∷ []))
          c.args.scratch.now.cone c.loop-exit.scratch.cone c.enter.new.scratch.cone c.args.scratch.now.due.items c.loop-exit.scratch.due.items c.enter.new.scratch.due.items
          (into_cases world first frame found numbers exit.portal) c.loop-exit.invariant.entered c.in_ok-enter.ensures.entered);
      left = c.in_ok-enter.ensures.left;
      words = c.in_ok-enter.ensures.words;
      on = g.met.S.RowSource.goes_on_in_turn c.args.source.now c.loop-exit.source c.enter.new.source c.loop-exit.invariant.on c.enter.ensures.on;
    }

pub returns-clause-entered : goal.returns-clause-entered
returns-clause-entered g c =
    subst (λ (exits : List Exit). AreEntered (LeadsInto c.args.flow.now.world.now c.args.flow.now.first c.args.frame.now c.args.found.now (map (λ (e : Exit). e.portal) exits)) c.args.scratch.now.cone c.loop-exit.scratch.cone c.args.scratch.now.due.items c.loop-exit.scratch.due.items)
    (take_all c.loop-exit.exit-index c.args.exits.now c.loop-exit-test.false) c.loop-exit.invariant.entered

pub enter-requires-clause-words : goal.enter-requires-clause-words
enter-requires-clause-words g c = c.loop-exit.invariant.words

pub returns-clause-words : goal.returns-clause-words
returns-clause-words g c = c.loop-exit.invariant.words

pub enter-requires-clause-exit : goal.enter-requires-clause-exit
enter-requires-clause-exit g c = subst (IsExitOf c.args.flow.now.world.now.portals) (sym c.exit-item.is) (c.requires.exits c.loop-exit.exit-index c.exit-item.result c.loop-exit-test.true)

pub enter-requires-clause-within : goal.enter-requires-clause-within
enter-requires-clause-within g c = subst (λ (e : Exit). e.to < length (numbered_leaves c.args.flow.now.world.now.tree)) (sym c.exit-item.is) (c.requires.within c.loop-exit.exit-index c.exit-item.result c.loop-exit-test.true)

pub returns-in_err-enter-clause-on : goal.returns-in_err-enter-clause-on
returns-in_err-enter-clause-on g c = g.met.S.RowSource.goes_on_in_turn c.args.source.now c.loop-exit.source c.enter.new.source c.loop-exit.invariant.on c.enter.ensures.on

pub returns-clause-on : goal.returns-clause-on
returns-clause-on g c = c.loop-exit.invariant.on

pub enter-requires-clause-left : goal.enter-requires-clause-left
enter-requires-clause-left g c = c.loop-exit.invariant.left

pub returns-clause-left : goal.returns-clause-left
returns-clause-left g c = c.loop-exit.invariant.left
