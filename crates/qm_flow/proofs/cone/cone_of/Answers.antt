use Rattle.std.proofs.Common.{◌≡◌, true, false, [], List, Bool, ℕ, length, map, set, sym, ap, ◌∙◌, subst, arith}
use Rattle.std.proofs.lemmas.List.{nil_from_length, length-replicate}
use Rattle.qm_lists.proofs.WorkLists.{place_within}
use Rattle.qm_lists.specs.WorkList.{IsIn}
use Rattle.qm_portal.specs.declared.exit.Exit.{Exit}
use Rattle.qm_chains.specs.inner.Cone.{IsConeSoFar}
use Rattle.qm_chains.specs.inner.Narrowing.{IsNarrowed}
use Rattle.qm_chains.proofs.LeftToEnter.{left_begins}
use Rattle.qm_chains.proofs.Entering.{cone_begins, leaf_in, cone_more, cone_less, cone_ends}
use Rattle.qm_flow.specs.inner.FlowPairs.{pairs_of}
use Rattle.qm_flow.proofs.LastElements.{pushed_to}
use Rattle.qm_chains.specs.inner.Frame.{Frame}
use Rattle.qm_flow.specs.inner.NewWords.{HaveAllNew}
use Rattle.qm_flow.proofs.OfWorlds.{of_world_later}
use Rattle.qm_flow.proofs.cone.cone_of.Goals as goal

pub loop-leaf-init : goal.loop-leaf-init
loop-leaf-init g c =
    let wide = c.requires.cone in
    record {
      so_far = cone_begins c.args.flow.now.world.now c.args.flow.now.first c.args.frame.now c.args.found.now c.args.entered (length c.args.scratch.now.cone) c.set.new.self c.push.new.self.items wide (omega (arith, wide, c.requires.entered))
          (c.set.ensures ∙ ap (λ (row : List Bool). set row c.args.entered true) c.clear.ensures)
          (pushed_to [] c.clear-2.new.self.items c.push.new.self.items c.args.entered c.in_ok-push.ensures.items c.clear-2.ensures.items);
      left = left_begins c.args.frame.now c.args.entered (length c.args.scratch.now.cone) c.set.new.self c.take_out.new.row c.take_one.new.row (omega (arith, wide, c.requires.entered)) (c.requires.of_world.wide.mask ∙ sym wide)
          (c.set.ensures ∙ ap (λ (row : List Bool). set row c.args.entered true) c.clear.ensures)
          (subst (λ (f : Frame). IsNarrowed (λ n. IsIn f.met n → ⊥) (λ n. IsIn f.met n → ⊥) f.mask c.take_out.new.row) c.frame.view_is
          (subst (λ (row : List Bool). IsNarrowed (λ n. IsIn c.frame.inside.met n → ⊥) (λ n. IsIn c.frame.inside.met n → ⊥) row c.take_out.new.row) c.in_ok-copy_row.ensures c.take_out.ensures))
          c.take_one.ensures;
      words = subst (λ (mask : List Bool). HaveAllNew mask c.args.found.now c.list_new.new.words.items) (ap (λ (f : Frame). f.mask) c.frame.view_is) c.in_ok-list_new.ensures;
      on = g.met.S.RowSource.goes_on_itself c.args.source.now;
    }

pub list_new-requires : goal.list_new-requires
list_new-requires g c = c.requires.of_world.wide.found ∙ sym (ap (λ (f : Frame). length f.mask) c.frame.view_is ∙ c.requires.of_world.wide.mask)

pub exits-exits-requires : goal.exits-exits-requires
exits-exits-requires g c =
    let inside = place_within c.loop-leaf.scratch.cone c.in-Some.leaf (leaf_in c.args.flow.now.world.now c.args.flow.now.first c.args.frame.now c.args.found.now c.args.entered c.loop-leaf.scratch.cone c.loop-leaf.scratch.cone c.loop-leaf.scratch.due.items c.pop.new.self.items c.pop.new.self.items c.in-Some.leaf c.in-Some.ensures.items c.loop-leaf.invariant.so_far) in
    let wide = c.loop-leaf.invariant.so_far.wide in
    omega (arith, inside, wide)

pub go_on-requires-clause-exits : goal.go_on-requires-clause-exits
go_on-requires-clause-exits g c = c.exits-exits.ensures.each

pub go_on-requires-clause-within : goal.go_on-requires-clause-within
go_on-requires-clause-within g c = c.exits-exits.ensures.within

pub go_on-requires-clause-of_world : goal.go_on-requires-clause-of_world
go_on-requires-clause-of_world g c = of_world_later c.args.flow.now.world.now (g.S.RowSource.world c.args.source.now) (g.S.RowSource.world c.loop-leaf.source) (pairs_of c.args.flow.now) c.args.frame.now c.args.found.now
    (g.met.S.RowSource.same_world c.args.source.now c.loop-leaf.source c.loop-leaf.invariant.on) c.requires.of_world

pub loop-leaf-preserved : goal.loop-leaf-preserved
loop-leaf-preserved g c = record {
  so_far = cone_more c.args.flow.now.world.now c.args.flow.now.first c.args.frame.now c.args.found.now c.args.entered c.loop-leaf.scratch.cone c.go_on.new.scratch.cone c.loop-leaf.scratch.due.items c.pop.new.self.items c.go_on.new.scratch.due.items c.in-Some.leaf c.in-Some.ensures.items c.loop-leaf.invariant.so_far
      (map (λ (exit : Exit). exit.portal) c.exits-exits.result.now) c.exits-exits.ensures.leaving c.in_ok-go_on.ensures.entered;
  left = c.in_ok-go_on.ensures.left;
  words = c.in_ok-go_on.ensures.words;
  on = g.met.S.RowSource.goes_on_in_turn c.args.source.now c.loop-leaf.source c.go_on.new.source c.loop-leaf.invariant.on c.go_on.ensures.on;
}

pub loop-leaf-smaller : goal.loop-leaf-smaller
loop-leaf-smaller g c =
    cone_less c.args.flow.now.world.now c.args.flow.now.first c.args.frame.now c.args.found.now c.args.entered c.loop-leaf.scratch.cone c.go_on.new.scratch.cone c.loop-leaf.scratch.due.items c.pop.new.self.items c.go_on.new.scratch.due.items c.in-Some.leaf c.in-Some.ensures.items c.loop-leaf.invariant.so_far
    (map (λ (exit : Exit). exit.portal) c.exits-exits.result.now) c.exits-exits.ensures.leaving c.in_ok-go_on.ensures.entered

pub returns-clause-cone : goal.returns-clause-cone
returns-clause-cone g c =
    let none : c.loop-leaf.scratch.due.items ≡ [] = nil_from_length c.loop-leaf.scratch.due.items (omega (arith, c.loop-leaf.scratch.due.ok.0, c.in_default.ensures.cases.0)) in
    cone_ends c.args.flow.now.world.now c.args.flow.now.first c.args.frame.now c.args.found.now c.args.entered c.loop-leaf.scratch.cone
    (subst (λ (due : List ℕ). IsConeSoFar c.args.flow.now.world.now c.args.flow.now.first c.args.frame.now c.args.found.now c.args.entered c.loop-leaf.scratch.cone due) none c.loop-leaf.invariant.so_far)

-- what is asked and kept besides

pub set-requires : goal.set-requires
set-requires g c =
    let within = c.requires.entered in
    let wide = ap length c.clear.ensures ∙ length-replicate (length c.args.scratch.now.cone) false ∙ c.requires.cone in
    omega (arith, within, wide)

pub go_on-requires-clause-cone : goal.go_on-requires-clause-cone
go_on-requires-clause-cone g c = c.loop-leaf.invariant.so_far.wide

pub go_on-requires-clause-words : goal.go_on-requires-clause-words
go_on-requires-clause-words g c = c.loop-leaf.invariant.words

pub returns-in_err-list_new-clause-on : goal.returns-in_err-list_new-clause-on
returns-in_err-list_new-clause-on g c = g.met.S.RowSource.goes_on_itself c.args.source.now

pub returns-in_err-push-clause-on : goal.returns-in_err-push-clause-on
returns-in_err-push-clause-on g c = g.met.S.RowSource.goes_on_itself c.args.source.now

pub returns-in_err-go_on-clause-on : goal.returns-in_err-go_on-clause-on
returns-in_err-go_on-clause-on g c = g.met.S.RowSource.goes_on_in_turn c.args.source.now c.loop-leaf.source c.go_on.new.source c.loop-leaf.invariant.on c.go_on.ensures.on

pub returns-clause-wide : goal.returns-clause-wide
returns-clause-wide g c = c.loop-leaf.invariant.so_far.wide

pub returns-clause-on : goal.returns-clause-on
returns-clause-on g c = c.loop-leaf.invariant.on

pub go_on-requires-clause-left : goal.go_on-requires-clause-left
go_on-requires-clause-left g c = c.loop-leaf.invariant.left
