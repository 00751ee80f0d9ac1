use Rattle.std.proofs.Common.{◌≡◌, ◌<◌, ⊎_elim, ℕ, List, Bool, true, false, [], length, replicate, ap, sym, ◌∙◌, subst}
use Rattle.std.proofs.lemmas.Result.{IfOk-weaker}
use Rattle.std.proofs.lemmas.List.{length-replicate, length-set}
use Rattle.qm_contacts.specs.OwnPortals.{HasOwnPortals}
use Rattle.qm_contacts.specs.World.{World}
use Rattle.qm_chains.specs.inner.Cone.{with_mask}
use Rattle.qm_sight.specs.WordInSight.{LieWithin}
use Rattle.qm_flow.specs.inner.FlowPairs.{pairs_of}
use Rattle.qm_flow.specs.declared.frame_stack.FrameStack.{FrameStack}
use Rattle.qm_flow.specs.inner.FirstMask.{IsFirstMask}
use Rattle.qm_flow.specs.inner.Spares.{AreSparesWide}
use Rattle.qm_flow.specs.inner.WalkSoFar.{IsWalkSoFar, IsSomeWalk, HasEnded}
use Rattle.qm_flow.proofs.BegunWalks.{first_pushed, first_begun, rounds_begin}
use Rattle.qm_flow.proofs.portal_row.walk.Goals as goal

pub copy_from-requires : goal.copy_from-requires
copy_from-requires g c = (c.requires.begun.are []).seen_wide ∙ sym (ap (λ (stack : FrameStack). length stack.room.next.mask) c.stack.view_is ∙ c.requires.fresh.first.mask_wide)

pub push_next-requires-clause-spares : goal.push_next-requires-clause-spares
push_next-requires-clause-spares g c =
    let world = c.args.flow.now.world.now in
    let spares = c.requires.fresh.spares in
    subst (λ (stack : FrameStack). AreSparesWide world (record { frames = stack.frames; ended = stack.ended; room = record { next = with_mask c.copy_from.new.self stack.room.next; scratch = stack.room.scratch } })) (sym c.stack.view_is)
    (record {
      next_is = record { met = spares.next_is.met; mask = ap length c.copy_from.ensures ∙ (c.requires.begun.are []).seen_wide; found = spares.next_is.found };
      ended_are = spares.ended_are;
    })

pub find-requires-clause-row : goal.find-requires-clause-row
find-requires-clause-row g c =
    let clear : length {A = Bool} (replicate c.leaves.result false) ≡ c.leaves.result = length-replicate c.leaves.result false in
    subst (λ (n : ℕ). c.to.result < n) (sym (ap length c.in_ok-found.ensures ∙ clear ∙ c.leaves.ensures)) c.to.ensures.within

pub find-requires-clause-mask : goal.find-requires-clause-mask
find-requires-clause-mask g c = subst (λ (n : ℕ). c.to.result < n) (sym ((c.requires.begun.are []).seen_wide)) c.to.ensures.within

pub show_by_lines-requires-clause-row : goal.show_by_lines-requires-clause-row
show_by_lines-requires-clause-row g c =
    let clear : length {A = Bool} (replicate c.leaves.result false) ≡ c.leaves.result = length-replicate c.leaves.result false in
    let wide = ap length c.in_ok-found.ensures ∙ clear ∙ c.leaves.ensures in
    ⊎_elim (λ it. ap length it.1 ∙ length-set c.in_ok-found.found c.to.result true ∙ wide) (λ kept. ap length kept.1 ∙ wide) c.find.ensures

pub bar_unseen-requires-clause-same_world : goal.bar_unseen-requires-clause-same_world
bar_unseen-requires-clause-same_world g c = g.met.S.RowSource.same_world c.args.source.now c.show_by_lines.new.source c.show_by_lines.ensures.on ∙ c.requires.same_world

pub bar_unseen-requires-clause-pairs : goal.bar_unseen-requires-clause-pairs
bar_unseen-requires-clause-pairs g c = c.requires.begun.are

pub end_walk-requires-clause-same_world : goal.end_walk-requires-clause-same_world
end_walk-requires-clause-same_world g c = g.met.S.RowSource.same_world c.show_by_lines.new.source c.bar_unseen.new.source c.bar_unseen.ensures.on
    ∙ g.met.S.RowSource.same_world c.args.source.now c.show_by_lines.new.source c.show_by_lines.ensures.on ∙ c.requires.same_world ∙ sym (c.bar_unseen.ensures.flow []).same_world

pub end_walk-requires-clause-own_portals : goal.end_walk-requires-clause-own_portals
end_walk-requires-clause-own_portals g c = subst HasOwnPortals (sym (c.bar_unseen.ensures.flow []).same_world) c.requires.own_portals

pub end_walk-requires-clause-walk : goal.end_walk-requires-clause-walk
end_walk-requires-clause-walk g c =
    let world = c.args.flow.now.world.now in
    let now = g.S.RowSource.ceilings c.args.source.now in
    let seen = c.requires.seen in
    let lines = g.met.S.RowSource.narrower c.args.source.now c.show_by_lines.new.source c.show_by_lines.ensures.on in
    let both = g.met.S.RowSource.narrower c.args.source.now c.bar_unseen.new.source (g.met.S.RowSource.goes_on_in_turn c.args.source.now c.show_by_lines.new.source c.bar_unseen.new.source c.show_by_lines.ensures.on c.bar_unseen.ensures.on) in
    let frame = with_mask c.copy_from.new.self c.args.stack.now.room.next in
    subst (λ (w : World). IsSomeWalk w (g.S.RowSource.ceilings c.bar_unseen.new.source) (pairs_of c.bar_unseen.new.flow) c.push_next.new.self.frames.items c.show_by_lines.new.row) (sym (c.bar_unseen.ensures.flow []).same_world)
    (record {
      p = c.args.portal;
      ceilings = seen.ceilings;
      below = λ place n is. seen.below place n (both place n is);
      so_far = rounds_begin world seen.ceilings now (g.S.RowSource.ceilings c.show_by_lines.new.source) c.args.portal frame c.push_next.new.self.frames.items c.find.new.row c.show_by_lines.new.row (pairs_of c.args.flow.now) (pairs_of c.bar_unseen.new.flow)
          (first_pushed _ c.args.stack.now c.copy_from.new.self c.push_next.new.self.frames.items c.stack.view_is c.in_ok-push_next.ensures.frames c.requires.fresh.none) seen.below lines
          (first_begun world c.requires.own_portals seen.ceilings c.args.portal c.args.stack.now.room.next c.requires.fresh.first c.copy_from.new.self c.args.flow.now.seen c.in_ok-found.found c.find.new.row c.to.result
          c.copy_from.ensures seen.mask
          (c.in_ok-found.ensures ∙ ap (λ (n : ℕ). replicate n false) c.leaves.ensures) c.to.ensures.value c.find.ensures) c.in_ok-show_by_lines.ensures.shown
          c.requires.begun (c.bar_unseen.ensures.flow c.show_by_lines.new.row).pairs;
    })

pub end_walk-requires-clause-spares : goal.end_walk-requires-clause-spares
end_walk-requires-clause-spares g c = subst (λ (w : World). AreSparesWide w c.push_next.new.self) (sym (c.bar_unseen.ensures.flow []).same_world) c.in_ok-push_next.ensures.spares

pub returns-in_err-push_next-clause-on : goal.returns-in_err-push_next-clause-on
returns-in_err-push_next-clause-on g c = g.met.S.RowSource.goes_on_itself c.args.source.now

pub returns-in_err-found-clause-on : goal.returns-in_err-found-clause-on
returns-in_err-found-clause-on g c = g.met.S.RowSource.goes_on_itself c.args.source.now

pub returns-in_err-show_by_lines-clause-on : goal.returns-in_err-show_by_lines-clause-on
returns-in_err-show_by_lines-clause-on g c = c.show_by_lines.ensures.on

pub returns-clause-walk : goal.returns-clause-walk
returns-clause-walk g c =
    let world = c.args.flow.now.world.now in
    let now = g.S.RowSource.ceilings c.args.source.now in
    let lines = g.met.S.RowSource.narrower c.args.source.now c.show_by_lines.new.source c.show_by_lines.ensures.on in
    let both = g.met.S.RowSource.narrower c.args.source.now c.bar_unseen.new.source (g.met.S.RowSource.goes_on_in_turn c.args.source.now c.show_by_lines.new.source c.bar_unseen.new.source c.show_by_lines.ensures.on c.bar_unseen.ensures.on) in
    let frame = with_mask c.copy_from.new.self c.args.stack.now.room.next in
    let same = (c.bar_unseen.ensures.flow []).same_world in
    let Walked = λ (w : World) (row : List Bool). (p : ℕ) (ceilings : List (List Bool)) → LieWithin (g.S.RowSource.ceilings c.bar_unseen.new.source) ceilings → IsWalkSoFar w ceilings p (pairs_of c.bar_unseen.new.flow) c.push_next.new.self.frames.items c.show_by_lines.new.row →
    IsWalkSoFar w ceilings p (pairs_of c.end_walk.new.flow) [] row in
    IfOk-weaker c.end_walk.result (Walked c.bar_unseen.new.flow.world.now)
    (λ row. (ceilings : List (List Bool)) → LieWithin now ceilings → IsFirstMask world ceilings c.args.portal c.args.flow.now.seen → HasEnded world ceilings c.args.portal row)
    (λ row walked ceilings below mask.
    let all = subst (λ (w : World). Walked w row) same walked in
    (all c.args.portal ceilings (λ place n is. below place n (both place n is))
    (rounds_begin world ceilings now (g.S.RowSource.ceilings c.show_by_lines.new.source) c.args.portal frame c.push_next.new.self.frames.items c.find.new.row c.show_by_lines.new.row (pairs_of c.args.flow.now) (pairs_of c.bar_unseen.new.flow)
    (first_pushed _ c.args.stack.now c.copy_from.new.self c.push_next.new.self.frames.items c.stack.view_is c.in_ok-push_next.ensures.frames c.requires.fresh.none) below lines
    (first_begun world c.requires.own_portals ceilings c.args.portal c.args.stack.now.room.next c.requires.fresh.first c.copy_from.new.self c.args.flow.now.seen c.in_ok-found.found c.find.new.row c.to.result
    c.copy_from.ensures mask
    (c.in_ok-found.ensures ∙ ap (λ (n : ℕ). replicate n false) c.leaves.ensures) c.to.ensures.value c.find.ensures) c.in_ok-show_by_lines.ensures.shown
    c.requires.begun (c.bar_unseen.ensures.flow c.show_by_lines.new.row).pairs)).walk)
    c.end_walk.ensures.walk

pub returns-clause-on : goal.returns-clause-on
returns-clause-on g c =
    g.met.S.RowSource.goes_on_in_turn c.args.source.now c.bar_unseen.new.source c.end_walk.new.source
    (g.met.S.RowSource.goes_on_in_turn c.args.source.now c.show_by_lines.new.source c.bar_unseen.new.source c.show_by_lines.ensures.on c.bar_unseen.ensures.on) c.end_walk.ensures.on
