use Rattle.std.proofs.Common.{◌≡◌, ◌<◌, inl, inr, ◌-◌, List, [], ◌∷◌, ◌++◌, length, set, refl, sym, ap, ◌∙◌, subst, arith}
use Rattle.std.specs.Bool.{then_some}
use Rattle.std.proofs.lemmas.Result.{on_ok_weaker}
use Rattle.qm_contacts.specs.OwnPortals.{HasOwnPortals}
use Rattle.qm_contacts.specs.World.{World}
use Rattle.qm_chains.specs.inner.Frame.{Frame}
use Rattle.qm_chains.specs.inner.Walk.{AreWide}
use Rattle.qm_flow.specs.declared.flow_state.Flow.{Flow}
use Rattle.qm_flow.specs.inner.Spares.{AreSparesWide}
use Rattle.qm_flow.proofs.LastElements.{last_read, set_at}
use Rattle.qm_flow.proofs.LastFrames.{last_ready_wide, has_ended, round_within, round_wide, has_tried, after_none, after_child}
use Rattle.qm_flow.proofs.PairsKept.{flow_same}
use Rattle.qm_flow.proofs.Spares.{spares_stay_wide, spares_after_try, spares_there}
use Rattle.qm_flow.proofs.rounds.go_round.Goals as goal

pub try_at-requires : goal.try_at-requires
try_at-requires g c =
    let frames = c.args.stack.now.frames.items in
    let last = c.index_mut.result.now in
    let counted = c.len-last.ensures in
    let at = last_read frames c.len-last.result (omega (arith, counted)) c.requires.not_ended last _ c.index_mut.ensures.value in
    let ready = c.requires.ready in
    let frame = c.take_next.new.self in
    let wide = round_wide ready at c.in-Some.portal frame c.in-Some.ensures c.index-frame.result.now _ c.index-frame.ensures in
    λ lifetimes. (
      (refl, tt),
      (
        round_within ready at c.in-Some.portal frame c.in-Some.ensures,
        (
          c.requires.own_portals,
          (
            record { same_world = c.requires.same_world; pairs_are = ready.pairs_are; wide = wide },
            c.requires.spares.next_is,
          ),
        ),
      ),
    )

-- no portal is left at the frame
pub returns-in-None : goal.returns-in-None
returns-in-None g c =
    let frames = c.args.stack.now.frames.items in
    let last = c.index_mut.result.now in
    let counted = c.len-last.ensures in
    let at = last_read frames c.len-last.result (omega (arith, counted)) c.requires.not_ended last _ c.index_mut.ensures.value in
    let ready = c.requires.ready in
    let known = g.T.Tries.known c.args.tries.now in
    let frame = c.take_next.new.self in
    let place = c.len-last.result - 1 in
    let after = c.end_last.new.self in
    let ended = set_at frames place last at frame in
    let Kept = (below : List Frame) (last : Frame) → set frames place frame ≡ below ++ last ∷ [] → (after.frames.items ≡ below) × (after.ended.items ≡ c.args.stack.now.ended.items ++ last ∷ []) in
    record {
      round = on_ok_weaker {P = Kept} c.end_last.result
          (λ kept. inl (has_ended ready at c.in-None.ensures.0 after.frames.items (kept at.below frame ended).0 c.args.found.now refl))
          c.end_last.ensures.frames;
      spares = on_ok_weaker {P = Kept} c.end_last.result
          (λ kept. spares_stay_wide known.world.now c.args.stack.now after frame c.args.found.now c.requires.spares
          (subst (λ (f : Frame). AreWide known.world.now f c.args.found.now) (sym c.in-None.ensures.1) (last_ready_wide ready at))
          c.end_last.ensures.room (kept at.below frame ended).1)
          c.end_last.ensures.frames;
      flow = on_ok_weaker {P = Kept} c.end_last.result
          (λ kept. flow_same (g.S.RowSource.ceilings c.args.source.now) c.args.found.now known ready.pairs_are)
          c.end_last.ensures.frames;
      on = g.met.S.RowSource.goes_on_itself c.args.source.now;
    }

-- a portal is tried, and the chain does not go on
pub returns-then-not-on : goal.returns-then-not-on
returns-then-not-on g c =
    let frames = c.args.stack.now.frames.items in
    let last = c.index_mut.result.now in
    let counted = c.len-last.ensures in
    let at = last_read frames c.len-last.result (omega (arith, counted)) c.requires.not_ended last _ c.index_mut.ensures.value in
    let ready = c.requires.ready in
    let frame = c.take_next.new.self in
    let kept = set frames (c.len-last.result - 1) frame in
    let next = c.try_at.new.room.next in
    let none = after_none kept c.in_ok-on-in-Some.on next c.if-not-on.true in
    record {
      round = inr (has_tried ready at c.in-Some.portal frame c.in-Some.ensures c.index-frame.result.now _ c.index-frame.ensures (g.S.RowSource.ceilings c.args.source.now)
          c.try_at.new.found (then_some c.in_ok-on-in-Some.on next) c.in_ok-on-in-Some.ensures.tried kept none);
      spares = spares_after_try (g.T.Tries.known c.args.tries.now).world.now c.args.stack.now _ c.requires.spares c.in_ok-on-in-Some.ensures.spares refl;
      flow = c.in_ok-on-in-Some.ensures.flow;
      on = c.try_at.ensures.on;
    }

-- a portal is tried, and the chain goes on

pub push_next-requires : goal.push_next-requires
push_next-requires g c =
    let known = g.T.Tries.known c.args.tries.now in
    let new = g.T.Tries.known c.try_at.new.self in
    let go = c.in_ok-on-in-Some.ensures.flow in
    let same = ap (λ (f : Flow). f.world.now) c.flow-flow.ensures ∙ go.same_world in
    record {
      portal = subst (λ (f : Flow). f.first < length f.world.now.portals) (sym c.flow-flow.ensures) (subst (λ (w : World). new.first < length w.portals) (sym go.same_world) go.pairs.are.first_within);
      own_portals = subst HasOwnPortals (sym same) c.requires.own_portals;
      spares = spares_there known.world.now c.flow-flow.result.now.world.now _ same (spares_after_try known.world.now c.args.stack.now _ c.requires.spares c.in_ok-on-in-Some.ensures.spares refl);
    }

pub returns-else-not-on : goal.returns-else-not-on
returns-else-not-on g c =
    let frames = c.args.stack.now.frames.items in
    let last = c.index_mut.result.now in
    let counted = c.len-last.ensures in
    let at = last_read frames c.len-last.result (omega (arith, counted)) c.requires.not_ended last _ c.index_mut.ensures.value in
    let ready = c.requires.ready in
    let known = g.T.Tries.known c.args.tries.now in
    let frame = c.take_next.new.self in
    let kept = set frames (c.len-last.result - 1) frame in
    let next = c.try_at.new.room.next in
    let stack = c.push_next.new.self in
    let after = stack.frames.items in
    let same = ap (λ (f : Flow). f.world.now) c.flow-flow.ensures ∙ c.in_ok-on-in-Some.ensures.flow.same_world in
    let Pushed = after ≡ kept ++ next ∷ [] in
    record {
      round = on_ok_weaker {P = Pushed} c.push_next.result
          (λ pushed. inr (has_tried ready at c.in-Some.portal frame c.in-Some.ensures c.index-frame.result.now _ c.index-frame.ensures (g.S.RowSource.ceilings c.args.source.now)
          c.try_at.new.found (then_some c.in_ok-on-in-Some.on next) c.in_ok-on-in-Some.ensures.tried after (after_child kept after c.in_ok-on-in-Some.on next c.if-not-on.false pushed)))
          c.push_next.ensures.frames;
      spares = on_ok_weaker {P = AreSparesWide c.flow-flow.result.now.world.now stack} {Q = AreSparesWide known.world.now stack} c.push_next.result
          (λ wide. subst (λ (w : World). AreSparesWide w stack) same wide) c.push_next.ensures.spares;
      flow = on_ok_weaker {P = Pushed} c.push_next.result (λ pushed. c.in_ok-on-in-Some.ensures.flow) c.push_next.ensures.frames;
      on = c.try_at.ensures.on;
    }
