use Rattle.std.proofs.Common.{◌∷◌, [], ◌++◌, sym, ap, ◌∙◌, subst}
use Rattle.qm_chains.specs.inner.Frame.{Frame}
use Rattle.qm_chains.specs.inner.Walk.{AreWide}
use Rattle.qm_flow.proofs.frame_stack.FrameStack.push_next.Goals as goal

pub returns-clause-frames : goal.returns-clause-frames
returns-clause-frames c = c.in_ok-push.ensures.items ∙ ap (λ (f : Frame). c.args.self.now.frames.items ++ f ∷ []) c.replace-next.ensures.value

pub returns-clause-spares : goal.returns-clause-spares
returns-clause-spares c =
    let cone = c.args.self.now.room.scratch.cone in
    let wide = c.in_ok-spare.ensures.wide cone c.requires.spares.next_is.found c.requires.spares.ended_are in
    record {
      next_is = subst (λ (f : Frame). AreWide c.args.world.now f cone) (sym c.replace-next.ensures.after) wide.0;
      ended_are = wide.1;
    }
