use Rattle.std.proofs.Common.{◌≡◌, Bool, false, All, length, replicate, sym, ap, ◌∙◌, subst}
use Rattle.std.proofs.lemmas.List.{length-replicate}
use Rattle.std.proofs.lemmas.List.Elements.{All-nil}
use Rattle.qm_chains.specs.inner.Frame.{Frame}
use Rattle.qm_chains.specs.inner.Walk.{AreWide}
use Rattle.qm_flow.proofs.FirstFrames.{first_frame_wide}
use Rattle.qm_flow.proofs.frame_stack.FrameStack.of.Goals as goal

pub returns : goal.returns
returns c =
    let world = c.args.world.now in
    let cone = c.in_ok-cone.cone in
    let clear : length {A = Bool} (replicate c.leaves.result false) ≡ c.leaves.result = length-replicate c.leaves.result false in
    let wide = ap length c.in_ok-cone.ensures ∙ clear in
    let Wide = λ (f : Frame). AreWide world f cone in
    record {
      fresh = record {
        none = c.new-4.ensures.items;
        first = c.in_ok-next.ensures;
        spares = record {
          next_is = first_frame_wide world c.args.portal c.in_ok-next.next c.in_ok-next.ensures cone (wide ∙ c.leaves.ensures);
          ended_are = subst (All Wide) (sym c.new-5.ensures.items) (All-nil Wide);
        };
      };
    }
