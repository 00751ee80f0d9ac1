use Rattle.std.proofs.Common.{◌∷◌, [], ◌++◌, All, subst, ◌∙◌, ◌≡◌, List, Bool, length}
use Rattle.std.proofs.lemmas.Result.{IfOk-weaker}
use Rattle.std.proofs.lemmas.List.{append-nil}
use Rattle.std.proofs.lemmas.List.Elements.{All-contains, Contains-append_right}
use Rattle.qm_lists.proofs.Elements.{All-first_part, Contains-first}
use Rattle.qm_chains.specs.inner.Frame.{Frame}
use Rattle.qm_chains.specs.inner.Walk.{AreWide}
use Rattle.qm_contacts.specs.NumberedLeaves.{numbered_leaves}
use Rattle.qm_flow.specs.inner.FirstFrame.{IsFirstFrame}
use Rattle.qm_flow.proofs.FirstFrames.{first_frame_wide}
use Rattle.qm_flow.proofs.frame_stack.spare_frame.Goals as goal

pub returns-in-Some : goal.returns-in-Some
returns-in-Some c = record {
  wide = λ cone wide all.
      let Wide = λ (f : Frame). AreWide c.args.world.now f cone in
      let both = subst (All Wide) c.in-Some.ensures.items all in
      let rest = c.pop.new.self.items in (
        All-contains Wide (rest ++ c.in-Some.frame ∷ []) c.in-Some.frame both (Contains-append_right rest (c.in-Some.frame ∷ []) c.in-Some.frame (Contains-first c.in-Some.frame [])),
        All-first_part Wide rest (c.in-Some.frame ∷ []) both,
      );
}

pub returns-in-None : goal.returns-in-None
returns-in-None c = record {
  wide = IfOk-weaker c.first.result (IsFirstFrame c.args.world.now c.args.portal)
      (λ frame. (cone : List Bool) → length cone ≡ length (numbered_leaves c.args.world.now.tree) → All (λ (f : Frame). AreWide c.args.world.now f cone) c.args.ended.now.items →
      AreWide c.args.world.now frame cone × All (λ (f : Frame). AreWide c.args.world.now f cone) c.pop.new.self.items)
      (λ frame is cone wide all. (
        first_frame_wide c.args.world.now c.args.portal frame is cone wide,
        subst (All (λ (f : Frame). AreWide c.args.world.now f cone)) (c.in-None.ensures.items ∙ append-nil c.pop.new.self.items) all,
      ))
      c.first.ensures;
}
