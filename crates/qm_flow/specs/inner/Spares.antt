use Rattle.std.specs.Prelude.{All}
use Rattle.qm_contacts.specs.World.{World}
use Rattle.qm_chains.specs.inner.Walk.{AreWide}
use Rattle.qm_flow.specs.declared.frame_stack.FrameStack.{FrameStack}

-- what stands ready beside the frames of a walk has a place for each numbered leaf: the frame that is to be the next one, frames
-- that have ended, and a row for cones
pub record AreSparesWide (world : World) (stack : FrameStack) : Type 0 where
  pub next_is : AreWide world stack.room.next stack.room.scratch.cone
  pub ended_are : All (λ frame. AreWide world frame stack.room.scratch.cone) stack.ended.items
