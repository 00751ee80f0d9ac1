use Rattle.std.specs.Prelude.{◌≡◌, ℕ, []}
use Rattle.qm_contacts.specs.World.{World}
use Rattle.qm_flow.specs.declared.frame_stack.FrameStack.{FrameStack}
use Rattle.qm_flow.specs.inner.FirstFrame.{IsFirstFrame}
use Rattle.qm_flow.specs.inner.Spares.{AreSparesWide}

-- the frames of a walk from the portal of number p that has not begun: there is none, and the next one is that of the chain with
-- this portal alone
pub record IsFreshStack (world : World) (p : ℕ) (stack : FrameStack) : Type 0 where
  pub none : stack.frames.items ≡ []
  pub first : IsFirstFrame world p stack.room.next
  pub spares : AreSparesWide world stack
