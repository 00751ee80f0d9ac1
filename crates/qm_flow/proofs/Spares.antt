-- What stands ready beside the frames of a walk stays wide enough.
use Rattle.std.proofs.Common.{◌≡◌, Bool, List, [], ◌∷◌, ◌++◌, All, sym, subst}
use Rattle.std.proofs.lemmas.List.Elements.{All-push}
use Rattle.qm_contacts.specs.World.{World}
use Rattle.qm_chains.specs.inner.Frame.{Frame}
use Rattle.qm_chains.specs.inner.Walk.{AreWide}
use Rattle.qm_flow.specs.declared.frame_stack.FrameStack.{FrameStack}
use Rattle.qm_flow.specs.declared.room.Room.{Room}
use Rattle.qm_flow.specs.inner.Spares.{AreSparesWide}

-- a frame has ended
pub spares_stay_wide : (world : World) (old new : FrameStack) (last : Frame) (row : List Bool) → AreSparesWide world old → AreWide world last row →
    new.room ≡ old.room → new.ended.items ≡ old.ended.items ++ last ∷ [] → AreSparesWide world new
spares_stay_wide world old new last row spares wide same more =
    let Wide = λ (f : Frame). AreWide world f old.room.scratch.cone in
    let ended = subst (All Wide) (sym more) (All-push Wide old.ended.items last spares.ended_are (record { met = wide.met; mask = wide.mask; found = spares.next_is.found })) in
    record {
      next_is = subst (λ (room : Room). AreWide world room.next room.scratch.cone) (sym same) spares.next_is;
      ended_are = subst (λ (room : Room). All (λ (f : Frame). AreWide world f room.scratch.cone) new.ended.items) (sym same) ended;
    }

-- the room was used
pub spares_after_try : (world : World) (old new : FrameStack) → AreSparesWide world old → AreWide world new.room.next new.room.scratch.cone → new.ended.items ≡ old.ended.items → AreSparesWide world new
spares_after_try world old new spares wide same_ended = record {
  next_is = wide;
  ended_are = subst (All (λ (f : Frame). AreWide world f new.room.scratch.cone)) (sym same_ended)
      (λ k d within. let it = spares.ended_are k d within in record { met = it.met; mask = it.mask; found = wide.found });
}

-- in a world that is the same
pub spares_there : (world there : World) (stack : FrameStack) → there ≡ world → AreSparesWide world stack → AreSparesWide there stack
spares_there world there stack same spares = subst (λ (w : World). AreSparesWide w stack) (sym same) spares
