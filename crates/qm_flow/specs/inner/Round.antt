use Rattle.std.specs.Prelude.{◌≡◌, ◌⊎◌, ℕ, Bool, List, [], ◌∷◌, ◌++◌, All, length, Option, option_to_list}
use Rattle.qm_contacts.specs.NumberedLeaves.{numbered_leaves}
use Rattle.qm_contacts.specs.World.{World}
use Rattle.qm_chains.specs.inner.Frame.{Frame, put_back, EndsChain}
use Rattle.qm_chains.specs.inner.Narrowing.{IsNarrowed}
use Rattle.qm_chains.specs.inner.OwnRows.{MustHave, CanHave}
use Rattle.qm_chains.specs.inner.Pairs.{Pairs, ArePairs, LieWithinPairs}
use Rattle.qm_chains.specs.inner.Search.{IsFrameOf, IsLookedThrough}
use Rattle.qm_chains.specs.inner.Walk.{IsTried}
use Rattle.qm_sight.specs.WordInSight.{ceiling_of, LieWithin}
use Rattle.qm_sight.specs.InCeiling.{IsInCeiling}

-- One round over the frames of a walk or of a search.

-- frames that are ready for it: they are of this world, and what is known of pairs holds for what is found
pub record AreReady (world : World) (pairs : Pairs) (frames : List Frame) (row : List Bool) : Type 0 where
  pub frames_are : All (IsFrameOf world) frames
  pub wide : length row ≡ length (numbered_leaves world.tree)
  pub pairs_are : ArePairs world row pairs

-- a portal is tried at a frame: it is looked through; and where the frame ended an open chain over ceilings that have what the
-- source can answer and what rows of pairs have, the chain goes on over these ceilings
pub record IsTry (world : World) (now : List (List Bool)) (pairs : Pairs) (frame : Frame) (number : ℕ) (old new : List Bool) (child : Option Frame) : Type 0 where
  pub looked : IsLookedThrough world pairs.first frame number old new child
  pub tried : (ceilings : List (List Bool)) → LieWithin now ceilings → LieWithinPairs (IsInCeiling ceilings) pairs.own →
      EndsChain world (IsInCeiling ceilings) pairs.first (put_back number frame) → IsTried world (IsInCeiling ceilings) pairs.first frame number old new child

-- for all ceilings over which the row of the portal narrows the mask of the frame to this one, the portal is tried
abbrev pub TriesBy : World → Pairs → Frame → ℕ → List Bool → List Bool → List Bool → Option Frame → Type 0
TriesBy world pairs frame number mask old new child = (now : List (List Bool)) →
    IsNarrowed (MustHave world pairs.own number) (CanHave (ceiling_of now number) pairs.own number) frame.mask mask → IsTry world now pairs frame number old new child

-- no portal was left at the last frame, which has ended
pub record HasEndedLast (frames after : List Frame) (old new : List Bool) : Type 0 where
  pub last : Frame
  pub frames_are : frames ≡ after ++ last ∷ []
  pub none_left : last.untried ≡ []
  pub same_row : new ≡ old

-- a portal was taken off at the last frame, and tried there
pub record HasTriedAtLast (world : World) (now : List (List Bool)) (pairs : Pairs) (frames after : List Frame) (old new : List Bool) : Type 0 where
  pub below : List Frame
  pub frame : Frame
  pub number : ℕ
  pub child : Option Frame
  pub frames_are : frames ≡ below ++ put_back number frame ∷ []
  pub after_is : after ≡ (below ++ frame ∷ []) ++ option_to_list child
  pub tried : IsTry world now pairs frame number old new child

-- what a round makes of frames and of what is found, by what was known of pairs before it
abbrev pub IsRound : World → List (List Bool) → Pairs → List Frame → List Frame → List Bool → List Bool → Type 0
IsRound world now pairs frames after old new = HasEndedLast frames after old new ⊎ HasTriedAtLast world now pairs frames after old new
