-- The frame of the chain with one portal alone.
use Rattle.std.proofs.Common.{◌≡◌, ℕ, true, false, Bool, List, length, replicate, set, ap, ◌∙◌}
use Rattle.std.proofs.lemmas.List.{length-set, length-replicate}
use Rattle.qm_contacts.specs.NumberedLeaves.{numbered_leaves}
use Rattle.qm_contacts.specs.World.{World}
use Rattle.qm_chains.specs.inner.Frame.{Frame}
use Rattle.qm_chains.specs.inner.Walk.{AreWide}
use Rattle.qm_flow.specs.inner.FirstFrame.{IsFirstFrame}

module _ (world : World) (p : ℕ) (frame : Frame) (is : IsFirstFrame world p frame) where
  abbrev leaves : ℕ
  leaves = length (numbered_leaves world.tree)

  pub first_met_wide : length frame.met ≡ leaves
  first_met_wide =
      let clear : length {A = Bool} (replicate leaves false) ≡ leaves = length-replicate leaves false in
      ap length is.met_is ∙ length-set (set (replicate leaves false) is.first.from true) is.first.to true ∙ length-set (replicate leaves false) is.first.from true ∙ clear

  pub first_frame_wide : (cone : List Bool) → length cone ≡ leaves → AreWide world frame cone
  first_frame_wide cone wide = record { met = first_met_wide; mask = is.mask_wide; found = wide }
