use Rattle.std.specs.Prelude.{◌≡◌, Bool, List, Option, MatchOption}
use Rattle.qm_lists.specs.Unseen.{HasUnseen}
use Rattle.qm_lists.specs.CutTo.{IsCutTo}
use Rattle.qm_chains.specs.inner.Cone.{with_mask}
use Rattle.qm_chains.specs.inner.Frame.{Frame}

-- what is left of a frame whose mask was cut to a row: no frame where nothing new would be in it
pub record IsCutFrame (cone found : List Bool) (frame : Frame) (left : Option Frame) : Type 0 where
  pub mask : List Bool
  pub cut : IsCutTo cone frame.mask mask
  pub left_is : MatchOption left (HasUnseen mask found → ⊥) (λ next. next ≡ with_mask mask frame)
