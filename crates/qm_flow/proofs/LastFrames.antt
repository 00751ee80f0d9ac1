-- The last of the frames that are ready for a round: it has ended, or a portal is taken off there and tried.
use Rattle.std.proofs.Common.{◌≡◌, ℕ, ◌<◌, Bool, true, false, List, [], ◌∷◌, ◌++◌, length, Contains, Option, option_to_list, get_or, set, sym, ap, ◌∙◌, subst}
use Rattle.std.specs.Bool.{then_some}
use Rattle.std.proofs.lemmas.List.{append-nil}
use Rattle.std.proofs.lemmas.List.Elements.{All-contains}
use Rattle.qm_lists.proofs.Elements.{Contains-first}
use Rattle.qm_contacts.specs.World.{World}
use Rattle.qm_chains.specs.inner.Frame.{Frame, put_back}
use Rattle.qm_chains.specs.inner.Pairs.{Pairs}
use Rattle.qm_chains.specs.inner.Search.{IsFrameOf}
use Rattle.qm_chains.specs.inner.Walk.{AreWide}
use Rattle.qm_chains.proofs.Searches.{last_there}
use Rattle.qm_flow.specs.inner.Round.{AreReady, IsTry, HasEndedLast, HasTriedAtLast}
use Rattle.qm_flow.proofs.LastElements.{IsLastAt, set_at, read_set_at}

module _ {world : World} {pairs : Pairs} {frames : List Frame} {row : List Bool} (ready : AreReady world pairs frames row) {place : ℕ} {last : Frame} (at : IsLastAt frames place last) where
  last_is : IsFrameOf world last
  last_is = All-contains (IsFrameOf world) frames last ready.frames_are (subst (λ (all : List Frame). Contains all last) (sym at.ends) (last_there at.below last))

  pub last_ready_wide : AreWide world last row
  last_ready_wide = record { met = last_is.met_wide; mask = last_is.mask_wide; found = ready.wide }

  -- no portal is left there
  pub has_ended : last.untried ≡ [] → (after : List Frame) → after ≡ at.below → (new : List Bool) → new ≡ row → HasEndedLast frames after row new
  has_ended none after after_is new same = record {
    last = last;
    frames_are = at.ends ∙ ap (λ (below : List Frame). below ++ last ∷ []) (sym after_is);
    none_left = none;
    same_row = same;
  }

  -- a portal is taken off there, and tried

  module _ (number : ℕ) (frame : Frame) (next_is : last ≡ put_back number frame) where
    whole_is : IsFrameOf world (put_back number frame)
    whole_is = subst (IsFrameOf world) next_is last_is

    pub round_within : number < length world.portals
    round_within = whole_is.untried_within number (Contains-first number frame.untried)

    module _ (read d : Frame) (read_is : read ≡ get_or (set frames place frame) place d) where
      same : read ≡ frame
      same = read_is ∙ read_set_at frames place last at frame d

      pub round_wide : AreWide world read row
      round_wide = subst (λ (f : Frame). AreWide world f row) (sym same) (record { met = whole_is.met_wide; mask = whole_is.mask_wide; found = ready.wide })

      pub has_tried : (now : List (List Bool)) (new : List Bool) (child : Option Frame) → IsTry world now pairs read number row new child →
          (after : List Frame) → after ≡ set frames place frame ++ option_to_list child → HasTriedAtLast world now pairs frames after row new
      has_tried now new child tried after after_is = record {
        below = at.below;
        frame = frame;
        number = number;
        child = child;
        frames_are = at.ends ∙ ap (λ (f : Frame). at.below ++ f ∷ []) next_is;
        after_is = after_is ∙ ap (λ (all : List Frame). all ++ option_to_list child) (set_at frames place last at frame);
        tried = subst (λ (f : Frame). IsTry world now pairs f number row new child) same tried;
      }

-- the frames after a round with a child, and with none
pub after_child : (kept after : List Frame) (on : Bool) (next : Frame) → on ≡ true → after ≡ kept ++ next ∷ [] → after ≡ kept ++ option_to_list (then_some on next)
after_child kept after on next is same = same ∙ ap (λ (b : Bool). kept ++ option_to_list (then_some b next)) (sym is)

pub after_none : (kept : List Frame) (on : Bool) (next : Frame) → on ≡ false → kept ≡ kept ++ option_to_list (then_some on next)
after_none kept on next is = sym (append-nil kept) ∙ ap (λ (b : Bool). kept ++ option_to_list (then_some b next)) (sym is)
