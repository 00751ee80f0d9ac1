-- A walk of open chains: how it begins, what becomes of it when a frame is taken off, and what it comes to.
use Rattle.std.proofs.Common.{◌≡◌, inl, inr, ⊎_elim, ℕ, ◌+◌, ◌<◌, Bool, not, List, [], ◌∷◌, ◌++◌, All, length, Some, None, Option, option_to_list, sym, ap, ◌∙◌, subst, arith}
use Rattle.std.specs.Prelude.{MatchOption}
use Rattle.std.specs.List.{count_by, sum_by}
use Rattle.std.proofs.lemmas.List.{append-nil}
use Rattle.std.proofs.lemmas.List.Elements.{All-nil, All-cons, All-push, All-contains, Contains-append_right}
use Rattle.std.proofs.lemmas.List.Sums.{sum_by_push}
use Rattle.std.proofs.lemmas.Option.{slice_get_within}
use Rattle.qm_lists.specs.WorkList.{IsIn}
use Rattle.qm_lists.proofs.Elements.{All-first_part, Contains-nil, Contains-first}
use Rattle.qm_contacts.specs.Portals.{Portal}
use Rattle.qm_contacts.specs.World.{World}
use Rattle.qm_segments.specs.Sight.{IsInSight}
use Rattle.qm_chains.specs.Shown.{IsAt}
use Rattle.qm_chains.specs.inner.Frame.{Frame, put_back, EndsChain}
use Rattle.qm_chains.proofs.Searches.{last_there, none_missed_done, none_missed_looked}
use Rattle.qm_chains.specs.inner.Walk.{IsWalk, frame_weight, AreWide, IsBegun, IsTried}
use Rattle.qm_chains.proofs.Weights.{weight_parts, weight_of_child, weight_some, power_some}

module _ (world : World) (MayHave : ℕ → ℕ → Type 0) (p : ℕ) where
  -- ---- the beginning

  pub walk_begins : (frame : Frame) (row : List Bool) → IsBegun world MayHave p frame row → IsWalk world MayHave p (frame ∷ []) row
  walk_begins frame row begun = record {
    wide = begun.wide;
    chains = All-cons (EndsChain world MayHave p) frame [] begun.chain (All-nil (EndsChain world MayHave p));
    shown = begun.shown;
    none_missed = λ first at n sight. ⊎_elim (λ is. inl is) (λ awaited. inr (frame, Contains-first frame [], awaited)) (begun.none_missed first at n sight);
  }

  -- ---- the last frame

  module _ (below : List Frame) (last : Frame) (row : List Bool) (walk : IsWalk world MayHave p (below ++ last ∷ []) row) where
    pub last_ends : EndsChain world MayHave p last
    last_ends = All-contains (EndsChain world MayHave p) (below ++ last ∷ []) last walk.chains (last_there below last)

    pub last_wide : AreWide world last row
    last_wide = record { met = last_ends.met_wide; mask = last_ends.mask_wide; found = walk.wide }

    -- it has no portal left to try
    pub walk_done_with : last.untried ≡ [] → IsWalk world MayHave p below row
    walk_done_with none = record {
      wide = walk.wide;
      chains = All-first_part (EndsChain world MayHave p) below (last ∷ []) walk.chains;
      shown = walk.shown;
      none_missed = none_missed_done world p (IsInSight world.tree) below last row walk.none_missed none;
    }

  -- ---- a portal is tried at the last frame

  module _ (below : List Frame) (frame : Frame) (number : ℕ) (row new : List Bool) (child : Option Frame) (walk : IsWalk world MayHave p (below ++ put_back number frame ∷ []) row) where
    ends : EndsChain world MayHave p (put_back number frame)
    ends = last_ends below (put_back number frame) row walk

    pub tried_within : number < length world.portals
    tried_within =
        let q = ends.untried_leave number (Contains-first number frame.untried) in
        slice_get_within world.portals number q.0 q.1

    -- the frame with one portal fewer to try
    frame_ends : EndsChain world MayHave p frame
    frame_ends = record {
      first = ends.first;
      first_is = ends.first_is;
      last = ends.last;
      before = ends.before;
      open_chain = ends.open_chain;
      later = ends.later;
      numbers_are = ends.numbers_are;
      each_may = ends.each_may;
      met_is = ends.met_is;
      untried_leave = λ other there. ends.untried_leave other (Contains-append_right (number ∷ []) frame.untried other there);
      met_wide = ends.met_wide;
      mask_wide = ends.mask_wide;
    }

    abbrev pub after : List Frame
    after = (below ++ frame ∷ []) ++ option_to_list child

    child_chains : (child : Option Frame) → MatchOption child (Unit {0}) (EndsChain world MayHave p) → All (EndsChain world MayHave p) ((below ++ frame ∷ []) ++ option_to_list child)
    child_chains None none = subst (All (EndsChain world MayHave p)) (sym (append-nil (below ++ frame ∷ []))) (All-push (EndsChain world MayHave p) below frame (All-first_part (EndsChain world MayHave p) below (put_back number frame ∷ []) walk.chains) frame_ends)
    child_chains (Some next) its = All-push (EndsChain world MayHave p) (below ++ frame ∷ []) next (All-push (EndsChain world MayHave p) below frame (All-first_part (EndsChain world MayHave p) below (put_back number frame ∷ []) walk.chains) frame_ends) its

    module _ (tried : IsTried world MayHave p frame number row new child) where
      pub walk_tried : IsWalk world MayHave p after new
      walk_tried = record {
        wide = tried.looked.same_length ∙ walk.wide;
        chains = child_chains child tried.chain;
        shown = λ n is. ⊎_elim (λ old. walk.shown n old) (λ shown. shown) (tried.gained n is);
        none_missed = none_missed_looked world p (IsInSight world.tree) below frame number row new child tried.looked walk.none_missed;
      }

  -- ---- the end

  pub walk_ends : (row : List Bool) → IsWalk world MayHave p [] row → (first : Portal) → IsAt world.portals p first → (n : ℕ) → IsInSight world.tree first n → IsIn row n
  walk_ends row walk first at n sight = ⊎_elim (λ is. is) (λ awaited. absurd (Contains-nil awaited.0 awaited.1)) (walk.none_missed first at n sight)

  -- ---- less and less is left to do

  pub weight_done_with : (below : List Frame) (last : Frame) → sum_by (frame_weight world) below < sum_by (frame_weight world) (below ++ last ∷ [])
  weight_done_with below last =
      let some = weight_some world last in
      let all = sum_by_push (frame_weight world) below last in
      omega (arith, some, all)

  pub weight_tried : (below : List Frame) (frame : Frame) (number : ℕ) (row new : List Bool) (child : Option Frame) → IsTried world MayHave p frame number row new child →
      sum_by (frame_weight world) ((below ++ frame ∷ []) ++ option_to_list child) < sum_by (frame_weight world) (below ++ put_back number frame ∷ [])
  weight_tried below frame number row new child tried = by child tried.fewer
    where
      by : (child : Option Frame) → MatchOption child (Unit {0}) (λ after. (length after.untried < length world.portals + 1) × (count_by not after.met < count_by not frame.met)) →
          sum_by (frame_weight world) ((below ++ frame ∷ []) ++ option_to_list child) < sum_by (frame_weight world) (below ++ put_back number frame ∷ [])
      by None none =
          let all = sum_by_push (frame_weight world) below (put_back number frame) in
          let now = sum_by_push (frame_weight world) below frame in
          let parts = weight_parts world frame number in
          let end = ap (sum_by (frame_weight world)) (append-nil (below ++ frame ∷ [])) in
          let some = power_some (length world.portals) (count_by not frame.met) in
          omega (arith, all, now, parts, end, some)
      by (Some next) its =
          let all = sum_by_push (frame_weight world) below (put_back number frame) in
          let now = sum_by_push (frame_weight world) below frame in
          let more = sum_by_push (frame_weight world) (below ++ frame ∷ []) next in
          let parts = weight_parts world frame number in
          let less = weight_of_child world frame next its.0 its.1 in
          omega (arith, all, now, more, parts, less)
