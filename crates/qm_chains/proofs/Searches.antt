-- A search frame by frame: how it begins, what becomes of it when a frame is taken off or a portal looked through, and what it
-- comes to. None of the leaves that are sought is missed, whichever these are.
use Rattle.std.proofs.Common.{◌≡◌, ◌⊎◌, inl, inr, ⊎_elim, ℕ, Bool, List, [], ◌∷◌, ◌++◌, All, length, Contains, Some, None, Option, option_to_list, sym, ap, ◌∙◌, subst}
use Rattle.std.specs.Prelude.{MatchOption}
use Rattle.std.proofs.lemmas.List.{append-nil}
use Rattle.std.proofs.lemmas.List.Elements.{All-nil, All-cons, All-push, All-contains, Contains-append_left, Contains-append_right, Contains-push_cases}
use Rattle.qm_lists.specs.WorkList.{IsIn}
use Rattle.qm_lists.proofs.Elements.{All-first_part, Contains-nil, Contains-first, Contains-cons_cases}
use Rattle.qm_contacts.specs.NumberedLeaves.{numbered_leaves}
use Rattle.qm_contacts.specs.Portals.{Portal}
use Rattle.qm_contacts.specs.World.{World}
use Rattle.qm_chains.specs.Shown.{IsAt}
use Rattle.qm_chains.specs.inner.Frame.{Frame, put_back, IsAwaited}
use Rattle.qm_chains.specs.inner.Search.{IsFoundOrAwaited, NoneIsMissed, IsFrameOf, IsLookedThrough, IsSearch}

pub last_there : (below : List Frame) (frame : Frame) → Contains (below ++ frame ∷ []) frame
last_there below frame = Contains-append_right below (frame ∷ []) frame (Contains-first frame [])

module _ (world : World) (p : ℕ) (IsSought : Portal → ℕ → Type 0) where
  -- ---- the last frame has no portal left to try

  module _ (below : List Frame) (last : Frame) (row : List Bool) where
    pub none_missed_done : NoneIsMissed world p IsSought (below ++ last ∷ []) row → last.untried ≡ [] → NoneIsMissed world p IsSought below row
    none_missed_done none_missed none first at n sought = ⊎_elim
        (λ is. inl is)
        (λ awaited. ⊎_elim
        (λ among. inr (awaited.0, among, awaited.2))
        (λ same. absurd (Contains-nil awaited.2.number (subst (λ (numbers : List ℕ). Contains numbers awaited.2.number) (ap (λ (f : Frame). f.untried) (sym same) ∙ none) awaited.2.untried)))
        (Contains-push_cases below last awaited.0 awaited.1))
        (none_missed first at n sought)

    pub search_done : IsSearch world p IsSought (below ++ last ∷ []) row → last.untried ≡ [] → IsSearch world p IsSought below row
    search_done search none = record {
      wide = search.wide;
      frames_are = All-first_part (IsFrameOf world) below (last ∷ []) search.frames_are;
      none_missed = none_missed_done search.none_missed none;
    }

    pub last_is_frame : All (IsFrameOf world) (below ++ last ∷ []) → IsFrameOf world last
    last_is_frame all = All-contains (IsFrameOf world) (below ++ last ∷ []) last all (last_there below last)

  -- ---- a portal is looked through at the last frame

  module _ (below : List Frame) (frame : Frame) (number : ℕ) (row new : List Bool) (child : Option Frame) where
    abbrev after : List Frame
    after = (below ++ frame ∷ []) ++ option_to_list child

    in_child : (child : Option Frame) (first : Portal) (n : ℕ) → MatchOption child ⊥ (IsAwaited world first n) → (g : Frame) × Contains ((below ++ frame ∷ []) ++ option_to_list child) g × IsAwaited world first n g
    in_child None first n never = absurd never
    in_child (Some next) first n awaited = (next, Contains-append_right (below ++ frame ∷ []) (next ∷ []) next (Contains-first next []), awaited)

    module _ (looked : IsLookedThrough world p frame number row new child) where
      -- a leaf that was awaited at the last frame
      at_last : (first : Portal) → IsAt world.portals p first → (n : ℕ) → IsAwaited world first n (put_back number frame) → IsFoundOrAwaited world first after new n
      at_last first at n awaited = ⊎_elim
          (λ here. ⊎_elim
          (λ is. inl is)
          (λ ahead. inr (in_child child first n ahead))
          (looked.none_missed first awaited.portal at (subst (λ (m : ℕ). IsAt world.portals m awaited.portal) (sym here) awaited.portal_is) n awaited.in_mask (record { may_enter = awaited.next.may_enter; via = awaited.next.via; not_stopped = awaited.next.not_stopped; ahead = awaited.next.ahead })))
          (λ later. inr (
            frame,
            Contains-append_left (below ++ frame ∷ []) (option_to_list child) frame (last_there below frame),
            record {
              in_mask = awaited.in_mask;
              number = awaited.number;
              untried = later;
              portal = awaited.portal;
              portal_is = awaited.portal_is;
              next = record { may_enter = awaited.next.may_enter; via = awaited.next.via; not_stopped = awaited.next.not_stopped; ahead = awaited.next.ahead };
            },
          ))
          (Contains-cons_cases number awaited.number frame.untried awaited.untried)

      pub none_missed_looked : NoneIsMissed world p IsSought (below ++ put_back number frame ∷ []) row → NoneIsMissed world p IsSought after new
      none_missed_looked none_missed first at n sought = ⊎_elim
          (λ is. inl (looked.stays n is))
          (λ awaited. ⊎_elim
          (λ among. inr (awaited.0, Contains-append_left (below ++ frame ∷ []) (option_to_list child) awaited.0 (Contains-append_left below (frame ∷ []) awaited.0 among), awaited.2))
          (λ same. at_last first at n (subst (IsAwaited world first n) (sym same) awaited.2))
          (Contains-push_cases below (put_back number frame) awaited.0 awaited.1))
          (none_missed first at n sought)

      -- the frame with one portal fewer to try
      one_fewer : IsFrameOf world (put_back number frame) → IsFrameOf world frame
      one_fewer its = record {
        untried_within = λ other there. its.untried_within other (Contains-append_right (number ∷ []) frame.untried other there);
        met_wide = its.met_wide;
        mask_wide = its.mask_wide;
      }

      with_child : (child : Option Frame) → MatchOption child (Unit {0}) (IsFrameOf world) → All (IsFrameOf world) (below ++ frame ∷ []) → All (IsFrameOf world) ((below ++ frame ∷ []) ++ option_to_list child)
      with_child None none all = subst (All (IsFrameOf world)) (sym (append-nil (below ++ frame ∷ []))) all
      with_child (Some next) its all = All-push (IsFrameOf world) (below ++ frame ∷ []) next all its

      pub search_looked : IsSearch world p IsSought (below ++ put_back number frame ∷ []) row → IsSearch world p IsSought after new
      search_looked search = record {
        wide = looked.same_length ∙ search.wide;
        frames_are = with_child child looked.child_is
            (All-push (IsFrameOf world) below frame (All-first_part (IsFrameOf world) below (put_back number frame ∷ []) search.frames_are)
            (one_fewer (last_is_frame below (put_back number frame) row search.frames_are)));
        none_missed = none_missed_looked search.none_missed;
      }

  -- ---- the beginning and the end

  pub search_begins : (frame : Frame) (row : List Bool) → length row ≡ length (numbered_leaves world.tree) → IsFrameOf world frame → ((first : Portal) → IsAt world.portals p first → (n : ℕ) → IsSought first n → IsIn row n ⊎ IsAwaited world first n frame) → IsSearch world p IsSought (frame ∷ []) row
  search_begins frame row wide is awaited = record {
    wide = wide;
    frames_are = All-cons (IsFrameOf world) frame [] is (All-nil (IsFrameOf world));
    none_missed = λ first at n sought. ⊎_elim (λ found. inl found) (λ there. inr (frame, Contains-first frame [], there)) (awaited first at n sought);
  }

  pub search_ends : (row : List Bool) → IsSearch world p IsSought [] row → (first : Portal) → IsAt world.portals p first → (n : ℕ) → IsSought first n → IsIn row n
  search_ends row search first at n sought = ⊎_elim (λ is. is) (λ awaited. absurd (Contains-nil awaited.0 awaited.1)) (search.none_missed first at n sought)
