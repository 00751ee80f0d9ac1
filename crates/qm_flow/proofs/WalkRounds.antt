-- A round of the walk: its frames are ready, and what comes of it is a walk so far, with less left to do.
use Rattle.std.proofs.Common.{⊎_elim, ℕ, ◌<◌, Bool, List, [], ◌∷◌, ◌++◌, option_to_list, sym, ◌∙◌, subst}
use Rattle.std.specs.List.{sum_by}
use Rattle.std.proofs.lemmas.Option.{slice_get_within}
use Rattle.qm_contacts.specs.World.{World}
use Rattle.qm_chains.specs.inner.Frame.{Frame, put_back, EndsChain}
use Rattle.qm_chains.specs.inner.Pairs.{Pairs}
use Rattle.qm_chains.specs.inner.Walk.{IsWalk, IsTried, frame_weight}
use Rattle.qm_chains.proofs.Walks.{last_ends, walk_tried, walk_done_with, weight_tried, weight_done_with}
use Rattle.qm_sight.specs.WordInSight.{LieWithin}
use Rattle.qm_sight.specs.InCeiling.{IsInCeiling}
use Rattle.qm_flow.specs.inner.PairsGoOn.{PairsGoOn}
use Rattle.qm_flow.specs.inner.Round.{AreReady, HasEndedLast, HasTriedAtLast, IsRound}
use Rattle.qm_flow.specs.inner.WalkSoFar.{IsWalkSoFar}

module _ (world : World) (ceilings : List (List Bool)) (p : ℕ) (pairs : Pairs) (frames : List Frame) (row : List Bool) (so_far : IsWalkSoFar world ceilings p pairs frames row) where
  abbrev MayHave : ℕ → ℕ → Type 0
  MayHave = IsInCeiling ceilings

  pub walk_ready : AreReady world pairs frames row
  walk_ready = record {
    frames_are = λ k d within.
        let chain = so_far.walk.chains k d within in
        record {
          untried_within = λ number there. let q = chain.untried_leave number there in slice_get_within world.portals number q.0 q.1;
          met_wide = chain.met_wide;
          mask_wide = chain.mask_wide;
        };
    wide = so_far.walk.wide;
    pairs_are = so_far.pairs_are;
  }

  module _ (now : List (List Bool)) (lie : LieWithin now ceilings) (after : List Frame) (new : List Bool) where
    -- the last frame has ended

    module _ (its : HasEndedLast frames after row new) where
      ended_walk : IsWalk world MayHave p (after ++ its.last ∷ []) row
      ended_walk = subst (λ (all : List Frame). IsWalk world MayHave p all row) its.frames_are so_far.walk

      walk_ended : IsWalk world MayHave p after new
      walk_ended = subst (IsWalk world MayHave p after) (sym its.same_row) (walk_done_with world MayHave p after its.last row ended_walk its.none_left)

      less_ended : sum_by (frame_weight world) after < sum_by (frame_weight world) frames
      less_ended = subst (λ (all : List Frame). sum_by (frame_weight world) after < sum_by (frame_weight world) all) (sym its.frames_are) (weight_done_with world MayHave p after its.last)

    -- a portal was tried there

    module _ (its : HasTriedAtLast world now pairs frames after row new) where
      whole : IsWalk world MayHave p (its.below ++ put_back its.number its.frame ∷ []) row
      whole = subst (λ (all : List Frame). IsWalk world MayHave p all row) its.frames_are so_far.walk

      tried : IsTried world MayHave p its.frame its.number row new its.child
      tried =
          let chain = last_ends world MayHave p its.below (put_back its.number its.frame) row whole in
          subst (λ (first : ℕ). IsTried world MayHave first its.frame its.number row new its.child) so_far.first
          (its.tried.tried ceilings lie so_far.within (subst (λ (first : ℕ). EndsChain world MayHave first (put_back its.number its.frame)) (sym so_far.first) chain))

      walk_went_on : IsWalk world MayHave p after new
      walk_went_on = subst (λ (all : List Frame). IsWalk world MayHave p all new) (sym its.after_is) (walk_tried world MayHave p its.below its.frame its.number row new its.child whole tried)

      less_tried : sum_by (frame_weight world) after < sum_by (frame_weight world) frames
      less_tried = subst (λ (all : List Frame). sum_by (frame_weight world) all < sum_by (frame_weight world) frames) (sym its.after_is)
          (subst (λ (all : List Frame). sum_by (frame_weight world) ((its.below ++ its.frame ∷ []) ++ option_to_list its.child) < sum_by (frame_weight world) all) (sym its.frames_are)
          (weight_tried world MayHave p its.below its.frame its.number row new its.child tried))

    pub walk_round : IsRound world now pairs frames after row new → (new_pairs : Pairs) → PairsGoOn world now new pairs new_pairs → IsWalkSoFar world ceilings p new_pairs after new
    walk_round round new_pairs go = record {
      walk = ⊎_elim (λ its. walk_ended its) (λ its. walk_went_on its) round;
      pairs_are = go.are;
      first = go.same_first ∙ so_far.first;
      within = go.within ceilings lie so_far.within;
    }

    pub less_round : IsRound world now pairs frames after row new → sum_by (frame_weight world) after < sum_by (frame_weight world) frames
    less_round round = ⊎_elim (λ its. less_ended its) (λ its. less_tried its) round
