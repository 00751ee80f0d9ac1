-- A round of a search: its frames are ready, and what comes of it is a search so far.
use Rattle.std.proofs.Common.{◌≡◌, ⊎_elim, ℕ, Bool, List, sym, subst}
use Rattle.qm_contacts.specs.Portals.{Portal}
use Rattle.qm_contacts.specs.World.{World}
use Rattle.qm_chains.specs.inner.Frame.{Frame}
use Rattle.qm_chains.specs.inner.Pairs.{Pairs, ArePairs}
use Rattle.qm_chains.specs.inner.Search.{IsLookedThrough, IsSearch}
use Rattle.qm_chains.specs.inner.Wanted.{IsWantedVia}
use Rattle.qm_chains.proofs.PairRows.{pairs_stay}
use Rattle.qm_chains.proofs.Searches.{search_done, search_looked}
use Rattle.qm_flow.specs.inner.Round.{AreReady, HasEndedLast, HasTriedAtLast, IsRound}
use Rattle.qm_flow.specs.inner.SearchSoFar.{IsSearchVia}

module _ (world : World) (pairs : Pairs) (sought : ℕ) (found : List Bool) (frames : List Frame) (row : List Bool) (so_far : IsSearchVia world pairs sought found frames row) where
  abbrev IsSought : Portal → ℕ → Type 0
  IsSought first n = IsWantedVia world pairs.first found sought n

  pub search_ready : (later : Pairs) → ArePairs world row later → AreReady world later frames row
  search_ready later are = record { frames_are = so_far.search.frames_are; wide = so_far.search.wide; pairs_are = are }

  module _ (now : List (List Bool)) (later : Pairs) (same_first : later.first ≡ pairs.first) (after : List Frame) (new : List Bool) where
    search_ended : HasEndedLast frames after row new → IsSearchVia world pairs sought found after new
    search_ended its = subst (IsSearchVia world pairs sought found after) (sym its.same_row) (record {
      search = search_done world pairs.first IsSought after its.last row (subst (λ (all : List Frame). IsSearch world pairs.first IsSought all row) its.frames_are so_far.search) its.none_left;
      pairs_are = so_far.pairs_are;
    })

    search_went_on : HasTriedAtLast world now later frames after row new → IsSearchVia world pairs sought found after new
    search_went_on its =
        let whole = subst (λ (all : List Frame). IsSearch world pairs.first IsSought all row) its.frames_are so_far.search in
        let looked = subst (λ (first : ℕ). IsLookedThrough world first its.frame its.number row new its.child) same_first its.tried.looked in
        record {
          search = subst (λ (all : List Frame). IsSearch world pairs.first IsSought all new) (sym its.after_is)
              (search_looked world pairs.first IsSought its.below its.frame its.number row new its.child looked whole);
          pairs_are = pairs_stay world row new pairs looked.stays so_far.pairs_are;
        }

    pub search_round : IsRound world now later frames after row new → IsSearchVia world pairs sought found after new
    search_round round = ⊎_elim (λ its. search_ended its) (λ its. search_went_on its) round
