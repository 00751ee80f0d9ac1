-- The lanes of portals, one by one, and in order.
use Rattle.std.proofs.Common.{◌≡◌, ℕ, ◌+◌, ◌<◌, List, [], ◌∷◌, ◌++◌, length, get_or, Some, slice_get, ⊎_elim, sym, ◌∙◌, subst, arith}
use Rattle.std.specs.List.{All}
use Rattle.std.specs.List.Sorted.{IsPermutation}
use Rattle.std.proofs.lemmas.Bool.{cases_eq}
use Rattle.std.proofs.lemmas.List.{length-append}
use Rattle.std.proofs.lemmas.List.Elements.{All-push, Contains-append_left, Contains-push}
use Rattle.std.proofs.lemmas.List.Sorted.{All-permutation, Contains-permutation, length_permutation}
use Rattle.std.proofs.lemmas.Option.{slice_get-get_or, slice_get_within}
use Rattle.qm_contacts.specs.Portals.{Portal}
use Rattle.qm_base.specs.declared.lane.Lane.{Lane}
use Rattle.qm_base.specs.inner.Lanes.{IsLane, HasLane, AreLanes}

module _ (portals : List Portal) (lanes : List Lane) (p : ℕ) (so_far : (length lanes ≡ p) × All (IsLane portals) lanes × ((q : ℕ) → q < p → HasLane lanes q)) where
  pub lane_added : (lane : Lane) → IsLane portals lane → lane.portal ≡ p →
      (length (lanes ++ lane ∷ []) ≡ p + 1) × All (IsLane portals) (lanes ++ lane ∷ []) × ((q : ℕ) → q < p + 1 → HasLane (lanes ++ lane ∷ []) q)
  lane_added lane is of = (
    (let one = length-append lanes (lane ∷ []) in let count = so_far.0 in omega (arith, one, count)),
    All-push (IsLane portals) lanes lane so_far.1 is,
    (λ q less. ⊎_elim
        (λ here. record { lane = lane; among = Contains-push lanes lane; of = of ∙ sym here })
        (λ other. let old = so_far.2 q (omega (arith, less, other)) in record { lane = old.lane; among = Contains-append_left lanes (lane ∷ []) old.lane old.among; of = old.of })
        (cases_eq q p)),
  )

  pub all_have_lanes : length portals ≡ p → AreLanes portals lanes
  all_have_lanes all = record {
    one_each = so_far.0 ∙ sym all;
    each = so_far.1;
    every = λ q less. so_far.2 q (omega (arith, less, all));
  }

-- in another order
pub lanes_in_order : (portals : List Portal) (old new : List Lane) → AreLanes portals old → IsPermutation old new → AreLanes portals new
lanes_in_order portals old new are same = record {
  one_each = length_permutation old new same ∙ are.one_each;
  each = All-permutation (IsLane portals) old new same are.each;
  every = λ p less. let had = are.every p less in record { lane = had.lane; among = Contains-permutation old new had.lane same had.among; of = had.of };
}

-- the lane at a place
pub lane_at : (portals : List Portal) (lanes : List Lane) → All (IsLane portals) lanes → (k : ℕ) (lane : Lane) → slice_get lanes k ≡ Some lane → IsLane portals lane
lane_at portals lanes each k lane at =
    let within = slice_get_within lanes k lane at in
    let same : Some (get_or lanes k lane) ≡ Some lane = sym (slice_get-get_or lanes k lane within) ∙ at in
    let is : get_or lanes k lane ≡ lane = cc in
    subst (IsLane portals) is (each k lane within)

-- and the portal of each is one
pub portals_within : (portals : List Portal) (lanes : List Lane) → All (IsLane portals) lanes → All (λ lane. lane.portal < length portals) lanes
portals_within portals lanes each k d within = let is = each k d within in slice_get_within portals (get_or lanes k d).portal is.portal is.portal_is
