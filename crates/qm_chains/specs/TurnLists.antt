use Rattle.std.specs.Prelude.{◌≡◌, ℕ, ◌<◌, Bool, List, [], ◌++◌, reverse, length, drop, All, Contains, slice_index_or}
use Rattle.std.specs.List.{Any}
use Rattle.std.specs.List.Sorted.{IsStrictlyIncreasing}
use Rattle.qm_lists.specs.WorkList.{IsIn}
use Rattle.qm_contacts.specs.Portals.{Portal}
use Rattle.qm_chains.specs.Turns.{MayHaveAfter}

-- Turns that several workers take in parallel: for each worker the list of the portals whose turns it took, by their numbers and
-- in order.

-- numbers ascend, and may begin again once: they are two ascending lists, one after the other
pub record AscendTwice (numbers : List ℕ) : Type 0 where
  pub first : List ℕ
  pub second : List ℕ
  pub both : numbers ≡ first ++ second
  pub first_ascends : IsStrictlyIncreasing first
  pub second_ascends : IsStrictlyIncreasing second

-- these are turns of that many workers at that many portals: each portal had its turn in some list; each list ascends, and the
-- first alone may begin again once
pub record AreTurns (workers portals : ℕ) (turns : List (List ℕ)) : Type 0 where
  pub one_each : length turns ≡ workers
  pub in_range : All (All (λ number. number < portals)) turns
  pub each_stands : (number : ℕ) → number < portals → Any (λ list. Contains list number) turns
  pub first_ascends : AscendTwice (slice_index_or turns 0 [])
  pub others_ascend : All IsStrictlyIncreasing (drop 1 turns)

-- the leaf of number n is in the reuse of the portal of number q along a list: its row may have it after these turns, in order
abbrev pub IsInReuseAlong : List Portal → List ℕ → ℕ → ℕ → Type 0
IsInReuseAlong portals list q n = MayHaveAfter portals (reverse list) n q

-- it is in the reuse of the portal over turns: along each list of them
abbrev pub IsInReuseOver : List Portal → List (List ℕ) → ℕ → ℕ → Type 0
IsInReuseOver portals turns q n = All (λ list. IsInReuseAlong portals list q n) turns

-- rows, one for each portal in their order, lie within the reuse of their portals over turns
abbrev pub LieInReuseOver : List Portal → List (List ℕ) → List (List Bool) → Type 0
LieInReuseOver portals turns rows = (n q : ℕ) → IsIn (slice_index_or rows q []) n → IsInReuseOver portals turns q n
