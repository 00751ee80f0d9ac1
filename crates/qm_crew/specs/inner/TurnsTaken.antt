use Rattle.std.specs.Prelude.{◌≡◌, ℕ, ◌<◌, List, [], ◌∷◌, ◌++◌, length, All, Contains}
use Rattle.std.specs.List.{Any, range_with_len}
use Rattle.std.specs.List.Sorted.{IsStrictlyIncreasing}
use Rattle.qm_contacts.specs.World.{World}
use Rattle.qm_chains.specs.Shown.{IsShown}
use Rattle.qm_chains.specs.TurnLists.{AreTurns, IsInReuseAlong}
use Rattle.qm_sight.specs.InCeiling.{IsInCeiling}
use Rattle.qm_sight.specs.WordInSight.{LieWithin}
use Rattle.qm_shared_rows.specs.Findings.{Findings}
use Rattle.qm_board.specs.Ceilings.{ceiling_rows}

-- What passes know of turns that were taken on a board.

-- a pass has found out that rows lie within others
abbrev pub IsNarrower : World → Findings → Findings → Type 0
IsNarrower world old new = LieWithin (ceiling_rows world new) (ceiling_rows world old)

-- a portal had a turn: its row has only what is shown over rows as they stood before, and no row has gained a leaf
pub record HadTurn (world : World) (portal : ℕ) (old new : Findings) : Type 0 where
  pub narrower : IsNarrower world old new
  pub shown : (n : ℕ) → IsInCeiling (ceiling_rows world new) n portal → IsShown world.portals (IsInCeiling (ceiling_rows world old) n) portal n

-- a pass has found out that all rows lie within the reuse along a list
abbrev pub LieAlong : World → Findings → List ℕ → Type 0
LieAlong world pass list = (n q : ℕ) → IsInCeiling (ceiling_rows world pass) n q → IsInReuseAlong world.portals list q n

-- and the list is one of portals, in ascending order
pub record IsWorkList (world : World) (pass : Findings) (list : List ℕ) : Type 0 where
  pub along : LieAlong world pass list
  pub in_range : All (λ number. number < length world.portals) list
  pub ascends : IsStrictlyIncreasing list

-- so, of numbers below the next one
pub record IsWorkBelow (world : World) (pass : Findings) (next : ℕ) (list : List ℕ) : Type 0 where
  pub is_list : IsWorkList world pass list
  pub below : All (λ number. number < next) list

-- so many lists
pub record AreWorkLists (world : World) (pass : Findings) (count : ℕ) (lists : List (List ℕ)) : Type 0 where
  pub one_each : length lists ≡ count
  pub each : All (IsWorkList world pass) lists

-- some list has the portal
abbrev pub IsInSomeList : List (List ℕ) → ℕ → Type 0
IsInSomeList lists number = Any (λ list. Contains list number) lists

-- a list that ascends, and another one after it, of numbers below the next one
pub record IsGoneOn (list : List ℕ) (next : ℕ) : Type 0 where
  pub before : List ℕ
  pub after : List ℕ
  pub both : list ≡ before ++ after
  pub before_ascends : IsStrictlyIncreasing before
  pub after_ascends : IsStrictlyIncreasing after
  pub below : All (λ number. number < next) after

-- the first portals, so many, are settled: each stands in a list, the first one of which was gone on with
pub record AreSettled (world : World) (pass : Findings) (first : List ℕ) (others : List (List ℕ)) (next : ℕ) : Type 0 where
  pub along : LieAlong world pass first
  pub in_range : All (λ number. number < length world.portals) first
  pub gone_on : IsGoneOn first next
  pub rest : All (IsWorkList world pass) others
  pub each_stands : (number : ℕ) → number < next → IsInSomeList (first ∷ others) number

-- these are turns of so many workers, and a pass has found out that all rows lie within the reuse over them; one worker alone
-- takes all portals in order
pub record AreFinished (world : World) (pass : Findings) (workers : ℕ) (turns : List (List ℕ)) : Type 0 where
  pub are_turns : AreTurns workers (length world.portals) turns
  pub along : All (LieAlong world pass) turns
  pub alone : workers ≡ 1 → turns ≡ range_with_len 0 (length world.portals) ∷ []
