use Rattle.std.specs.Prelude.{◌≡◌, ℕ, List, [], ◌∷◌, ◌++◌, All, Some, slice_get}
use Rattle.std.specs.List.{AllZip}
use Rattle.qm_contacts.specs.Portals.{Portal}
use Rattle.qm_segments.specs.OpenChain.{IsOpenChain}
use Rattle.qm_separators.specs.ChainState.{ChainState}
use Rattle.qm_separators.specs.PortalSteps.{BeginsWith, StepsThrough}

-- Open chains whose portals each have a property. A portal is known by its number, its place in the list of portals.

-- the portal has the number
abbrev pub IsAt : List Portal → ℕ → Portal → Type 0
IsAt portals number q = slice_get portals number ≡ Some q

-- the leaf of number n is shown from the portal of number p: some open chain from p ends in it, each of whose portals, the
-- first included, has the property
pub record IsShown (portals : List Portal) (Has : ℕ → Type 0) (p n : ℕ) : Type 0 where
  pub first : Portal
  pub first_is : IsAt portals p first
  pub last : Portal
  pub before : List Portal
  pub state : ChainState
  pub open_chain : IsOpenChain BeginsWith StepsThrough portals first (last ∷ before) state
  pub ends : last.to ≡ n
  pub later : List ℕ
  pub numbers_are : AllZip (IsAt portals) (later ++ p ∷ []) (last ∷ before)
  pub each_has : All Has (later ++ p ∷ [])
