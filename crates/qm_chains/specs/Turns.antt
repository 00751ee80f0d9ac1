use Rattle.std.specs.Prelude.{◌≡◌, ℕ, zero, suc, Bool, List, [], ◌∷◌, length, slice_index_or}
use Rattle.qm_lists.specs.WorkList.{IsIn}
use Rattle.qm_contacts.specs.Portals.{Portal}
use Rattle.qm_coarse_rows.specs.CoarseRow.{IsInCoarseRow}
use Rattle.qm_chains.specs.Shown.{IsAt, IsShown}

-- Rows of portals that are found in turns. Each turn finds the row of one portal anew, by open chains over the rows as they
-- stand then, and it replaces the one before.

-- the leaf of number n is in the coarse row of the portal of number q
pub record IsInCoarseRowAt (portals : List Portal) (n q : ℕ) : Type 0 where
  pub portal : Portal
  pub portal_is : IsAt portals q portal
  pub in_row : IsInCoarseRow portals portal n

-- After the turns of portals of these numbers, the latest first, the row of the portal of number q may have the leaf of
-- number n: its coarse row has it, and for each turn of q some open chain shows it over portals whose rows might have it then.
abbrev pub MayHaveAfter : List Portal → List ℕ → ℕ → ℕ → Type 0
MayHaveAfter portals [] n q = IsInCoarseRowAt portals n q
MayHaveAfter portals (p ∷ turns) n q = MayHaveAfter portals turns n q × (q ≡ p → IsShown portals (MayHaveAfter portals turns n) p n)

-- the portals of the first numbers, each once, the latest first
abbrev pub turns_up_to : ℕ → List ℕ
turns_up_to zero = []
turns_up_to (suc k) = k ∷ turns_up_to k

-- the leaf of number n is in the reuse of the portal of number q: its row may have it once each portal had its turn, in
-- order of their numbers
abbrev pub IsInReuse : List Portal → ℕ → ℕ → Type 0
IsInReuse portals q n = MayHaveAfter portals (turns_up_to (length portals)) n q

-- rows, one for each portal in their order, lie within what they may have after these turns
abbrev pub LieWithinTurns : List Portal → List ℕ → List (List Bool) → Type 0
LieWithinTurns portals turns rows = (n q : ℕ) → IsIn (slice_index_or rows q []) n → MayHaveAfter portals turns n q

-- rows, one for each portal in their order, lie within the reuse of their portals
abbrev pub LieInReuse : List Portal → List (List Bool) → Type 0
LieInReuse portals rows = (n q : ℕ) → IsIn (slice_index_or rows q []) n → IsInReuse portals q n
