use Rattle.std.specs.Prelude.{◌≡◌, ℕ, ◌⊎◌, Bool, List, length, Some, slice_get, ◌↔◌}
use Rattle.qm_lists.specs.WorkList.{IsIn}
use Rattle.qm_contacts.specs.Portals.{Portal}

-- The row of a leaf, over given rows of the portals.

-- the row of a portal that leaves the leaf n has the leaf k
pub record IsSeenThrough (portals : List Portal) (rows : List (List Bool)) (n k : ℕ) : Type 0 where
  pub place : ℕ
  pub portal : Portal
  pub row : List Bool
  pub portal_is : slice_get portals place ≡ Some portal
  pub row_is : slice_get rows place ≡ Some row
  pub from : portal.from ≡ n
  pub seen : IsIn row k

-- the leaf itself, and all leaves in the rows of the portals that leave it
abbrev pub IsInLeafRow : List Portal → List (List Bool) → ℕ → ℕ → Type 0
IsInLeafRow portals rows n k = (k ≡ n) ⊎ IsSeenThrough portals rows n k

-- a row with a Bool for each leaf has exactly these
pub record IsLeafRow (portals : List Portal) (rows : List (List Bool)) (leaves n : ℕ) (row : List Bool) : Type 0 where
  pub one_each : length row ≡ leaves
  pub exactly : (k : ℕ) → IsIn row k ↔ IsInLeafRow portals rows n k

-- the rows of all leaves, in their order
pub record AreLeafRows (portals : List Portal) (rows : List (List Bool)) (leaves : ℕ) (leaf_rows : List (List Bool)) : Type 0 where
  pub one_each : length leaf_rows ≡ leaves
  pub each : (n : ℕ) (row : List Bool) → slice_get leaf_rows n ≡ Some row → IsLeafRow portals rows leaves n row
