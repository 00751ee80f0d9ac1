use Rattle.std.specs.Prelude.{◌≡◌, ℕ, Bool, List, length, Contains, ◌↔◌}
use Rattle.std.specs.List.{AllZip}
use Rattle.qm_lists.specs.Reach.{Reach}
use Rattle.qm_lists.specs.WorkList.{IsIn}
use Rattle.qm_convex.specs.Sides.{HasCornerInFront, HasCornerBehind}
use Rattle.qm_contacts.specs.Portals.{Portal}

-- The coarse row of a portal: the leaves to which one comes from it by portals that may follow it.

-- a line that goes through the portal p may go through the portal q after it: q has a corner strictly in front of p's
-- turned plane, and p has a corner strictly behind q's turned plane
pub record MayFollow (p q : Portal) : Type 0 where
  pub in_front : HasCornerInFront q.winding p.into
  pub behind : HasCornerBehind p.winding q.into

-- one of the portals that may follow p leads from the leaf a to the leaf b
pub record GoesOnFrom (portals : List Portal) (p : Portal) (a b : ℕ) : Type 0 where
  pub portal : Portal
  pub listed : Contains portals portal
  pub from : portal.from ≡ a
  pub to : portal.to ≡ b
  pub follows : MayFollow p portal

-- the least set of leaves that has the one that p enters, and to which it goes on from each of them
abbrev pub IsInCoarseRow : List Portal → Portal → ℕ → Type 0
IsInCoarseRow portals p n = Reach (λ m. m ≡ p.to) (GoesOnFrom portals p) n

-- a row with a Bool for each leaf has exactly these
pub record IsCoarseRow (portals : List Portal) (leaves : ℕ) (p : Portal) (row : List Bool) : Type 0 where
  pub one_each : length row ≡ leaves
  pub exactly : (n : ℕ) → IsIn row n ↔ IsInCoarseRow portals p n

-- the coarse rows of all portals, in their order
abbrev pub AreCoarseRows : List Portal → ℕ → List (List Bool) → Type 0
AreCoarseRows portals leaves rows = AllZip (IsCoarseRow portals leaves) portals rows
