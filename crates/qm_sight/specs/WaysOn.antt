use Rattle.std.specs.Prelude.{◌≡◌, ℕ, List, ◌∷◌, [], Contains}
use Rattle.qm_partition.specs.Tree.{Tree}
use Rattle.qm_contacts.specs.Portals.{Portal}
use Rattle.qm_segments.specs.SeenVia.{IsSeenVia}
use Rattle.qm_segments.specs.Ahead.{IsAhead}
use Rattle.qm_separators.specs.ChainState.{ChainState}
use Rattle.qm_separators.specs.PortalSteps.{StepsThrough, BlocksAt, LetsPass, MeetsState}

-- How a chain goes on from a state, in the leaf of number n, towards a leaf of number k that is ahead of it. In all of them p
-- is the portal with which the chain begins, and the leaves in the list were met before.

-- some portal leads on: it leaves the leaf, and enters one that was not met before; the leaf that is ahead is seen via it; the
-- step there does not block, and after it the leaf is ahead again
pub record IsLedOn (tree : Tree) (portals : List Portal) (p : Portal) (state : ChainState) (n : ℕ) (met_before : List ℕ) (k : ℕ) : Type 0 where
  pub portal : Portal
  pub listed : Contains portals portal
  pub from : portal.from ≡ n
  pub new : Contains met_before portal.to → ⊥
  pub via : IsSeenVia tree p portal k
  pub not_blocked : BlocksAt state portal → ⊥
  pub ahead : (next : ChainState) → StepsThrough state portal next → IsAhead MeetsState tree p next portal.to (portal.to ∷ met_before) k

-- a portal of a way there: the state lets it pass, the leaf is seen via it, and it enters none of the leaves met before
pub record IsOnWay (tree : Tree) (p : Portal) (state : ChainState) (met_before : List ℕ) (k : ℕ) (q : Portal) : Type 0 where
  pub passed : LetsPass state q
  pub via : IsSeenVia tree p q k
  pub new : Contains met_before q.to → ⊥

-- the step straight to a portal, next to the last one or not, does not block, and after it the leaf is ahead
pub record IsLedStraight (tree : Tree) (p q : Portal) (state : ChainState) (k : ℕ) : Type 0 where
  pub not_blocked : BlocksAt state q → ⊥
  pub ahead : (next : ChainState) → StepsThrough state q next → IsAhead MeetsState tree p next q.to (q.to ∷ q.from ∷ p.to ∷ p.from ∷ []) k
