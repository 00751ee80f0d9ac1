use Rattle.std.specs.Prelude.{ℕ, Bool, List, [], slice_index_or}
use Rattle.qm_lists.specs.WorkList.{IsIn}
use Rattle.qm_contacts.specs.Portals.{Portal}
use Rattle.qm_separators.specs.PortalSteps.{IsInChainBound}
use Rattle.qm_chains.specs.Shown.{IsAt}

-- rows, one for each portal in their order, lie within the bounds of their portals: each of their leaves ends an open chain
abbrev pub LieInBounds : List Portal → List (List Bool) → Type 0
LieInBounds portals rows = (n q : ℕ) (portal : Portal) → IsAt portals q portal → IsIn (slice_index_or rows q []) n → IsInChainBound portals portal n
