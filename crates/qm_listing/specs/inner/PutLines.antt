use Rattle.std.specs.Prelude.{◌≡◌, ℕ, List, ◌++◌, flat_map, length, slice_get, Some}
use Rattle.qm_contacts.specs.Portals.{Portal}
use Rattle.qm_listing.specs.declared.listing.PrtPortal.{PrtPortal}
use Rattle.qm_listing.specs.Grammar.{portal_layout}
use Rattle.qm_listing.specs.WorldListing.{IsLineOf, AreLinesOf}

-- the line is that of the portal at the place
abbrev pub HasLine : List Portal → ℕ → PrtPortal → Type 0
HasLine portals p line = (portal : Portal) × (slice_get portals p ≡ Some portal) × IsLineOf portal line

-- these are so many lines, and they were put behind bytes
pub record PutLines (portals : List Portal) (lines : List PrtPortal) (passages : ℕ) (before after : List ℕ) : Type 0 where
  pub lines_are : AreLinesOf portals lines
  pub count : length lines ≡ passages
  pub bytes : after ≡ before ++ flat_map (portal_layout 0).bytes_of lines

-- the lines of so many passages were put behind bytes
abbrev pub ArePutLines : List Portal → ℕ → List ℕ → List ℕ → Type 0
ArePutLines portals passages before after = (lines : List PrtPortal) × PutLines portals lines passages before after
