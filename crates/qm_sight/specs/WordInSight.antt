use Rattle.std.specs.Prelude.{◌≡◌, ℕ, ◌+◌, ◌*◌, ◌<◌, Bool, true, List, [], Some, slice_get, slice_index_or}
use Rattle.qm_lists.specs.Word.{has_bit}
use Rattle.qm_lists.specs.WorkList.{IsIn}
use Rattle.qm_contacts.specs.Portals.{Portal}
use Rattle.qm_contacts.specs.World.{World}
use Rattle.qm_segments.specs.Sight.{IsInSight}

-- A word that is read of a portal's row, by its bits.

-- each bit of word k that is set is a place of the row
abbrev pub IsWordWithin : List Bool → ℕ → ℕ → Type 0
IsWordWithin row k word = (bit : ℕ) → bit < 64 → has_bit word bit ≡ true → IsIn row (64 * k + bit)

-- no bit of word k is clear for a leaf in sight of the portal at a place
abbrev pub LacksNoneInSight : World → ℕ → ℕ → ℕ → Type 0
LacksNoneInSight world place k word =
    (portal : Portal) → slice_get world.portals place ≡ Some portal → (bit : ℕ) → bit < 64 → IsInSight world.tree portal (64 * k + bit) → has_bit word bit ≡ true

-- the ceiling of the portal at a place: the leaves that an answer can have
abbrev pub ceiling_of : List (List Bool) → ℕ → List Bool
ceiling_of ceilings place = slice_index_or ceilings place []

-- each ceiling lies within another one of that place
abbrev pub LieWithin : List (List Bool) → List (List Bool) → Type 0
LieWithin less more = (place n : ℕ) → IsIn (ceiling_of less place) n → IsIn (ceiling_of more place) n
